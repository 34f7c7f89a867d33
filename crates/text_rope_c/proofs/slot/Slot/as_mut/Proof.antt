-- `as_mut` opens the borrow of a handle, and lends the text in its block: the handle ends with the last text in the same block.
use Rattle.std.proofs.Common.{◌≡◌, ◌≢◌, ℕ, List, [], ◌∷◌, refl, sym}
use seplogic.Ra.Ura.{Ura}
use base.Fraction.{full_share}
use mir.Raw.{raw as bare}
use mir.Syntax.{named}
use mir.Val.{Val, vptr}
use base.Logic.{SProp, ent, sep, id⊢}
use base.Fml.{GName, Fml, ftrue, flft, fsep}
use prog.Memory.{Memory}
use prog.Routine.{Routine}
use contract.Monad.{Fun}
use denote.Triple.Clauses.{Clauses}
use types.Logic.{Logic, sem}
use types.Kit.{‵, ◌⊛◌, some, at_ret, ◌$◌, ◌∵◌, !, qed, by, move, keep, use1, drop, split, join, pick, fsplit, fsplit3, fjoin, suffices, frame, done, raw, later, await, group, fpack, rewrite}
use types.Part.{whole, sub, look_in}
use types.Run.{stop, fld, load, of_opd, first, blocks, exec, returns, enter, addr}
use types.ByLocal.{alloc_all, pass_all, free_all, look_at, get, through, sets, env, sets_last}
use contract.Running.{tables}
use denote.Exit.{no}
use denote.RattleType.{owns}
use denote.Memory.{part_at, mem, cell_at, part_of, lone}
use denote.RawPtr.{Ptr, block_ptr}
use denote.Ref.{MutRef, mut_vals, mut_Tells}
use denote.Signature.{plain, mut_ref_to}
use denote.Steps.{nothing, opens, heard}
use denote.Follow.{follows, Part, lends_Part}
use denote.Triple.Walked.{says, Stays, stay_dropped, walk_of, ends_at, Goes-spent_ref}
use Rattle.std.proofs.alloc.Shapes.{after}
use Rattle.std.proofs.raw_atomic.Walks.{proved}
use Rattle.std.specs.Box.Ownership.{box_owns}
use Rattle.std.specs.contracts.impls.GlobalAllocator.TheImpl.{ghosts}
use Rattle.str_indices.specs.Text.{Text}
use Rattle.text_rope.specs.contracts.rope.Rope.{the_row as Rope}
use Rattle.text_rope_c.specs.Kept.{heap, kept, null}
use Rattle.text_rope_c.specs.Lends.{with_text}
use Rattle.text_rope_c.proofs.Slots.{Slot, word, slot_out, slot_in, slot_cases}
use Rattle.text_rope_c.specs.contracts.slot.Slot.as_mut.{ended, clauses}
use Rattle.text_rope_c.specs.contracts.slot.Slot.as_mut.Key.{name as #self}
use Rattle.text_rope_c.proofs.slot.Slot.as_mut.Statement.{statement}
use Rattle.text_rope_c.proofs.slot.Slot.as_mut.Code as code

abbrev stayed : Stays ended.signature.params ended.kept
stayed = (stay_dropped (mut_ref_to (0 ∷ []) tt (plain (λ _. Slot))) no, tt)

module _ {M : Type 1} {𝓤 : Ura M} (𝓛 : Logic 𝓤) (rb ro : ℕ) (h : Slot.Denot) (b o : ℕ) where
  -- all of the handle but its text
  abbrev Rest : Fml
  Rest = fsep (ghosts.dealloc_token heap (bare (lone Rope.mir)) (block_ptr b o)) (cell_at full_share Slot.mir (word (block_ptr b o) ∷ []) rb ro)

  back : h.at ≡ block_ptr b o → (w : Text) → ent 𝓤 (sep 𝓤 (sem 𝓛 ((mem Rope).own_at w b o)) (sem 𝓛 Rest)) (sem 𝓛 ((mem Slot).own_at (with_text h w) rb ro))
  unfolding part_of
  back is w =
      qed 𝓛 (‵ (part_at Rope full_share w b o) ∷ ‵ Rest ∷ []) ∵ move ! (1 ∷ []) $ fsplit ! $ move ! (2 ∷ 0 ∷ []) $ fjoin ! $
      use1 𝓛 (‵ (kept (block_ptr b o) w)) (id⊢ 𝓤 _) $ slot_in ! (block_ptr b o) w $
      rewrite ! 0 (λ (p : Ptr). ‵ (Slot.own_val (record { at = p; text = w }) (word (block_ptr b o) ∷ []))) (sym is) refl $ move ! (1 ∷ 0 ∷ []) $ fjoin ! $
      fpack ! (List Val) (λ us. fsep (cell_at full_share Slot.mir us rb ro) (Slot.own_val (with_text h w) us)) (word (block_ptr b o) ∷ []) $ done !

module _ {M : Type 1} {𝓤 : Ura M} (𝓛 : Logic 𝓤) (at_mem : Memory → SProp 𝓤) (run : Routine → Fun 𝓤) where
  abbrev c : Clauses 𝓤 ended
  c = clauses 𝓛 at_mem run

  exits : (z : (walk_of 𝓛 ended stayed c).Ghost) (b o : ℕ) (γ' : GName)
      → ent 𝓤 (sep 𝓤 (sem 𝓛 ((MutRef (named 0) z.0.0.0 Rope).own_val (record { ref_ptr = (b, o); ghost_name = γ'; now = z.0.3.0.now.text }) (vptr b o ∷ [])))
      (sep 𝓤 (𝓛.A.lft z.0.0.0 z.0.1.0) (sem 𝓛 (follows Slot Rope z.0.3.0.ghost_name γ' (with_text z.0.3.0.now))))) ((walk_of 𝓛 ended stayed c).post z (vptr b o))
  exits z b o γ' =
      qed 𝓛 (‵ ((MutRef (named 0) z.0.0.0 Rope).own_val (record { ref_ptr = (b, o); ghost_name = γ'; now = z.0.3.0.now.text }) (vptr b o ∷ [])) ∷ ‵ (flft z.0.0.0 z.0.1.0) ∷ ‵ (follows Slot Rope z.0.3.0.ghost_name γ' (with_text z.0.3.0.now)) ∷ []) ∵
      suffices ! _ (ends_at 𝓛 ended stayed c z (vptr b o) (record { ref_ptr = (b, o); ghost_name = γ'; now = z.0.3.0.now.text }) (tt, tt) (tt, tt)) $
      nothing ! $ nothing ! $ fjoin ! $ join ! $ nothing ! $ move ! (2 ∷ 0 ∷ []) $ join ! $ join ! $ frame ! $ says ! refl $ done !

pub as_mut_spec : {M : Type 1} → statement M
as_mut_spec 𝓤 𝓛 𝓜 𝓡 wired =
    let H = 𝓛.H in let A = 𝓛.A in let 𝓣 = tables 𝓤 H 𝓜 𝓡 𝓡.env in let c = clauses 𝓛 𝓜.mem 𝓡.returns in let fn = code.function in
    proved 𝓛 ended stayed c 𝓜 𝓡 (Goes-spent_ref 𝓛 1 (0 ∷ []) tt (plain (λ _. Slot)), tt) #self fn (code.unfolded 𝓤 H 𝓜 𝓡 wired) (λ κs. (mut_vals, tt)) (λ κs. (mut_Tells (named 0) κs.0 Slot, tt)) (λ κs qs bounds a g are.
    let κ = κs.0 in let q = qs.0 in let rb = a.0.ref_ptr.0 in let ro = a.0.ref_ptr.1 in let γ = a.0.ghost_name in let h = a.0.now in
    let Post : Val → SProp 𝓤 = (walk_of 𝓛 ended stayed c).post ((κs, qs, bounds, a, (vptr rb ro ∷ [], tt)), g) in
    qed 𝓛 (((‵ (flft κ q) ⊛ ‵ ftrue) ⊛ ‵ (owns (MutRef (named 0) κ Slot ∷ []) a (vptr rb ro ∷ [], tt))) ∷ raw ((c κs a).requires g) ∷ []) ∵
    move ! (1 ∷ []) $ heard ! (h.at ≢ null) (λ full. split ! $
    enter ! 𝓣.C 𝓣.Λ fn (vptr rb ro ∷ []) Post $ alloc_all ! (λ l. pass_all ! refl ((tt, tt), tt) $ let En = env fn.locals l in
    move ! (1 ∷ []) $ fsplit ! $ fsplit3 ! $ drop ! $ move ! (3 ∷ []) $ split ! $ move ! (2 ∷ 3 ∷ 0 ∷ []) $
    opens ! tt Slot {h = h} rb ro (λ vs. move ! (1 ∷ []) $ slot_out ! h vs (λ ws. slot_cases ! h.at h.text (λ is empty. absurd (full is)) (λ b o is told.
    -- [what is kept; the handle's word; the open borrow; obs; auth; ..]
    rewrite ! 1 (λ (us : List Val). ‵ (cell_at full_share Slot.mir us rb ro)) ws refl $
    rewrite ! 1 (λ (p : Ptr). ‵ (cell_at full_share Slot.mir (word p ∷ []) rb ro)) is refl $
    use1 𝓛 (‵ (box_owns (ghosts.dealloc_token heap) Rope (block_ptr b o) h.text)) (id⊢ 𝓤 _) $ fsplit ! $
    use1 𝓛 (‵ (part_at Rope full_share h.text b o)) (id⊢ 𝓤 _) $
    -- [the text; the right to free it; the word; the open borrow; obs; auth; ..]
    first ! $ blocks ! $
    sets ! (of_opd ! (load ! (through ! refl (fld ! refl (stop !))) (look_in ! 2 (sub ! 0 refl (whole !))))) refl (tt, tt) $ sets ! (of_opd ! (get ! refl)) refl (tt, tt) $
    sets_last ! (addr ! (through ! refl (stop !))) refl (tt, tt) $ exec ! 𝓣.C 𝓣.Λ En (after 1 fn.body) (at_ret En Post) $
    sets ! (of_opd ! (get ! refl)) refl (tt, tt) $
    move ! (1 ∷ 2 ∷ []) $ fjoin ! $ move ! (2 ∷ 3 ∷ 4 ∷ 1 ∷ 0 ∷ []) $ group ! 5 $
    use1 𝓛 (later (some (λ (γ' : GName). raw (Part 𝓛 Slot Rope (with_text h) (named 0) κ q rb ro b o γ (sem 𝓛 (Rest 𝓛 rb ro h b o)) (back 𝓛 rb ro h b o is) h.text γ'))))
    (lends_Part 𝓛 Slot Rope (with_text h) (named 0) κ q rb ro b o γ (sem 𝓛 (Rest 𝓛 rb ro h b o)) (back 𝓛 rb ro h b o is) (Slot.coded.code h) (Slot.coded.code h) h.text) $ await ! tt $ pick ! (λ γ'.
    returns ! (look_at ! 0 refl) $ free_all ! refl $ keep ! (0 ∷ []) $ by ! (exits 𝓛 𝓜.mem 𝓡.returns ((κs, qs, bounds, a, (vptr rb ro ∷ [], tt)), g) b o γ'))))))))
