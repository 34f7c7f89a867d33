-- `rope_chunks_before` hands on what `lend_chunks_before` answers.
use Rattle.std.proofs.Common.{◌^◌, List, [], ◌∷◌, refl, ap}
use mir.Syntax.{named, w64}
use mir.Val.{Val, vptr, vint}
use lib.ListN.{length}
use base.Logic.{SProp, id⊢}
use types.Kit.{‵, raw, ◌⊛◌, some, later, ◌$◌, ◌∵◌, !, qed, by, move, keep, drop, split, join, pick, use1, await, fsplit, fjoin, feq_i, feq_l, flt_i}
use types.Run.{stop, fld, hop, from, of_opd, addr, no_more, and_then, returns, enter}
use types.Part.{agg, sub, whole}
use types.ByLocal.{alloc_all, pass_all, free_all, look_at, look_in_at, get, get_in, through, sets, lands_as}
use contract.Running.{tables}
use denote.Builtin.{usize}
use denote.Exit.{no, yes}
use denote.Plain.{uint_vals, uint_Tells}
use denote.Signature.{plain, mut_ref_to, named_lft}
use denote.Ref.{mut_vals, mut_Tells}
use denote.Slice.{slice_val, mut_slice_vals, mut_slice_Tells}
use denote.Steps.{nothing, peeks, only}
use denote.Laws.{Is, shows}
use denote.Triple.Clauses.{Lasts, lasts, at_exit}
use denote.Triple.Entry.{Vals, alive, on_entry}
use denote.Triple.Spec.{triple_of}
use denote.Triple.Call.{calls_at}
use denote.Triple.Table.{framed}
use denote.Triple.Walked.{Stays, stay_dropped, gave_slice, walk_of, Goes-spent_ref, Goes-dropped, Goes-gave_slice}
use Rattle.std.proofs.raw_atomic.Walks.{proved, leaves}
use Rattle.text_rope_c.specs.contracts.slot.Slot.{the_row as Slot}
use Rattle.text_rope_c.specs.contracts.reads.Chunk.{the_row as Chunk}
use Rattle.text_rope_c.specs.contracts.chunk_lists.LentChunks.{the_row as Lent}
use Rattle.text_rope_c.specs.declared.chunk_lists.LentChunks.{LentChunks as Answer}
use Rattle.text_rope_c.proofs.chunk_lists.LentChunks.TheLaws as laws
use Rattle.text_rope_c.specs.contracts.chunk_lists.lend_chunks_before as callee
use Rattle.text_rope_c.proofs.chunk_lists.lend_chunks_before.Met.{met}
use Rattle.text_rope_c.specs.contracts.chunk_lists.rope_chunks_before.{ended, clauses}
use Rattle.text_rope_c.specs.contracts.chunk_lists.rope_chunks_before.Key.{name as #self}
use Rattle.text_rope_c.proofs.chunk_lists.rope_chunks_before.Statement.{statement}
use Rattle.text_rope_c.proofs.chunk_lists.rope_chunks_before.Code as code

abbrev stayed : Stays ended.signature.params ended.kept
stayed = (stay_dropped (mut_ref_to (0 ∷ []) tt (plain (λ _. Slot))) no, (stay_dropped (plain (λ _. usize)) yes, (gave_slice (1 ∷ []) tt (plain (λ κs. Chunk (named_lft 2 0 tt κs))), tt)))

pub rope_chunks_before_spec : {M : Type 1} → statement M
rope_chunks_before_spec 𝓤 𝓛 𝓜 𝓡 wired =
    let H = 𝓛.H in let 𝓣 = tables 𝓤 H 𝓜 𝓡 𝓡.env in let c = clauses 𝓛 𝓜.mem 𝓡.returns in let fn = code.function in
    proved 𝓛 ended stayed c 𝓜 𝓡 (Goes-spent_ref 𝓛 2 (0 ∷ []) tt (plain (λ _. Slot)), (Goes-dropped 𝓛 2 (plain (λ _. usize)) yes (λ κs x w. refl), (Goes-gave_slice 𝓛 2 1 tt (plain (λ κs. Chunk (named_lft 2 0 tt κs))), tt))) #self fn (code.unfolded 𝓤 H 𝓜 𝓡 wired)
    (λ κs. (mut_vals, (uint_vals w64, (mut_slice_vals, tt)))) (λ κs. (mut_Tells (named 0) κs.0 Slot, (uint_Tells w64, (mut_slice_Tells (named 1) κs.1.0 (Chunk (named_lft 2 0 tt κs)), tt)))) (λ κs qs bounds a g are.
    let κ = named_lft 2 0 tt κs in let at = a.1.0 in let out = a.1.1.0 in let vss : Vals ended.signature κs = (mut_vals a.0, (uint_vals w64 at, (mut_slice_vals out, tt))) in
    let y : (walk_of 𝓛 ended stayed c).Ghost = ((κs, qs, bounds, a, vss), g) in let Post : Val → SProp 𝓤 = (walk_of 𝓛 ended stayed c).post y in
    let k = triple_of 𝓛 callee.signature (callee.spec 𝓛 𝓜.mem 𝓡.returns) in
    let x : k.Ghost = ((κs, qs, bounds, a, vss), tt) in
    qed 𝓛 (raw (on_entry 𝓛 ended.signature κs qs a y.0.4) ∷ raw ((c κs a).requires g) ∷ []) ∵ join ! $ use1 𝓛 (raw (k.pre x)) (id⊢ 𝓤 _) $
    enter ! 𝓣.C 𝓣.Λ fn (vptr a.0.ref_ptr.0 a.0.ref_ptr.1 ∷ vint w64 at ∷ slice_val out.ref_ptr (length out.now) ∷ []) Post $ alloc_all ! (λ l. pass_all ! refl ((tt, tt), ((tt, record { fits = are.1.0.1 }), ((tt, (tt, (record { fits = are.1.1.0.0.1.0 }, tt))), tt))) $
    sets ! (addr ! (through ! refl (stop !))) refl (tt, tt) $ sets ! (addr ! (from ! (fld ! refl (hop ! (look_in_at ! 3 (sub ! 0 refl (whole !))) (stop !))))) refl (tt, tt) $
    sets ! (agg ! (and_then ! (get ! refl) (and_then ! (get_in ! (fld ! refl (stop !)) (sub ! 1 refl (whole !))) (no_more !)))) refl (tt, (tt, (record { fits = are.1.1.0.0.1.0 }, tt))) $
    calls_at ! (framed 𝓤 H 𝓜 𝓣) k (met 𝓤 𝓛 𝓜 𝓡 (code.calls-text_rope_c::chunk_lists::lend_chunks_before 𝓡.env wired)) x (and_then ! (get ! refl) (and_then ! (get ! refl) (and_then ! (get ! refl) (no_more !)))) (λ u.
    use1 𝓛 (later (some (λ (r : Answer). (raw (alive 𝓛 ended.signature κs qs) ⊛ ‵ ((Lent κ).own_val r (u ∷ []))) ⊛ some (λ (ws : Lasts ended κs a). ‵ (lasts ended κs a ws) ⊛ raw ((c κs a).ensures g r.count (at_exit ended κs a ws)))))) (id⊢ 𝓤 (k.post x u)) $
    await ! tt $ pick ! (λ r. split ! $ move ! (1 ∷ []) $ pick ! (λ ws. split ! $ fsplit ! $ drop ! $ fsplit ! $ drop ! $ fsplit ! $ fsplit ! $ fsplit ! $ move ! (1 ∷ []) $ feq_l ! (λ long. fjoin ! $ fjoin ! $ nothing ! $ fjoin ! $ nothing ! $ fjoin ! $ move ! (2 ∷ []) $ split ! $ move ! (1 ∷ []) $
    -- [the answer; the tokens; the last values; the clauses]
    peeks ! (Lent κ) (Is (Lent κ)) (shows 𝓛 (Lent κ)) r (u ∷ []) (λ is. drop ! $
    lands_as ! (ap only ((laws.lowers κ).val_is r (u ∷ []) is)) refl (tt, (record { fits = is.1.1.0.1 }, (tt, tt))) $
    sets ! (of_opd ! (get_in ! (fld ! refl (stop !)) (sub ! 0 refl (whole !)))) refl (tt, record { fits = is.1.1.0.1 }) $
    flt_i ! r.count (2 ^ 64) is.1.1.0.1 $ feq_i ! (List Val) (vint w64 r.count ∷ []) (vint w64 r.count ∷ []) refl $ fjoin ! $
    returns ! (look_at ! 0 refl) $ free_all ! refl $ keep ! (1 ∷ 2 ∷ 0 ∷ 3 ∷ []) $ by ! (leaves 𝓛 ended stayed c y (vint w64 r.count) r.count ws (tt, (tt, (long, tt)))))))))))
