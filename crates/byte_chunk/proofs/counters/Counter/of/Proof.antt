-- `of` makes the struct that takes no bytes; its count is the number that the caller picks.
use Rattle.byte_chunk.proofs.lemmas.{[], ◌∷◌, refl}
use Rattle.std.proofs.raw_atomic.Walks.{proved}
use mir.Val.{vstruct, vnil}
use base.Fml.{ftrue}
use types.Kit.{‵, ◌⊛◌, ◌$◌, ◌∵◌, !, qed, keep, suffices, done}
use types.Part.{agg}
use types.Run.{enter, returns, no_more}
use types.ByLocal.{alloc_all, pass_all, free_all, look_at, sets}
use denote.Shadow.{pure_i}
use denote.Steps.{nothing}
use denote.Triple.Walked.{says, ends_at}
use Rattle.byte_chunk.specs.contracts.counters.Counter.{the_row}
use Rattle.byte_chunk.specs.contracts.counters.Counter.of as f
use Rattle.byte_chunk.proofs.counters.Counter.of.Statement.{statement}
use Rattle.byte_chunk.proofs.counters.Counter.of.Code as code

pub of_spec : {M : Type 1} → statement M
of_spec 𝓤 𝓛 𝓜 𝓡 wired =
    let c = f.clauses 𝓛 𝓜.mem 𝓡.returns in
    proved 𝓛 f.ended tt c 𝓜 𝓡 tt f.Key.name code.function (code.unfolded 𝓤 𝓛.H 𝓜 𝓡 wired) (λ κs. tt) (λ κs. tt)
    (λ κs qs bounds a n are.
    qed 𝓛 ((‵ ftrue ⊛ ‵ ftrue) ∷ ‵ ftrue ∷ []) ∵ keep ! [] $ enter ! _ _ _ _ _ $ alloc_all ! (λ l. pass_all ! refl tt $
    sets ! (agg ! (no_more !)) refl (tt, tt) $ returns ! (look_at ! 0 refl) $ free_all ! refl $
    suffices ! _ (ends_at 𝓛 f.ended tt c ((tt, tt, tt, tt, tt), n) (vstruct vnil) n tt tt) $ says ! refl $
    pure_i ! (the_row.own_val n (vstruct vnil ∷ [])) (λ x. (((λ _. (tt, tt)), tt), tt))
    ((record { count = n }, (refl, tt)), (((tt, (refl, tt)), tt), tt)) $
    nothing ! $ nothing ! $ done !))
