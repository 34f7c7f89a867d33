use Rattle.byte_chunk.proofs.lemmas.{ap, ◌∙◌, replicate, eqb-true, eq-eqb, no_bits, no_bits_of_zeros}
use Rattle.byte_chunk.proofs.vectors.is_zero.Goals as goal

pub returns : goal.returns
returns g c = (
  λ none. (no_bits 0 c.args.lanes (eqb-true _ 0 none)).1 ∙ ap (λ n. replicate n 0) c.fits-lanes.0,
  λ zeros. eq-eqb _ 0 (rw zeros (no_bits_of_zeros g.row.N)),
)
