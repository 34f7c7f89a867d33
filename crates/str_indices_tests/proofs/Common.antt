-- The names that the proofs here cite most, passed on from one place. Declares nothing.
pub use Rattle.std.proofs.Common.{◌≡◌, ℕ, zero, suc, ◌+◌, ◌-◌, ◌<◌, ◌≤◌, List, [], ◌∷◌, map, get_or, replicate, refl, ap, ◌∙◌, ap₂, arith, get_or-set_other}
pub use Rattle.std.proofs.lemmas.Simd.{get_or-zip2, Each1-zip2, Each1-replicate, Each2-of, length-replicate, get_or-replicate}
pub use Rattle.std.specs.Simd.Lanes.{zip2, Each1}
pub use Rattle.byte_chunk.proofs.lemmas.Callers.{Each2-replicate, word_load, word_shr, one_in_lane, word_inc, word_inc_fits, word_dec, word_sum}
