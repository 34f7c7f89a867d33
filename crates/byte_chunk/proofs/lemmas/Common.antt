-- The names that the proofs here cite most, passed on from one place. Declares nothing.
pub use Rattle.std.proofs.Common.{◌≡◌, ℕ, zero, suc, ◌+◌, ◌-◌, ◌*◌, ◌/◌, ◌%◌, ◌^◌, ◌<◌, ◌≤◌, min, Bool, true, false, cond, ◌&&◌, eqb, ltb, List, [], ◌∷◌, ◌++◌, map, length, get_or, take, drop, set, replicate, if◌then◌else◌, nat_eq, nat_lt, ◌==◌, bit_and, bit_or, bit_xor, fold, sum, sym, refl, ap, ◌∙◌, subst, ap₂, inl, inr, append_assoc, mul-le-mul_right, mod-eq_of_lt, mul_comm, pow-suc, arith, length-append, length-drop, take-append-drop, length-take-le, get_or-take, take_at, ext_get_or, pow-add, w8, w64, Fits, rules, eq-eqb, eqb-true, add_comm}
pub use Rattle.std.proofs.iter.Serving.{serving}
pub use Rattle.std.proofs.lemmas.Bool.{agree_below_at, cases_lt}
pub use Rattle.std.proofs.lemmas.Bool.Decides.{nat_tests}
pub use Rattle.std.proofs.lemmas.Grind.{and_high_numeral, common_steps}
pub use Rattle.std.proofs.lemmas.List.{drop_all, get_or-map, length-map, drop-append-le, drop_more}
pub use Rattle.std.proofs.lemmas.Nat.{le_or_l, le_or_r, div-mul-add, div_below, shr_below, field_of, and_le_l, and_le_r, and_comm, xor_lt, and_mask, or_shifted, and_shr, or_shr, xor_shr, and_mod, or_mod, xor_mod, one_shl, mod-mul-add}
pub use Rattle.std.proofs.lemmas.Simd.{Each1-from_get_or, get_or-zip2, zip2_splat, zip2_splat_left, zip2_of_maps, pick_l-range_with_len, length-zip2, sum_bound, sum_fits, bytes_below, length-replicate, get_or-replicate}
pub use Rattle.std.specs.Simd.Lanes.{zip2, Each2, fold_l, Steps, Each1, pick_l, sel_l, top, digits_l}
unfoldable pub use Rattle.byte_chunk.specs.Lanes.{word_lanes, is_byte, is_between}
