-- The lemmas that proofs of other crates may cite: of lanes in a number, and of lists of lanes.
pub use Rattle.byte_chunk.proofs.lemmas.Lanewise.{Each2-replicate}
pub use Rattle.byte_chunk.proofs.lemmas.Words.{word_load, word_zero, word_splat, word_is_zero, word_shift_back, word_shr, word_across, word_is_byte, word_is_between, word_and, word_add, word_add_fits, word_sub, word_sub_fits, one_in_lane, word_inc, word_inc_fits, word_dec, word_dec_fits, word_sum}
