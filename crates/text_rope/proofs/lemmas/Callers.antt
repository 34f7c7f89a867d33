-- What the proofs of other crates may cite of this one.
pub use Rattle.text_rope.proofs.lemmas.Edits.{count-replaced, count-inserted, count-removed}
pub use Rattle.text_rope.proofs.lemmas.Costs.{none_asked, asked_after, asked_within}
pub use Rattle.text_rope.proofs.lemmas.Positions.{asks}
pub use Rattle.text_rope.proofs.lemmas.Places.{in_text, filled_full}
pub use Rattle.text_rope.proofs.lemmas.Sending.{chunks_send, chunks_sync, rope_send}
