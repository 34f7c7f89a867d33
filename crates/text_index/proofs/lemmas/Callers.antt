-- The lemmas that proofs of other crates may cite.
pub use Rattle.text_index.specs.Marks.{stretches_of}
