-- What the proofs of other crates may cite of this one.
pub use Rattle.piece_text.proofs.lemmas.Joining.{joined-append, joined-as_pieces, as_pieces-some}
