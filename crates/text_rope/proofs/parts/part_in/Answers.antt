use Rattle.text_rope.proofs.lemmas.{joined, short_of, text_of_place}
use Rattle.text_rope.proofs.parts.part_in.Goals as goal

pub of_piece-requires-clause-summary : goal.of_piece-requires-clause-summary
of_piece-requires-clause-summary c = rw c.requires.text c.summary-own.ensures.summary

pub of_piece-requires-clause-followed : goal.of_piece-requires-clause-followed
of_piece-requires-clause-followed c =
    let chunk = c.args.place.now.chunk.now in
    record {
      a = joined c.requires.placed.front;
      b = chunk;
      front_is = c.requires.placed.before_is;
      piece_is = c.summary-own.ensures.summary;
      some = c.summary-own.ensures.some;
      short = short_of c.args.v.now.texts c.requires.placed.front chunk c.requires.placed.back c.requires.placed.parts c.len-len.ensures.short;
    }

pub returns-clause-part : goal.returns-clause-part
returns-clause-part c =
    let is = c.requires.placed in
    let chunk = c.args.place.now.chunk.now in
    rw (text_of_place c.args.v.now.texts is.front chunk is.back is.parts)
    (rw c.requires.text at (c.of_piece.ensures.part (joined is.front) (joined is.back) is.before_is))
