use Rattle.text_rope.proofs.lemmas.{[], sym, arith, append-nil}
use Rattle.text_rope.proofs.cursor.chunk_of_leaf.Goals as goal

pub returns : goal.returns
returns c =
    let told = c.chunk_up_to-place.ensures in
    record {
      leaf = record {
        front = [];
        back = [];
        parts = sym (append-nil c.args.chunks.now);
        index_is = told.chunk;
        place = omega (arith, told.start);
      };
      after = omega (arith, told.before, c.requires.after);
      inside = omega (arith, told.within, c.requires.after);
    }
