use Rattle.std.specs.Prelude.{Option, min}
use Rattle.std.specs.Option.{option_copied}
use Rattle.text_rope.proofs.lemmas.{◌≡◌, ◌+◌, ◌-◌, ◌*◌, List, Text, joined_size, Seen, takes_both}
use Rattle.text_rope.specs.States.{texts_of}
use Rattle.text_rope.specs.Work.{WorkState, Costs, IsHeightOf, TakesLog, height_of}
use Rattle.text_rope.proofs.changes.append_trees.Goals as goal

-- what one join of both costs
join_of_both : (front back : Option Seen) (xs ys : List Text) (old new : WorkState) → texts_of front ≡ xs → texts_of back ≡ ys
    → IsHeightOf (height_of front) (joined_size (texts_of front)) → IsHeightOf (height_of back) (joined_size (texts_of back))
    → Costs old new (6 * ((height_of front - height_of back) + (height_of back - height_of front)) + 3)
    (16 * (1 - min (height_of front) (height_of back))) → TakesLog 6 16 (joined_size xs + joined_size ys) 0 old new
join_of_both front back xs ys old new front_is back_is low low_back costs =
    let of_front : IsHeightOf (height_of front) (joined_size xs) = rw front_is at low in
    let of_back : IsHeightOf (height_of back) (joined_size ys) = rw back_is at low_back in
    takes_both (height_of front) (height_of back) (joined_size xs) (joined_size ys) old new of_front of_back costs

pub returns-in_err-join_options-clause-work : goal.returns-in_err-join_options-clause-work
returns-in_err-join_options-clause-work c =
    join_of_both (option_copied c.root-front.result) (option_copied c.root-back.result) c.args.front.now c.args.back.now c.args.work.now c.join_options.new.work
    c.root-front.ensures.chunks c.root-back.ensures.chunks
    c.height_of.ensures.low c.height_of-2.ensures.low c.join_options.ensures.work

pub returns-clause-work : goal.returns-clause-work
returns-clause-work c =
    join_of_both (option_copied c.root-front.result) (option_copied c.root-back.result) c.args.front.now c.args.back.now c.args.work.now c.join_options.new.work
    c.root-front.ensures.chunks c.root-back.ensures.chunks
    c.height_of.ensures.low c.height_of-2.ensures.low c.join_options.ensures.work
