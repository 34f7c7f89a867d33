use Rattle.text_rope.proofs.lemmas.{◌≡◌, ◌≢◌, ◌<◌, ◌-◌, ◌∙◌, [], sym, chars, length, take, joined, joined_size, piece_at, get_or_default, IsBoundary, IsReplaced, IsShift, changed_if, some_after, boundaries_at}
use Rattle.std.specs.Prelude.{OnOk}
use Rattle.std.proofs.lemmas.List.Elements.{All-set}
use Rattle.text_rope.specs.Leaves.{HasBytes}
use Rattle.text_rope.proofs.leaf.Leaf.replace_in_place.Goals as goal

pub returns-then-from-place-clause-each : goal.returns-then-from-place-clause-each
returns-then-from-place-clause-each c = rw c.self.view_is at c.self.invariant.each

pub returns-clause-each : goal.returns-clause-each
returns-clause-each c =
    let chunks = c.self.inside.chunks.items in
    let i = c.chunk_up_to-place.result.chunk in
    let chunk = c.index_mut.result.now in
    let own = c.replace_in_place.new.self in
    let told = c.replace_in_place.ensures in
    let inside : i < length chunks = rw c.as_slice.ensures.value at c.chunk_up_to-place.ensures.chunk in
    let here : chunk ≡ piece_at chunks i = c.index_mut.ensures.value ∙ get_or_default chunks i chunk [] inside in
    let some : chunk ≢ [] = λ none. c.self.invariant.each i [] inside (sym here ∙ none) in
    All-set HasBytes chunks i own (some_after chunk own c.replace_in_place.new.shift c.replace_in_place.result told.shift told.err some) c.self.invariant.each

pub returns-clause-changed : goal.returns-clause-changed
returns-clause-changed c =
    let chunks = c.self.inside.chunks.items in
    let place = c.chunk_up_to-place.result in
    let chunk = c.index_mut.result.now in
    let own = c.replace_in_place.new.self in
    let result = c.replace_in_place.result in
    let weight = c.replace_in_place.new.shift in
    let told = c.replace_in_place.ensures in
    let inside : place.chunk < length chunks = rw c.as_slice.ensures.value at c.chunk_up_to-place.ensures.chunk in
    let start : place.start ≡ joined_size (take place.chunk chunks) = rw c.as_slice.ensures.value at c.chunk_up_to-place.ensures.start in
    let here : chunk ≡ piece_at chunks place.chunk = c.index_mut.ensures.value ∙ get_or_default chunks place.chunk chunk [] inside in
    let replaced : OnOk result (IsReplaced (piece_at chunks place.chunk) own (c.args.from - place.start) (c.args.to - place.start) (chars c.args.more.now)) =
    rw here at told.replaced in
    let shift : OnOk result (IsShift (piece_at chunks place.chunk) own weight) = rw here at told.shift in
    rw (← c.self.view_is) (changed_if chunks place.chunk place.start c.args.from c.args.to own (chars c.args.more.now) weight result
    inside start c.if-from-place.false replaced shift)

pub returns-clause-not_boundary : goal.returns-clause-not_boundary
returns-clause-not_boundary c refused both =
    let chunks = c.self.inside.chunks.items in
    let place = c.chunk_up_to-place.result in
    let chunk = c.index_mut.result.now in
    let told = c.replace_in_place.ensures in
    let inside : place.chunk < length chunks = rw c.as_slice.ensures.value at c.chunk_up_to-place.ensures.chunk in
    let start : place.start ≡ joined_size (take place.chunk chunks) = rw c.as_slice.ensures.value at c.chunk_up_to-place.ensures.start in
    let here : chunk ≡ piece_at chunks place.chunk = c.index_mut.ensures.value ∙ get_or_default chunks place.chunk chunk [] inside in
    let from : IsBoundary (joined chunks) c.args.from = rw (← c.self.view_is) at both.0 in
    let to : IsBoundary (joined chunks) c.args.to = rw (← c.self.view_is) at both.1 in
    let within = rw c.as_slice.ensures.value at c.chunk_up_to-place.ensures.within in
    told.not_boundary.0 refused (rw here (boundaries_at chunks place.chunk place.start c.args.from c.args.to inside start
    c.if-from-place.false c.requires.order within (from, to)))
