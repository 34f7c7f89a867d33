use Rattle.std.specs.Prelude.{◌⊎◌, IsOk, String}
use Rattle.text_rope.proofs.lemmas.{◌≡◌, ◌∙◌, refl, inl, inr, ap, arith, chars, string_bytes, IsUtf8, IsReplaced, size, size-chars, size-replaced, some_of}
use Rattle.text_rope.proofs.chunk.Chunk.replace_part.Goals as goal

-- the text, or a copy of it
same_bytes : {A : Type 0} (own text : String A) → (own ≡ text) ⊎ (string_bytes own ≡ string_bytes text)
    → string_bytes own ≡ string_bytes text
same_bytes own text (inl same) = ap string_bytes same
same_bytes own text (inr copy) = copy

pub replace_range-requires-clause-start : goal.replace_range-requires-clause-start
replace_range-requires-clause-start c =
    let is : chars (string_bytes c.has_memory.new.text) ≡ c.args.self.now =
    ap chars (c.has_memory.ensures.text ∙ same_bytes c.in-Ok.text.now _ c.in-Ok.ensures.value) ∙ c.self.view_is in
    rw is c.requires.start

pub replace_range-requires-clause-end : goal.replace_range-requires-clause-end
replace_range-requires-clause-end c =
    let is : chars (string_bytes c.has_memory.new.text) ≡ c.args.self.now =
    ap chars (c.has_memory.ensures.text ∙ same_bytes c.in-Ok.text.now _ c.in-Ok.ensures.value) ∙ c.self.view_is in
    rw is c.requires.end

pub replace_range-requires-clause-room : goal.replace_range-requires-clause-room
replace_range-requires-clause-room c =
    let before = c.in-Ok.text.now in
    let text = c.has_memory.new.text in
    let is : chars (string_bytes text) ≡ c.args.self.now =
    ap chars (c.has_memory.ensures.text ∙ same_bytes c.in-Ok.text.now _ c.in-Ok.ensures.value) ∙ c.self.view_is in
    let read : IsUtf8 (string_bytes before) = rw c.as_str-text.ensures.value at c.as_str-text.utf8 in
    let utf8 : IsUtf8 (string_bytes text) = rw (← c.has_memory.ensures.text) at read in
    omega (
      arith,
      size-chars (string_bytes text) utf8,
      ap size is,
      c.has_memory.ensures.room c.if-not-has_memory.false,
      c.summary_after-after.ensures.len,
      c.requires.room,
      text.bytes.ok,
    )

pub of-self-inside-requires : goal.of-self-inside-requires
of-self-inside-requires c =
    let new = chars (string_bytes c.replace_range.new.text) in
    let is : chars (string_bytes c.has_memory.new.text) ≡ c.args.self.now =
    ap chars (c.has_memory.ensures.text ∙ same_bytes c.in-Ok.text.now _ c.in-Ok.ensures.value) ∙ c.self.view_is in
    let r : IsReplaced c.args.self.now new c.args.from c.args.to (chars c.args.more.now) = rw is at c.replace_range.ensures in
    let sizes = size-replaced c.args.self.now new c.args.from c.args.to (chars c.args.more.now) r in
    let in_size = size-chars c.args.more.now c.utf8.more in
    record { text = new; right = c.summary_after-after.ensures.summary new (rw c.own_text.ensures.text r); short = omega (arith, sizes, in_size, c.requires.room) }

pub invariant_of-self-2 : goal.invariant_of-self-2
invariant_of-self-2 c =
    let new = chars (string_bytes c.replace_range.new.text) in
    let is : chars (string_bytes c.has_memory.new.text) ≡ c.args.self.now =
    ap chars (c.has_memory.ensures.text ∙ same_bytes c.in-Ok.text.now _ c.in-Ok.ensures.value) ∙ c.self.view_is in
    let r : IsReplaced c.args.self.now new c.args.from c.args.to (chars c.args.more.now) = rw is at c.replace_range.ensures in
    let sizes = size-replaced c.args.self.now new c.args.from c.args.to (chars c.args.more.now) r in
    let in_size = size-chars c.args.more.now c.utf8.more in
    let ok : IsOk c.make_mut.result = rw c.in-Ok.is refl in
    rw (c.make_mut.follows.holds c.replace_range.new.text ok) (record {
      right = c.of-self-inside.ensures ∙ c.summary_after-after.ensures.summary new (rw c.own_text.ensures.text r);
      some = some_of new (λ none. omega (arith, sizes, in_size, none, c.requires.some, c.requires.order));
      short = omega (arith, sizes, in_size, c.requires.room);
    })

pub invariant_of-self-then-not-has_memory : goal.invariant_of-self-then-not-has_memory
invariant_of-self-then-not-has_memory c =
    let ok : IsOk c.make_mut.result = rw c.in-Ok.is refl in
    let is = ap chars (c.has_memory.ensures.text ∙ same_bytes c.in-Ok.text.now _ c.in-Ok.ensures.value) in
    rw (c.make_mut.follows.holds c.has_memory.new.text ok, is) c.self.invariant

pub returns-then-not-has_memory-clause-err : goal.returns-then-not-has_memory-clause-err
returns-then-not-has_memory-clause-err c =
    let ok : IsOk c.make_mut.result = rw c.in-Ok.is refl in
    let is = ap chars (c.has_memory.ensures.text ∙ same_bytes c.in-Ok.text.now _ c.in-Ok.ensures.value) in
    rw (c.make_mut.follows.holds c.has_memory.new.text ok) (is ∙ c.self.view_is)

pub returns-clause-replaced : goal.returns-clause-replaced
returns-clause-replaced c =
    let new = chars (string_bytes c.replace_range.new.text) in
    let is : chars (string_bytes c.has_memory.new.text) ≡ c.args.self.now =
    ap chars (c.has_memory.ensures.text ∙ same_bytes c.in-Ok.text.now _ c.in-Ok.ensures.value) ∙ c.self.view_is in
    let r : IsReplaced c.args.self.now new c.args.from c.args.to (chars c.args.more.now) = rw is at c.replace_range.ensures in
    let ok : IsOk c.make_mut.result = rw c.in-Ok.is refl in
    rw (c.make_mut.follows.holds c.replace_range.new.text ok) r

pub returns-clause-len : goal.returns-clause-len
returns-clause-len c =
    let new = chars (string_bytes c.replace_range.new.text) in
    let is : chars (string_bytes c.has_memory.new.text) ≡ c.args.self.now =
    ap chars (c.has_memory.ensures.text ∙ same_bytes c.in-Ok.text.now _ c.in-Ok.ensures.value) ∙ c.self.view_is in
    let r : IsReplaced c.args.self.now new c.args.from c.args.to (chars c.args.more.now) = rw is at c.replace_range.ensures in
    let sizes = size-replaced c.args.self.now new c.args.from c.args.to (chars c.args.more.now) r in
    let in_size = size-chars c.args.more.now c.utf8.more in
    let ok : IsOk c.make_mut.result = rw c.in-Ok.is refl in
    rw (c.make_mut.follows.holds c.replace_range.new.text ok) (omega (arith, sizes, in_size))

pub returns-clause-shift : goal.returns-clause-shift
returns-clause-shift c =
    let new = chars (string_bytes c.replace_range.new.text) in
    let is : chars (string_bytes c.has_memory.new.text) ≡ c.args.self.now =
    ap chars (c.has_memory.ensures.text ∙ same_bytes c.in-Ok.text.now _ c.in-Ok.ensures.value) ∙ c.self.view_is in
    let r : IsReplaced c.args.self.now new c.args.from c.args.to (chars c.args.more.now) = rw is at c.replace_range.ensures in
    let own = c.summary_after-after.ensures.summary new (rw c.own_text.ensures.text r) in
    let sizes = size-replaced c.args.self.now new c.args.from c.args.to (chars c.args.more.now) r in
    let in_size = size-chars c.args.more.now c.utf8.more in
    let ok : IsOk c.make_mut.result = rw c.in-Ok.is refl in
    rw (c.make_mut.follows.holds c.replace_range.new.text ok) (record {
      out = c.summary-out.ensures.summary;
      own = own;
      some = c.summary-out.ensures.some;
      some_new = some_of new (λ none. omega (arith, sizes, in_size, none, c.requires.some, c.requires.order));
    })
