-- A loop that lends chunks puts one more at the end of a list.
--     IsLent now c                   a chunk as C has it is that of a cursor, and ends where it does (lent_end)
--     IsNextAt text at cs now        where a cursor is that goes on after the chunks of a list
--     more_at                        its chunk comes to the list          next_at    and where it is after that
--     IsNextBefore text at cs now    where a cursor is that goes back before them
--     more_before                    its chunk comes to the list          next_before    and where it is after that
--     set_at, set_before, set_rest, set_sized    and where a loop puts the chunk into the room after the list's chunks
use Rattle.std.specs.Prelude.{All, IsTrue, List, [], ◌∷◌, chars, drop, false, length, slice_set, take}
use Rattle.std.proofs.Common.{◌≡◌, ℕ, ◌+◌, ◌-◌, ◌<◌, ◌≤◌, ◌++◌, ap, arith, inl, inr, refl, subst, sym, ◌∙◌}
use Rattle.std.proofs.lemmas.Bool.{cases_lt, false≢true}
use Rattle.std.proofs.lemmas.List.{drop-drop, drop-set-lt, take_more_set}
use Rattle.std.proofs.lemmas.List.Elements.{All-append, All-cons, All-nil}
use Rattle.str_indices.specs.Text.{Text, size}
use Rattle.text_rope.specs.Chunks.{CursorState, IsChunkAt, HasChunkAt}
use Rattle.text_rope.specs.ChunkSizes.{max_chunk, IsFilled, IsFull}
use Rattle.text_rope.specs.declared.chunks.ChunkAt.{ChunkAt}
use Rattle.text_rope_c.specs.ChunkLists.{IsSized, AreChunksAt, AreChunksBefore, AreChunksFrom, AreChunksTo, end_after, end_of, start_after, text_of}
use Rattle.text_rope.proofs.lemmas.Callers.{filled_full, in_text}
use Rattle.text_summary.specs.Pieces.{joined}
use Rattle.text_rope_c.specs.declared.reads.Chunk.{Chunk}

abbrev pub IsNextAt : Text → ℕ → List Chunk → CursorState → Type 0
IsNextAt text at [] now = IsChunkAt text now.chunk now.start at
IsNextAt text at (c ∷ cs) now = now.start ≡ end_after (end_of c) cs

abbrev pub IsNextBefore : Text → ℕ → List Chunk → CursorState → Type 0
IsNextBefore text at [] now = (0 < at) × IsChunkAt text now.chunk now.start (at - 1)
IsNextBefore text at (c ∷ cs) now = now.start + size now.chunk ≡ start_after c.start cs

-- a chunk as C has it is that of a cursor
pub record IsLent (now : CursorState) (c : Chunk) : Type 0 where
  pub text : text_of c ≡ now.chunk
  pub start : c.start ≡ now.start

pub is_lent : (now : CursorState) (c : Chunk) (chunk : ChunkAt) → c.text.now ≡ chunk.text.now → c.start ≡ chunk.start
    → chars chunk.text.now ≡ now.chunk → chunk.start ≡ now.start → IsLent now c
is_lent now c chunk text start chunk_text chunk_start = record {
  text = ap chars text ∙ chunk_text;
  start = start ∙ chunk_start;
}

pub lent_end : (now : CursorState) (c : Chunk) → IsLent now c → end_of c ≡ now.start + size now.chunk
lent_end now c lent =
    ap (λ (s : ℕ). s + size (text_of c)) lent.start ∙ ap (λ (x : Text). now.start + size x) lent.text

lent_at : (text : Text) (at : ℕ) (now : CursorState) (c : Chunk) → IsLent now c → IsChunkAt text now.chunk now.start at
    → IsChunkAt text (text_of c) c.start at
lent_at text at now c lent is =
    subst (λ (x : Text). IsChunkAt text x c.start at) (sym lent.text)
    (subst (λ (s : ℕ). IsChunkAt text now.chunk s at) (sym lent.start) is)

from_more : (text : Text) (at : ℕ) (cs : List Chunk) (now : CursorState) (c : Chunk) → AreChunksFrom text at cs
    → now.start ≡ end_after at cs → IsLent now c → IsChunkAt text now.chunk now.start now.start → AreChunksFrom text at (cs ++ c ∷ [])
from_more text at [] now c are is lent part = (
  lent.start ∙ is,
  lent_at text at now c lent (subst (λ (s : ℕ). IsChunkAt text now.chunk now.start s) is part),
  tt,
)
from_more text at (d ∷ ds) now c are is lent part = (are.0, are.1, from_more text (end_of d) ds now c are.2 is lent part)

pub more_at : (text : Text) (at : ℕ) (cs : List Chunk) (now : CursorState) (c : Chunk) → AreChunksAt text at cs
    → IsNextAt text at cs now → IsLent now c → IsChunkAt text now.chunk now.start now.start → AreChunksAt text at (cs ++ c ∷ [])
more_at text at [] now c are is lent part = (lent_at text at now c lent is, tt)
more_at text at (d ∷ ds) now c are is lent part = (are.0, from_more text (end_of d) ds now c are.1 is lent part)

pub ended_at : (at : ℕ) (cs : List Chunk) (c : Chunk) → end_after at (cs ++ c ∷ []) ≡ end_of c
ended_at at [] c = refl
ended_at at (d ∷ ds) c = ended_at (end_of d) ds c

pub next_at : (text : Text) (at : ℕ) (cs : List Chunk) (now : CursorState) (c : Chunk) → now.start ≡ end_of c
    → IsNextAt text at (cs ++ c ∷ []) now
next_at text at [] now c is = is
next_at text at (d ∷ ds) now c is = is ∙ sym (ended_at (end_of d) ds c)

to_more : (text : Text) (at : ℕ) (cs : List Chunk) (now : CursorState) (c : Chunk) → AreChunksTo text at cs
    → now.start + size now.chunk ≡ start_after at cs → IsLent now c → IsChunkAt text now.chunk now.start now.start
    → AreChunksTo text at (cs ++ c ∷ [])
to_more text at [] now c are is lent part = (
  lent_end now c lent ∙ is,
  lent_at text c.start now c lent (subst (λ (s : ℕ). IsChunkAt text now.chunk now.start s) (sym lent.start) part),
  tt,
)
to_more text at (d ∷ ds) now c are is lent part = (are.0, are.1, to_more text d.start ds now c are.2 is lent part)

pub more_before : (text : Text) (at : ℕ) (cs : List Chunk) (now : CursorState) (c : Chunk) → AreChunksBefore text at cs
    → IsNextBefore text at cs now → IsLent now c → IsChunkAt text now.chunk now.start now.start
    → AreChunksBefore text at (cs ++ c ∷ [])
more_before text at [] now c are is lent part = (is.0, lent_at text (at - 1) now c lent is.1, tt)
more_before text at (d ∷ ds) now c are is lent part = (are.0, are.1, to_more text d.start ds now c are.2 is lent part)

pub began_before : (at : ℕ) (cs : List Chunk) (c : Chunk) → start_after at (cs ++ c ∷ []) ≡ c.start
began_before at [] c = refl
began_before at (d ∷ ds) c = began_before d.start ds c

pub next_before : (text : Text) (at : ℕ) (cs : List Chunk) (now : CursorState) (c : Chunk) → now.start + size now.chunk ≡ c.start
    → IsNextBefore text at (cs ++ c ∷ []) now
next_before text at [] now c is = is
next_before text at (d ∷ ds) now c is = is ∙ sym (began_before d.start ds c)

-- what a loop that goes on knows of the room where the chunk of a cursor came to those before it
pub record IsSetAt (text : Text) (at : ℕ) (lent : List Chunk) (c : Chunk) : Type 0 where
  pub chunks : AreChunksAt text at lent
  pub end : end_after at lent ≡ end_of c
  pub next : (now : CursorState) → now.start ≡ end_of c → IsNextAt text at lent now

pub set_at : (text : Text) (at : ℕ) (out : List Chunk) (n : ℕ) (now : CursorState) (c : Chunk) → n < length out
    → AreChunksAt text at (take n out) → IsNextAt text at (take n out) now → IsLent now c → joined now.view.texts ≡ text
    → HasChunkAt now.view.texts now.chunk now.start now.start → IsSetAt text at (take (n + 1) (slice_set out n c)) c
set_at text at out n now c room are is lent same part =
    subst (λ (cs : List Chunk). IsSetAt text at cs c) (sym (take_more_set out n c room)) (record {
      chunks = more_at text at (take n out) now c are is lent
          (subst (λ (x : Text). IsChunkAt x now.chunk now.start now.start) same (in_text part));
      end = ended_at at (take n out) c;
      next = λ after starts. next_at text at (take n out) after c starts;
    })

-- a loop that goes back keeps the chunks that it has put into the room
pub record IsSetBefore (text : Text) (at : ℕ) (lent : List Chunk) (c : Chunk) : Type 0 where
  pub chunks : AreChunksBefore text at lent
  pub start : start_after at lent ≡ c.start
  pub next : (now : CursorState) → now.start + size now.chunk ≡ c.start → IsNextBefore text at lent now

pub set_before : (text : Text) (at : ℕ) (out : List Chunk) (n : ℕ) (now : CursorState) (c : Chunk) → n < length out
    → AreChunksBefore text at (take n out) → IsNextBefore text at (take n out) now → IsLent now c → joined now.view.texts ≡ text
    → HasChunkAt now.view.texts now.chunk now.start now.start → IsSetBefore text at (take (n + 1) (slice_set out n c)) c
set_before text at out n now c room are is lent same part =
    subst (λ (cs : List Chunk). IsSetBefore text at cs c) (sym (take_more_set out n c room)) (record {
      chunks = more_before text at (take n out) now c are is lent
          (subst (λ (x : Text). IsChunkAt x now.chunk now.start now.start) same (in_text part));
      start = began_before at (take n out) c;
      next = λ after ends. next_before text at (take n out) after c ends;
    })

pub set_rest : (out old : List Chunk) (n : ℕ) (c : Chunk) → drop n out ≡ drop n old
    → drop (n + 1) (slice_set out n c) ≡ drop (n + 1) old
set_rest out old n c same =
    drop-set-lt (n + 1) out n c (omega arith) ∙ sym (drop-drop 1 n out) ∙ ap (drop 1) same ∙ drop-drop 1 n old

pub set_sized : (text : Text) (out : List Chunk) (n : ℕ) (now : CursorState) (c : Chunk) → n < length out
    → All (IsSized text) (take n out) → IsLent now c → joined now.view.texts ≡ text → IsFilled now.view.texts
    → HasChunkAt now.view.texts now.chunk now.start now.start → size now.chunk ≤ max_chunk
    → All (IsSized text) (take (n + 1) (slice_set out n c))
set_sized text out n now c room are lent same filled own short =
    let sized : IsSized text c = record {
      short = subst (λ (x : Text). size x ≤ max_chunk) (sym lent.text) short;
      full = subst (IsFull text) (sym lent.text) (subst (λ (x : Text). IsFull x now.chunk) same (filled_full filled own));
    } in
    subst (All (IsSized text)) (sym (take_more_set out n c room))
    (All-append (IsSized text) (take n out) (c ∷ []) are (All-cons (IsSized text) c [] sized (All-nil (IsSized text))))

-- a number that is below no other: where a step was refused there is no more
pub no_more : (m n : ℕ) → (m < n → IsTrue false) → n ≤ m
no_more m n none = elim (cases_lt m n) [
  | inl less ↦ absurd (false≢true (none less))
  | inr at_most ↦ at_most
]
