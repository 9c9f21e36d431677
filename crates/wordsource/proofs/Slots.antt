-- The words of a stream slot by slot, and that two starts agree where they overlap. Assumes nothing.
use mathlib.Core.Path.{◌≡◌, refl, sym, ap, ◌∙◌}
use mathlib.Core.Bool.{Bool, true, false, cond, ◌&&◌, true≢false}
use mathlib.Core.List.{List}
use Prim.Native.Nat.{ℕ, zero, suc, ◌+◌, ◌≤◌}
use native.Mathlib.Omega.{arith}
use borrow.Author.Tests.{leb-true}
use lib.Dec.{eqb, ltb, leb}
use lib.ListN.{length}
use Rattle.std.specs.Prelude.{Result, Ok, Err}
use Rattle.refusals.specs.declared.Refusal.{Refusal}
use Rattle.refusals.specs.declared.Refusal.TheVariants.{KeyLength, PastStream}
use Rattle.wordsource.specs.Stream.{key_bytes, stream_word, word_limit, stream_words}
use Rattle.wordsource.specs.Filled.{is_stretch, filled, EachSlot, StartsAgree}

pub each_slot : EachSlot
unfolding stream_words
each_slot key start zero i d h = absurd (omega arith)
each_slot key start (suc count) zero d h = ap (stream_word key) (omega arith)
each_slot key start (suc count) (suc i) d h =
    let e : start + 1 + i ≡ start + suc i = omega arith in
    each_slot key (start + 1) count i d (omega arith) ∙ ap (stream_word key) e

-- no refusal says how many words were written
refused : {count : ℕ} {r : Refusal} {us vs : List ℕ} → ◌≡◌ {A = Result ℕ Refusal × List ℕ} (Ok count, us) (Err r, vs) → ⊥
refused {count} {r} e =
    let f : Ok count ≡ Err r = ap (λ (x : Result ℕ Refusal × List ℕ). x.0) e in
    let z : ◌≡◌ {A = ℕ} 0 1 = cc in
    omega arith

second : (a b : Bool) → (a && b) ≡ true → b ≡ true
second true b e = e
second false b e = absurd (true≢false (sym e))

-- what is answered so: as many words as the list has, which the stream has
written : (key : List ℕ) (start : ℕ) (words words' : List ℕ) (count : ℕ) → (Ok count, words') ≡ filled key start words → (words' ≡ stream_words key start count) × (start + count ≤ word_limit)
unfolding filled
written key start words words' count = go (eqb (length key) key_bytes) (is_stretch start (length words)) refl
  where
    go : (s t : Bool) → is_stretch start (length words) ≡ t → ◌≡◌ {A = Result ℕ Refusal × List ℕ} (Ok count, words') (cond s (cond t (Ok (length words), stream_words key start (length words)) (Err PastStream, words)) (Err KeyLength, words))
        → (words' ≡ stream_words key start count) × (start + count ≤ word_limit)
    go true true h e =
        let f : Ok count ≡ Ok (length words) = ap (λ (x : Result ℕ Refusal × List ℕ). x.0) e in
        let n : length words ≡ count = cc in
        (ap (λ (x : Result ℕ Refusal × List ℕ). x.1) e ∙ ap (stream_words key start) n, omega (arith, leb-true (start + length words) word_limit (second (ltb start word_limit) (leb (start + length words) word_limit) h)))
    go true false h e = absurd (refused e)
    go false t h e = absurd (refused e)

pub starts_agree : StartsAgree
starts_agree key m n us vs us' vs' p q e f i j d h k o =
    rw ((written key m us us' p e).0, (written key n vs vs' q f).0) (each_slot key m p i d h ∙ ap (stream_word key) o ∙ sym (each_slot key n q j d k))

-- no count is more than the stream has words
pub wrote_few : (key : List ℕ) (start : ℕ) (words words' : List ℕ) (count : ℕ) → (Ok count, words') ≡ filled key start words → count ≤ word_limit
wrote_few key start words words' count e = omega (arith, (written key start words words' count e).1)
