-- Each answer of the source, by the tests that lead to it. Laws.
use mathlib.Core.Path.{◌≡◌}
use mathlib.Core.List.{List}
use Prim.Native.Nat.{ℕ, ◌+◌, ◌≤◌, ◌<◌}
use borrow.Author.Tests.{eq-eqb, ne_eqb, lt-ltb, le-ltb, le-leb, lt-leb}
use lib.ListN.{length}
use Rattle.std.specs.Prelude.{Ok, Err}
use Rattle.refusals.specs.declared.Refusal.TheVariants.{KeyLength, PastStream}
use Rattle.wordsource.specs.Stream.{key_bytes, word_limit, stream_words}
use Rattle.wordsource.specs.Filled.{filled}

module _ (key : List ℕ) (start : ℕ) (words : List ℕ) where
  pub other_key : (length key ≡ key_bytes → ⊥) → (Err KeyLength, words) ≡ filled key start words
  unfolding filled
  other_key n = rw (ne_eqb _ _ n)

  module _ (e : length key ≡ key_bytes) where
    pub start_beyond : word_limit ≤ start → (Err PastStream, words) ≡ filled key start words
    unfolding filled
    start_beyond h = rw (eq-eqb _ _ e, le-ltb start word_limit h)

    pub runs_past : start < word_limit → word_limit < start + length words → (Err PastStream, words) ≡ filled key start words
    unfolding filled
    runs_past h l = rw (eq-eqb _ _ e, lt-ltb start word_limit h, lt-leb (start + length words) word_limit l)

    pub within : start < word_limit → start + length words ≤ word_limit → (words' : List ℕ) → words' ≡ stream_words key start (length words) → (Ok (length words), words') ≡ filled key start words
    unfolding filled
    within h l words' w = rw (eq-eqb _ _ e, lt-ltb start word_limit h, le-leb (start + length words) word_limit l, w)
