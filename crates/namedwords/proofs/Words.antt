-- The words that are named: whether the stream has them, and those for the starting chance and for the tree. Assumes nothing.
use mathlib.Core.Path.{◌≡◌, refl, sym, ap, ap₂, ◌∙◌}
use mathlib.Core.Bool.{Bool, true, false, not, and-false}
use mathlib.Core.List.{List, [], ◌∷◌, ◌++◌}
use Prim.Native.Nat.{ℕ, zero, suc, ◌+◌, ◌-◌, ◌*◌, ◌≤◌, ◌<◌, min}
use native.Mathlib.Nat.{add-zero}
use native.Mathlib.Omega.{arith}
use borrow.Author.Tests.{ltb-true, ltb-false, lt-ltb, leb-true, le-leb, lt-leb, eq-eqb, eqb-true, not-true, not-false}
use lib.Dec.{eqb, ltb, leb}
use lib.ListN.{length, get_or, take, drop}
use lib.Seq.{length-take-le, drop-nil, sets}
use Rattle.limits.specs.Limits.{capacity_limit}
use Rattle.text.proofs.Stores.{sets_front}
use Rattle.hexbytes.specs.Hex.{are_digits}
use Rattle.hexbytes.proofs.Digits.{bytes_long}
use Rattle.std.specs.Prelude.{Result}
use Rattle.refusals.specs.declared.Refusal.{Refusal}
use Rattle.wordsource.specs.Stream.{key_bytes, stream_word, word_limit, stream_words}
use Rattle.wordsource.specs.Filled.{is_stretch, filled}
use Rattle.namedwords.specs.Named.{is_named, key_in, first_in, row_words, is_beyond, named_in}
use Rattle.namedwords.proofs.Fields.{both, has_key}

-- ---- whether the stream has them: `last_first` is the code's `LAST`
abbrev last_first : ℕ
last_first = word_limit - row_words

last : (n : ℕ) → ltb last_first n ≡ not (is_stretch n row_words)
last n = go (ltb last_first n) refl
  where
    go : (t : Bool) → ltb last_first n ≡ t → t ≡ not (is_stretch n row_words)
    go true e = let h = ltb-true last_first n e in let l : word_limit < n + row_words = omega arith in rw (lt-leb _ _ l, and-false)
    go false e =
        let h = ltb-false last_first n e in
        let l : n < word_limit = omega arith in
        let m : n + row_words ≤ word_limit = omega arith in
        rw (lt-ltb _ _ l, le-leb _ _ m)

module _ (qs : List (List ℕ)) where
  pub not_beyond : {t : Bool} → t ≡ is_named qs → t ≡ false → false ≡ is_beyond qs
  unfolding is_beyond
  not_beyond q z = rw (sym q ∙ z)

  module _ (n : is_named qs ≡ true) where
    pub beyond_last : {x : ℕ} → x ≡ first_in qs → ltb last_first x ≡ is_beyond qs
    unfolding is_beyond
    beyond_last {x} q = rw n (ap (ltb last_first) q ∙ last (first_in qs))

    module _ {u : Bool} (b : u ≡ is_beyond qs) where
      pub had : u ≡ false → is_stretch (first_in qs) row_words ≡ true
      unfolding is_beyond
      had z = not-false _ (rw n at (sym b ∙ z))

      pub named_had : u ≡ false → named_in qs ≡ stream_words (key_in qs) (first_in qs) row_words
      unfolding named_in
      named_had z = rw (had z)

      pub named_empty : u ≡ true → named_in qs ≡ []
      unfolding is_beyond named_in
      named_empty z = let e : is_stretch (first_in qs) row_words ≡ false = not-true _ (rw n at (sym b ∙ z)) in rw e

-- ---- so many of them
pub words_long : (key : List ℕ) (n count : ℕ) → length (stream_words key n count) ≡ count
unfolding stream_words
words_long key n zero = refl
words_long key n (suc count) = ap suc (words_long key (n + 1) count)

words_first : (key : List ℕ) (n count m k : ℕ) → k ≡ min m count → take m (stream_words key n count) ≡ stream_words key n k
unfolding stream_words
words_first key n zero zero zero e = refl
words_first key n zero (suc m) zero e = refl
words_first key n zero m (suc k) e = absurd (omega arith)
words_first key n (suc count) zero zero e = refl
words_first key n (suc count) zero (suc k) e = absurd (omega arith)
words_first key n (suc count) (suc m) zero e = absurd (omega arith)
words_first key n (suc count) (suc m) (suc k) e = ap (λ (l : List ℕ). stream_word key n ∷ l) (words_first key (n + 1) count m k (omega arith))

drop_past : (l : List ℕ) (m k : ℕ) → k ≡ min (length l) m → drop m l ≡ drop k l
drop_past [] m k e = drop-nil m ∙ sym (drop-nil k)
drop_past (x ∷ l) zero zero e = refl
drop_past (x ∷ l) zero (suc k) e = absurd (omega arith)
drop_past (x ∷ l) (suc m) zero e = absurd (omega arith)
drop_past (x ∷ l) (suc m) (suc k) e = drop_past l m k (omega arith)

-- ---- as the source of words fills them in, so many after the first
pub stretch_end : (n : ℕ) → is_stretch n row_words ≡ true → n + row_words ≤ word_limit
stretch_end n e = leb-true (n + row_words) word_limit (both (ltb n word_limit) (leb (n + row_words) word_limit) e).1

stretch_part : (n skip count : ℕ) → n + row_words ≤ word_limit → skip < row_words → skip + count ≤ row_words → is_stretch (n + skip) count ≡ true
stretch_part n skip count e h k =
    let x : n + skip < word_limit = omega arith in
    let y : n + skip + count ≤ word_limit = omega arith in
    rw (lt-ltb _ _ x, le-leb _ _ y)

pub filled_is : (qs : List (List ℕ)) → is_named qs ≡ true → is_stretch (first_in qs) row_words ≡ true → {key : List ℕ} {n : ℕ} → key ≡ key_in qs → n ≡ first_in qs → (skip : ℕ) (words : List ℕ) → skip < row_words → skip + length words ≤ row_words
    → {r : Result ℕ Refusal} {after : List ℕ} → (r, after) ≡ filled key (n + skip) words → after ≡ stream_words (key_in qs) (first_in qs + skip) (length words)
unfolding filled
filled_is qs m e p q skip words h k f =
    let digits : length (get_or qs 0 []) ≡ 2 * key_bytes = eqb-true (length (get_or qs 0 [])) (2 * key_bytes) (both (eqb (length (get_or qs 0 [])) (2 * key_bytes)) (are_digits (get_or qs 0 [])) (has_key qs m)).0 in
    let l : length (key_in qs) ≡ key_bytes = bytes_long (get_or qs 0 []) key_bytes digits in
    let t = stretch_part (first_in qs) skip (length words) (stretch_end (first_in qs) e) h k in
    ap (λ (x : Result ℕ Refusal × List ℕ). x.1) (rw (p, q, eq-eqb _ _ l, t) at f)

module _ (qs : List (List ℕ)) (n : is_named qs ≡ true) {u : Bool} (b : u ≡ is_beyond qs) where
  -- the starting chance's
  pub chance_none : u ≡ true → 0 ≡ get_or (named_in qs) 0 0
  chance_none z = rw (named_empty qs n b z)

  pub chance_is : u ≡ false → {words : List ℕ} → words ≡ stream_words (key_in qs) (first_in qs + 0) 1 → get_or words 0 0 ≡ get_or (named_in qs) 0 0
  unfolding stream_words
  chance_is z e = rw (e, named_had qs n b z, add-zero)

  -- the tree's
  tree_words : u ≡ false → drop 1 (named_in qs) ≡ stream_words (key_in qs) (first_in qs + 1) capacity_limit
  unfolding stream_words
  tree_words z = rw (named_had qs n b z)

  module _ (l : List ℕ) where
    pub words_none : u ≡ true → (0 ≡ length (drop 1 (named_in qs))) × (l ≡ sets l 0 (drop 1 (named_in qs)))
    words_none z = (rw (named_empty qs n b z), rw (named_empty qs n b z))

    -- those that fit into a buffer
    pub words_are : u ≡ false → {k : ℕ} → k ≡ min (length l) capacity_limit → {words : List ℕ} → words ≡ stream_words (key_in qs) (first_in qs + 1) (length (take k l))
        → (capacity_limit ≡ length (drop 1 (named_in qs))) × (words ++ drop k l ≡ sets l 0 (drop 1 (named_in qs)))
    words_are z {k} e {words} f =
        let tree = stream_words (key_in qs) (first_in qs + 1) capacity_limit in
        let long : length tree ≡ capacity_limit = words_long (key_in qs) (first_in qs + 1) capacity_limit in
        let fit : take (length l) tree ≡ words = words_first (key_in qs) (first_in qs + 1) capacity_limit (length l) k e ∙ sym (rw (length-take-le k l (omega arith)) at f) in
        let stay : drop (length tree) l ≡ drop k l = ap (λ (i : ℕ). drop i l) long ∙ drop_past l capacity_limit k e in
        rw (tree_words z) (sym long, sym (sets_front l tree ∙ ap₂ ◌++◌ fit stay))
