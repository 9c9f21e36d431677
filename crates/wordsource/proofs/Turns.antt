-- One turn of the loops that fill a list: a word more of a block, a block more of the stream. Laws.
use mathlib.Core.Path.{◌≡◌, sym, ap, ap₂, ◌∙◌}
use mathlib.Core.List.{List, [], ◌∷◌, ◌++◌, append_assoc}
use Prim.Native.Nat.{ℕ, zero, suc, ◌+◌, ◌-◌, ◌*◌, ◌/◌, ◌%◌, ◌≤◌, ◌<◌}
use native.Mathlib.Numerals.{add-one}
use native.Mathlib.Omega.{arith}
use lib.ListN.{length, take, set}
use lib.Seq.{take-suc-set}
use Rattle.wordsource.specs.Stream.{stream_words}
use Rattle.wordsource.specs.Pairs.{pair_at, words_of}
use Rattle.wordsource.proofs.Stream.{block_at, stream_block, stream_append}

-- the last of a block's words
words_snoc : (block : List ℕ) (k count : ℕ) → words_of block k (suc count) ≡ words_of block k count ++ (pair_at block (k + count) ∷ [])
unfolding words_of
words_snoc block k zero = let e : k ≡ k + 0 = omega arith in ap (λ (n : ℕ). pair_at block n ∷ []) e
words_snoc block k (suc count) =
    let e : k + 1 + count ≡ k + suc count = omega arith in
    ap (λ (l : List ℕ). pair_at block k ∷ l) (words_snoc block (k + 1) count ∙ ap (λ (n : ℕ). words_of block (k + 1) count ++ (pair_at block n ∷ [])) e)

-- a word more: of a list that is written up to i, with a block's words from place `at` on
pub word_more : (block front words : List ℕ) (from at i v : ℕ) → at ≤ i → i < length words → take i words ≡ front ++ words_of block from (i - at) → v ≡ pair_at block (from + (i - at))
    → take (i + 1) (set words i v) ≡ front ++ words_of block from (i + 1 - at)
word_more block front words from at i v h l e f =
    let n : i + 1 - at ≡ suc (i - at) = omega arith in
    rw (add-one, take-suc-set words i v l, e, ← add-one, n, words_snoc block from (i - at), f, append_assoc)

-- a block more: of a list that has the stream's words up to i
pub block_more : (key : List ℕ) (start i j : ℕ) (words words' : List ℕ) → i ≤ j → (start + i) % 8 + (j - i) ≤ 8 → take i words ≡ stream_words key start i
    → take j words' ≡ take i words ++ words_of (block_at key ((start + i) / 8)) ((start + i) % 8) (j - i) → take j words' ≡ stream_words key start j
block_more key start i j words words' h l e f =
    let n : i + (j - i) ≡ j = omega arith in
    let m : 8 * ((start + i) / 8) + (start + i) % 8 ≡ start + i = omega arith in
    let now : stream_words key (start + i) (j - i) ≡ words_of (block_at key ((start + i) / 8)) ((start + i) % 8) (j - i)
    = ap (λ (k : ℕ). stream_words key k (j - i)) (sym m) ∙ stream_block key ((start + i) / 8) ((start + i) % 8) (j - i) l in
    f ∙ ap₂ ◌++◌ e (sym now) ∙ sym (stream_append key start i (j - i)) ∙ ap (stream_words key start) n
