-- The stream in stretches and by the numbers of its blocks. Laws.
use mathlib.Core.Path.{◌≡◌, refl, ap, ap₂, ◌∙◌}
use mathlib.Core.List.{List, ◌∷◌, ◌++◌}
use Prim.Native.Nat.{ℕ, zero, suc, ◌+◌, ◌*◌, ◌/◌, ◌%◌, ◌≤◌, ◌<◌}
use native.Mathlib.Omega.{arith}
use lib.ListN.{get_or}
use Rattle.little.specs.Little.{little32, little64, bytes_of}
use Rattle.chacha20.specs.Block.{inner_blocks, block_of, state_of, chacha20_block}
use Rattle.chacha20.proofs.Blocks.{added_small, read_again}
use Rattle.wordsource.specs.Stream.{zero_nonce, stream_word, stream_words}
use Rattle.wordsource.specs.Pairs.{pair_at, words_of}

-- the numbers of block b
abbrev pub block_at : (key : List ℕ) (b : ℕ) → List ℕ
block_at key b = block_of (state_of key b zero_nonce)

-- word k of block b, by its two numbers
pub stream_pair : (key : List ℕ) (b k : ℕ) → k < 8 → stream_word key (8 * b + k) ≡ pair_at (block_at key b) k
unfolding stream_word chacha20_block block_of
stream_pair key b k h =
    let q : (8 * b + k) / 8 ≡ b = omega arith in
    let r : (8 * b + k) % 8 ≡ k = omega arith in
    let s = state_of key b zero_nonce in
    let small : (i : ℕ) → get_or (block_of s) i 0 < 4294967296 = λ i. added_small (inner_blocks 10 s) s i in
    let low : 8 * k ≡ 4 * (2 * k) = omega arith in
    let high : 8 * k + 4 ≡ 4 * (2 * k + 1) = omega arith in
    let l : little32 (bytes_of (block_of s)) (8 * k) ≡ get_or (block_of s) (2 * k) 0 = ap (little32 (bytes_of (block_of s))) low ∙ read_again (block_of s) (2 * k) small in
    let u : little32 (bytes_of (block_of s)) (8 * k + 4) ≡ get_or (block_of s) (2 * k + 1) 0 = ap (little32 (bytes_of (block_of s))) high ∙ read_again (block_of s) (2 * k + 1) small in
    ap₂ (λ (x y : ℕ). little64 (chacha20_block key x zero_nonce) (8 * y)) q r ∙ ap₂ (λ (x y : ℕ). x + 4294967296 * y) l u

-- so many words of block b, from its word k on
pub stream_block : (key : List ℕ) (b k count : ℕ) → k + count ≤ 8 → stream_words key (8 * b + k) count ≡ words_of (block_at key b) k count
unfolding stream_words words_of
stream_block key b k zero h = refl
stream_block key b k (suc count) h =
    let e : 8 * b + k + 1 ≡ 8 * b + (k + 1) = omega arith in
    ap₂ ◌∷◌ (stream_pair key b k (omega arith)) (ap (λ (n : ℕ). stream_words key n count) e ∙ stream_block key b (k + 1) count (omega arith))

-- a stretch, and what comes after it
pub stream_append : (key : List ℕ) (n a b : ℕ) → stream_words key n (a + b) ≡ stream_words key n a ++ stream_words key (n + a) b
unfolding stream_words
stream_append key n zero b =
    let e : 0 + b ≡ b = omega arith in
    let f : n ≡ n + 0 = omega arith in
    ap (stream_words key n) e ∙ ap (λ (m : ℕ). stream_words key m b) f
stream_append key n (suc a) b =
    let e : suc a + b ≡ suc (a + b) = omega arith in
    let f : n + 1 + a ≡ n + suc a = omega arith in
    ap (stream_words key n) e ∙ ap (λ (l : List ℕ). stream_word key n ∷ l) (stream_append key (n + 1) a b ∙ ap (λ (m : ℕ). stream_words key (n + 1) a ++ stream_words key m b) f)
