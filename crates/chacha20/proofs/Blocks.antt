-- The sum of block and state number by number, its numbers, and the bytes of numbers read again. Laws.
use Rattle.std.proofs.Common.{◌≡◌, ℕ, zero, suc, ◌+◌, ◌*◌, ◌/◌, ◌%◌, ◌^◌, ◌<◌, List, [], ◌∷◌, ◌++◌, length, get_or, take, drop, set, refl, sym, ap, ◌∙◌, append-nil, arith, drop_of_length-le, length-take-le, take-suc, get_or-append-add}
use lib.Seq.{sets, take-length}
use Rattle.little.specs.Little.{little32, bytes32, bytes_of}
use Rattle.little.proofs.Stored.{sets_append, sets_start, length_bytes, bytes_append}
use Rattle.std.specs.Int.Bits.{bit_or, bit_xor}
use Rattle.std.proofs.Math.Arith.{mod-mul}
use Rattle.std.proofs.Math.Nat.{mul-mod_left, div-lt_iff_lt-mul}
use Rattle.std.proofs.lemmas.Nat.{or_shifted, xor_lt}
use Rattle.chacha20.specs.Block.{plus, added}

-- ---- what is mixed is rolled by k bits: the library joins the two parts by `|`, and no bit is in both
pub rolled : (k m a b : ℕ) → 0 < m → 0 < 2 ^ k → m * 2 ^ k ≡ 2 ^ 32 → a < 2 ^ 32 → b < 2 ^ 32
    → let x = bit_xor a b in bit_or (x * 2 ^ k % 2 ^ 32) (x / m) ≡ x * 2 ^ k % 2 ^ 32 + x / m
rolled k m a b p r e f g =
    let x = bit_xor a b in
    let h : x < 2 ^ 32 = xor_lt 32 a b f g in
    let q = x * 2 ^ k / 2 ^ k % m in
    let high : x * 2 ^ k % 2 ^ 32 ≡ q * 2 ^ k = ap (λ (n : ℕ). x * 2 ^ k % n) (sym e) ∙ mod-mul (x * 2 ^ k) p r ∙ omega (arith, mul-mod_left x (2 ^ k)) in
    let low : x / m < 2 ^ k = (div-lt_iff_lt-mul p).1 (omega arith) in
    rw high (or_shifted q k (x / m) low)

-- ---- one number after another: the first i are added, the others stand as they were
abbrev pub partly : (i : ℕ) (xs ys : List ℕ) → List ℕ
partly i xs ys = take i (added xs ys) ++ drop i xs

pub partly_next : (i : ℕ) (xs ys : List ℕ) → i < length xs → length ys ≡ length xs
    → set (partly i xs ys) i (plus (get_or (partly i xs ys) i 0) (get_or ys i 0)) ≡ partly (suc i) xs ys
partly_next i [] ys h e = absurd (omega arith)
partly_next i (x ∷ xs) [] h e = absurd (omega arith)
partly_next zero (x ∷ xs) (y ∷ ys) h e = refl
partly_next (suc i) (x ∷ xs) (y ∷ ys) h e = ap (λ (l : List ℕ). plus x y ∷ l) (partly_next i xs ys (omega arith) (omega arith))

pub partly_all : (xs ys : List ℕ) → length ys ≡ length xs → partly (length xs) xs ys ≡ added xs ys
partly_all [] ys e = refl
partly_all (x ∷ xs) [] e = absurd (omega arith)
partly_all (x ∷ xs) (y ∷ ys) e = ap (λ (l : List ℕ). plus x y ∷ l) (partly_all xs ys (omega arith))

-- ---- the bytes of numbers, written one number after another: those of the first i are written
pub bytes_next : (numbers bytes₀ bytes bytes' : List ℕ) (i x : ℕ) → i < length numbers → bytes ≡ sets bytes₀ 0 (bytes_of (take i numbers)) → x ≡ get_or numbers i 0 → bytes' ≡ sets bytes (4 * i) (bytes32 x)
    → bytes' ≡ sets bytes₀ 0 (bytes_of (take (suc i) numbers))
bytes_next numbers bytes₀ bytes bytes' i x h e f g =
    let at : 0 + length (bytes_of (take i numbers)) ≡ 4 * i = omega (arith, length_bytes (take i numbers), length-take-le i numbers (omega arith)) in
    let more : bytes_of (take (suc i) numbers) ≡ bytes_of (take i numbers) ++ bytes32 x = ap bytes_of (take-suc numbers i 0 h) ∙ bytes_append (take i numbers) (get_or numbers i 0 ∷ []) ∙ rw (← f) refl in
    g ∙ rw (more, sets_append bytes₀ 0 (bytes_of (take i numbers)) (bytes32 x), at, ← e)

pub bytes_all : (numbers bytes : List ℕ) → length bytes ≡ 4 * length numbers → sets bytes 0 (bytes_of (take (length numbers) numbers)) ≡ bytes_of numbers
bytes_all numbers bytes e =
    let l : length (bytes_of numbers) ≡ length bytes = omega (arith, length_bytes numbers) in
    rw (take-length numbers) (sets_start bytes (bytes_of numbers) (omega arith) ∙ ap (λ (s : List ℕ). bytes_of numbers ++ s) (drop_of_length-le bytes {i = length (bytes_of numbers)} (omega arith)) ∙ append-nil (bytes_of numbers))

-- ---- a block's numbers have 32 bits, and its bytes are read as those numbers again
pub added_small : (xs ys : List ℕ) (j : ℕ) → get_or (added xs ys) j 0 < 4294967296
added_small [] ys j = omega arith
added_small (x ∷ xs) [] j = omega arith
added_small (x ∷ xs) (y ∷ ys) zero = omega arith
added_small (x ∷ xs) (y ∷ ys) (suc j) = added_small xs ys j

four_bytes : (a b c d n q r : ℕ) → a + 256 * q ≡ n → b + 256 * r ≡ q → c + 256 * d ≡ r → a + 256 * b + 65536 * (c + 256 * d) ≡ n
four_bytes a b c d n q r e f g = omega arith

-- beyond a number's four bytes
module _ (n : ℕ) (bytes : List ℕ) where
  beyond : (at k : ℕ) → at ≡ 4 + k → get_or (bytes32 n ++ bytes) at 0 ≡ get_or bytes k 0
  beyond at k e = ap (λ (i : ℕ). get_or (bytes32 n ++ bytes) i 0) e ∙ get_or-append-add (bytes32 n) bytes k 0

  little_beyond : (at k : ℕ) → at ≡ 4 + k → little32 (bytes32 n ++ bytes) at ≡ little32 bytes k
  little_beyond at k e =
      cc (beyond at k e, beyond (at + 1) (k + 1) (omega arith), beyond (at + 2) (k + 2) (omega arith), beyond (at + 2 + 1) (k + 2 + 1) (omega arith))

pub read_again : (ns : List ℕ) (j : ℕ) → ((i : ℕ) → get_or ns i 0 < 4294967296) → little32 (bytes_of ns) (4 * j) ≡ get_or ns j 0
read_again [] j h = refl
read_again (n ∷ ns) zero h =
    let f : n < 4294967296 = h 0 in
    let third : n / 65536 % 256 + 256 * (n / 16777216 % 256) ≡ n / 65536 = omega arith in
    let second : n / 256 % 256 + 256 * (n / 65536) ≡ n / 256 = omega arith in
    let first : n % 256 + 256 * (n / 256) ≡ n = omega arith in
    four_bytes (n % 256) (n / 256 % 256) (n / 65536 % 256) (n / 16777216 % 256) n (n / 256) (n / 65536) first second third
read_again (n ∷ ns) (suc j) h =
    little_beyond n (bytes_of ns) (4 * suc j) (4 * j) (omega arith) ∙ read_again ns j (λ i. h (suc i))
