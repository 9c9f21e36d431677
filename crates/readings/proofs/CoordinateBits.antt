-- What an f32's pattern says of a coordinate: the zeros at the end of the digits make up for the field, and the size is at most 2 ^ 20's. Assumes nothing.
use Rattle.std.proofs.Common.{◌≡◌, ℕ, zero, suc, ◌+◌, ◌-◌, ◌*◌, ◌/◌, ◌%◌, ◌^◌, ◌<◌, ◌≤◌, Bool, true, false, cond, not, ◌&&◌, T, eqb, ltb, leb, ◌⊎◌, ℤ, pos, negsuc, sym, refl, ap, ◌∙◌, subst, inl, inr, le_trans, le_of_eq, lt_of_lt_of_le, le_of_suc-le-suc, le-add_right, le_of_lt, lt_irrefl, mul-le-mul_right, eq-or-lt_of_le, mul-pos, mul-one, arith, eqb→eq, ltb→lt, leb→le, nltb→le, pow_pos, pow_mono, pow-add, shl_lt}
use mathlib.Core.Bool.{and-true, and-false}
use lib.Dec.{nleb→lt, not_T}
use lib.Count.{count_trailing_zeros, trailing_le}
use lib.Ieee.{nan, inf, fin, binary32, up, down, minus, odd, of_fields, of_bits}
use lib.Ieee.Bits.{cond_no}
use lib.Ieee.Fits.{down_pos, eq→eqb}
use lib.Ieee.Positive.{first_pos}
use lib.Ieee.Digits.{odd_val}
use Rattle.readings.specs.Coordinate.{is_coordinate}
use Rattle.readings.proofs.Tests.{same_test, split, leb_yes, leb_no, leb_iff, leb_scale, tz_more}

abbrev not_neg : ℤ → Bool
not_neg (pos k) = true
not_neg (negsuc k) = false

minus_not_neg : (a l : ℕ) → not_neg (minus a l) ≡ leb l a
minus_not_neg a l = go (leb l a)
  where
    go : (b : Bool) → not_neg (cond b (pos (a - l)) (negsuc (l - suc a))) ≡ b
    go true = refl
    go false = refl

-- a value that is not 0 is not -0
pub not_zero : (s : Bool) (m : ℕ) → 0 < m → not (s && eqb m 0) ≡ true
not_zero s m h = same_test (not (s && eqb m 0)) true (λ _. tt) (λ _. not_T (s && eqb m 0) (go s))
  where
    go : (s : Bool) → T (s && eqb m 0) → ⊥
    go true t = lt_irrefl 0 (subst (λ (x : ℕ). 0 < x) (eqb→eq m 0 t) h)
    go false t = t

-- a finite value that is not zero, with its size a in units of 2 ^ -149
of_value : (s : Bool) (m : ℕ) (e : ℤ) (a : ℕ) → 0 < m → m * up e * 2 ^ 149 ≡ a * down e → is_coordinate (fin s m e) ≡ (not_neg e && leb a (2 ^ 169))
unfolding is_coordinate
of_value s m (negsuc k) a h v = refl
of_value s m (pos k) a h v =
    ap (λ (b : Bool). leb (m * 2 ^ k) 1048576 && b) (not_zero s m h)
    ∙ and-true (leb (m * 2 ^ k) 1048576)
    ∙ sym (leb_scale (m * 2 ^ k) 1048576 (2 ^ 149) (pow_pos 149))
    ∙ ap (λ (x : ℕ). leb x (2 ^ 169)) (v ∙ mul-one a)

of_odd : (s : Bool) (q j : ℕ) → 0 < q → is_coordinate (odd 24 s q j 149) ≡ (leb 149 (j + count_trailing_zeros 24 q) && leb (q * 2 ^ j) (2 ^ 169))
unfolding odd
of_odd s zero j h = absurd (lt_irrefl 0 h)
of_odd s (suc q) j h =
    let t = count_trailing_zeros 24 (suc q) in
    let m = suc q / 2 ^ t in
    let e = minus (j + t) 149 in
    let v : m * up e * 2 ^ 149 ≡ suc q * 2 ^ j * down e = odd_val 24 s (suc q) j 149 in
    of_value s m e (suc q * 2 ^ j) (first_pos m (up e) (first_pos (m * up e) (2 ^ 149) (subst (λ (x : ℕ). 0 < x) (sym v) (mul-pos (mul-pos h (pow_pos j)) (down_pos e))))) v
    ∙ ap (λ (b : Bool). b && leb (suc q * 2 ^ j) (2 ^ 169)) (minus_not_neg (j + t) 149)

-- ---- the upper bound, as one on the pattern of the field suc j and the digits t
module _ (j t : ℕ) (h : t < 8388608) where
  lead : 8388608 + t < 16777216
  lead = omega arith

  low_field : j < 146 → leb (suc j * 8388608 + t) 1233125376 ≡ leb ((8388608 + t) * 2 ^ j) (2 ^ 169)
  low_field l = leb_yes under ∙ sym (leb_yes (le_of_lt (lt_of_lt_of_le (shl_lt 24 j lead) (pow_mono room))))
    where
      under : suc j * 8388608 + t ≤ 1233125376
      under = omega arith

      room : 24 + j ≤ 169
      room = omega arith

  same_field : j ≡ 146 → leb (suc j * 8388608 + t) 1233125376 ≡ leb ((8388608 + t) * 2 ^ j) (2 ^ 169)
  same_field e =
      leb_iff (suc j * 8388608 + t) 1233125376 (8388608 + t) 8388608 (λ h. omega arith) (λ h. omega arith)
      ∙ sym (leb_scale (8388608 + t) 8388608 (2 ^ 146) (pow_pos 146))
      ∙ sym (ap (λ (i : ℕ). leb ((8388608 + t) * 2 ^ i) (2 ^ 169)) e)

  high_field : 146 < j → leb (suc j * 8388608 + t) 1233125376 ≡ leb ((8388608 + t) * 2 ^ j) (2 ^ 169)
  high_field l =
      leb_no above
      ∙ sym (leb_no (lt_of_lt_of_le (leb→le (suc (2 ^ 169)) (2 ^ 170) tt) (le_trans (pow_mono over) (le_trans (le_of_eq (pow-add 2 23 j)) (mul-le-mul_right (2 ^ j) (le-add_right 8388608 t))))))
    where
      above : 1233125376 < suc j * 8388608 + t
      above = omega arith

      over : 170 ≤ 23 + j
      over = omega arith

  upper : leb (suc j * 8388608 + t) 1233125376 ≡ leb ((8388608 + t) * 2 ^ j) (2 ^ 169)
  upper = elim (split (ltb j 146)) [
    | inl a ↦ low_field (ltb→lt j 146 a)
    | inr a ↦ elim (eq-or-lt_of_le (nltb→le j 146 a)) [ inl e ↦ same_field (sym e) | inr l ↦ high_field l ]
  ]

-- ---- by fields
pub at_zero : (s : Bool) (t : ℕ) → of_fields binary32 s 0 t ≡ odd 24 s t 0 149
unfolding of_fields
at_zero s t = refl

-- the field 255: an infinity or a NaN
pub at_ones : (s : Bool) (t : ℕ) → of_fields binary32 s 255 t ≡ cond (eqb t 0) (inf s) nan
unfolding of_fields
at_ones s t = refl

-- any field between: a leading digit
pub under_ones : (s : Bool) (j t : ℕ) → suc j < 255 → of_fields binary32 s (suc j) t ≡ odd 24 s (8388608 + t) j 149
unfolding of_fields
under_ones s j t h = cond_no (eqb (suc j) 255) (cond (eqb t 0) (inf s) nan) (odd 24 s (8388608 + t) j 149) (not_T (eqb (suc j) 255) (λ u. ne j h (eqb→eq (suc j) 255 u)))
  where
    ne : (j : ℕ) → suc j < 255 → suc j ≡ 255 → ⊥
    ne j h e = omega arith

top : (s : Bool) (t : ℕ) → is_coordinate (of_fields binary32 s 255 t) ≡ false
unfolding is_coordinate
top s t = ap is_coordinate (at_ones s t) ∙ go (eqb t 0)
  where
    go : (b : Bool) → is_coordinate (cond b (inf s) nan) ≡ false
    go true = refl
    go false = refl

-- the test that the code makes of a pattern's field x and digits t, not both 0
abbrev test : ℕ → ℕ → Bool
test x t = leb 150 (count_trailing_zeros 32 (t + 8388608) + x) && leb (x * 8388608 + t) 1233125376

zeros : (t : ℕ) → t < 8388608 → count_trailing_zeros 32 (t + 8388608) ≡ count_trailing_zeros 24 (8388608 + t)
zeros t h = ap (count_trailing_zeros 32) swap ∙ tz_more 24 32 (8388608 + t) (leb→le 24 32 tt) some_digit (lead 0 t h)
  where
    swap : t + 8388608 ≡ 8388608 + t
    swap = omega arith

    some_digit : 0 < 8388608 + t
    some_digit = omega arith

by_fields : (s : Bool) (x t : ℕ) → t < 8388608 → x < 256 → 0 < x * 8388608 + t → is_coordinate (of_fields binary32 s x t) ≡ test x t
by_fields s zero t h k p =
    ap is_coordinate (at_zero s t)
    ∙ of_odd s t 0 some_digit
    ∙ ap (λ (b : Bool). b && leb (t * 2 ^ 0) (2 ^ 169)) (leb_no (few (count_trailing_zeros 24 t) (trailing_le 24 t)))
    ∙ sym (ap (λ (b : Bool). b && leb (0 * 8388608 + t) 1233125376) (leb_no (few_more (count_trailing_zeros 32 (t + 8388608)) (trailing_le 32 (t + 8388608)))))
  where
    some_digit : 0 < t
    some_digit = omega arith

    few : (z : ℕ) → z ≤ 24 → 0 + z < 149
    few z h = omega arith

    few_more : (z : ℕ) → z ≤ 32 → z + 0 < 150
    few_more z h = omega arith
by_fields s (suc j) t h k p = go (eq-or-lt_of_le (le_of_suc-le-suc k))
  where
    shift : (z : ℕ) → leb 149 (j + z) ≡ leb 150 (z + suc j)
    shift z = leb_iff 149 (j + z) 150 (z + suc j) (λ h. omega arith) (λ h. omega arith)

    some_digit : 0 < 8388608 + t
    some_digit = omega arith

    far : 1233125376 < 255 * 8388608 + t
    far = omega arith

    go : (suc j ≡ 255) ⊎ (suc j < 255) → is_coordinate (of_fields binary32 s (suc j) t) ≡ test (suc j) t
    go (inl e) =
        subst (λ (x : ℕ). is_coordinate (of_fields binary32 s x t) ≡ test x t) (sym e)
        (top s t ∙ sym (ap (λ (b : Bool). leb 150 (count_trailing_zeros 32 (t + 8388608) + 255) && b) (leb_no far) ∙ and-false (leb 150 (count_trailing_zeros 32 (t + 8388608) + 255))))
    go (inr l) =
        ap is_coordinate (under_ones s j t l)
        ∙ of_odd s (8388608 + t) j some_digit
        ∙ ap (λ (z : ℕ). leb 149 (j + z) && leb ((8388608 + t) * 2 ^ j) (2 ^ 169)) (sym (zeros t h))
        ∙ ap (λ (b : Bool). b && leb ((8388608 + t) * 2 ^ j) (2 ^ 169)) (shift (count_trailing_zeros 32 (t + 8388608)))
        ∙ ap (λ (b : Bool). leb 150 (count_trailing_zeros 32 (t + 8388608) + suc j) && b) (sym (upper j t h))

-- ---- by the pattern
pub of_bits_is : (b : ℕ) → of_bits binary32 b ≡ of_fields binary32 (leb 2147483648 b) (b % 2147483648 / 8388608) (b % 8388608)
unfolding of_bits
of_bits_is b = refl

-- neither +0 nor -0
pub some : (b : ℕ) → 0 < b % 2147483648 → is_coordinate (of_bits binary32 b) ≡ (leb 150 (count_trailing_zeros 32 (b % 8388608 + 8388608) + b % 2147483648 / 8388608) && leb (b % 2147483648) 1233125376)
some b h =
    ap is_coordinate (of_bits_is b)
    ∙ by_fields (leb 2147483648 b) (b % 2147483648 / 8388608) (b % 8388608) t_lt x_lt (subst (λ (z : ℕ). 0 < z) (sym two_fields) h)
    ∙ ap (λ (z : ℕ). leb 150 (count_trailing_zeros 32 (b % 8388608 + 8388608) + b % 2147483648 / 8388608) && leb z 1233125376) two_fields
  where
    two_fields : b % 2147483648 / 8388608 * 8388608 + b % 8388608 ≡ b % 2147483648
    two_fields = omega arith

    t_lt : b % 8388608 < 8388608
    t_lt = omega arith

    x_lt : b % 2147483648 / 8388608 < 256
    x_lt = omega arith

odd_zero : (s : Bool) → is_coordinate (odd 24 s 0 0 149) ≡ not s
unfolding odd is_coordinate
odd_zero true = refl
odd_zero false = refl

-- +0 and -0
pub zeroes : (b : ℕ) → b % 2147483648 ≡ 0 → is_coordinate (of_bits binary32 b) ≡ eqb b 0
zeroes b e =
    ap is_coordinate (of_bits_is b)
    ∙ ap (λ (x : ℕ). is_coordinate (of_fields binary32 (leb 2147483648 b) (x / 8388608) (b % 8388608))) e
    ∙ ap (λ (x : ℕ). is_coordinate (of_fields binary32 (leb 2147483648 b) 0 x)) none
    ∙ ap is_coordinate (at_zero (leb 2147483648 b) 0)
    ∙ odd_zero (leb 2147483648 b)
    ∙ same_test (not (leb 2147483648 b)) (eqb b 0) (λ t. eq→eqb (is (nleb→lt 2147483648 b t))) (λ t. not_T (leb 2147483648 b) (λ u. clash (eqb→eq b 0 t) (leb→le 2147483648 b u)))
  where
    none : b % 8388608 ≡ 0
    none = omega arith

    is : b < 2147483648 → b ≡ 0
    is h = omega arith

    clash : b ≡ 0 → 2147483648 ≤ b → ⊥
    clash z h = omega arith
