-- What an f32's pattern says of a weight: it is one where the pattern is not -0's and its size is below an infinity's. Assumes nothing.
use Rattle.std.proofs.Common.{◌≡◌, ℕ, zero, suc, ◌+◌, ◌*◌, ◌/◌, ◌%◌, ◌^◌, ◌<◌, ◌≤◌, Bool, true, false, cond, not, eqb, ltb, leb, ◌⊎◌, sym, refl, ap, ◌∙◌, subst, inl, inr, le_of_suc-le-suc, lt_irrefl, eq-zero-or-pos, eq-or-lt_of_le, mul-pos, arith, leb→le, pow_pos}
use lib.Count.{count_trailing_zeros}
use lib.Ieee.{nan, inf, binary32, up, down, minus, odd, of_fields, of_bits}
use lib.Ieee.Fits.{down_pos}
use lib.Ieee.Digits.{odd_val}
use lib.Ieee.Positive.{first_pos}
use Rattle.readings.specs.Weight.{is_weight}
use Rattle.readings.proofs.Tests.{leb_yes, leb_no, yes}
use Rattle.readings.proofs.CoordinateBits.{not_zero, at_zero, at_ones, under_ones, of_bits_is}

some_odd : (s : Bool) (q j : ℕ) → 0 < q → is_weight (odd 24 s q j 149) ≡ true
unfolding odd is_weight
some_odd s zero j h = absurd (lt_irrefl 0 h)
some_odd s (suc q) j h =
    let t = count_trailing_zeros 24 (suc q) in
    let m = suc q / 2 ^ t in
    let e = minus (j + t) 149 in
    let v : m * up e * 2 ^ 149 ≡ suc q * 2 ^ j * down e = odd_val 24 s (suc q) j 149 in
    not_zero s m (first_pos m (up e) (first_pos (m * up e) (2 ^ 149) (subst (λ (x : ℕ). 0 < x) (sym v) (mul-pos (mul-pos h (pow_pos j)) (down_pos e)))))

no_odd : (s : Bool) → is_weight (odd 24 s 0 0 149) ≡ not s
unfolding odd is_weight
no_odd true = refl
no_odd false = refl

top : (s : Bool) (t : ℕ) → is_weight (of_fields binary32 s 255 t) ≡ false
unfolding is_weight
top s t = ap is_weight (at_ones s t) ∙ go (eqb t 0)
  where
    go : (b : Bool) → is_weight (cond b (inf s) nan) ≡ false
    go true = refl
    go false = refl

by_fields : (s : Bool) (x t : ℕ) → t < 8388608 → x < 256 → (s ≡ true → x * 8388608 + t ≡ 0 → ⊥) → is_weight (of_fields binary32 s x t) ≡ ltb (x * 8388608 + t) 2139095040
by_fields s zero t h k z = ap is_weight (at_zero s t) ∙ go (eq-zero-or-pos t) ∙ sym (leb_yes small)
  where
    small : 0 * 8388608 + t < 2139095040
    small = omega arith

    none : t ≡ 0 → 0 * 8388608 + t ≡ 0
    none e = omega arith

    plus : (s : Bool) → (s ≡ true → ⊥) → not s ≡ true
    plus true f = absurd (f refl)
    plus false f = refl

    go : (t ≡ 0) ⊎ (0 < t) → is_weight (odd 24 s t 0 149) ≡ true
    go (inl e) = ap (λ (i : ℕ). is_weight (odd 24 s i 0 149)) e ∙ no_odd s ∙ plus s (λ b. z b (none e))
    go (inr p) = some_odd s t 0 p
by_fields s (suc j) t h k z = go (eq-or-lt_of_le (le_of_suc-le-suc k))
  where
    far : 2139095040 < suc (255 * 8388608 + t)
    far = omega arith

    near : suc j < 255 → suc j * 8388608 + t < 2139095040
    near a = omega arith

    lead : 0 < 8388608 + t
    lead = omega arith

    go : (suc j ≡ 255) ⊎ (suc j < 255) → is_weight (of_fields binary32 s (suc j) t) ≡ ltb (suc j * 8388608 + t) 2139095040
    go (inl e) = subst (λ (x : ℕ). is_weight (of_fields binary32 s x t) ≡ ltb (x * 8388608 + t) 2139095040) (sym e) (top s t ∙ sym (leb_no far))
    go (inr l) = ap is_weight (under_ones s j t l) ∙ some_odd s (8388608 + t) j lead ∙ sym (leb_yes (near l))

-- every pattern but -0's
pub weight_bits : (b : ℕ) → b < 4294967296 → (b ≡ 2147483648 → ⊥) → is_weight (of_bits binary32 b) ≡ ltb (b % 2147483648) 2139095040
weight_bits b B z =
    ap is_weight (of_bits_is b)
    ∙ by_fields (leb 2147483648 b) (b % 2147483648 / 8388608) (b % 8388608) t_lt x_lt (λ s e. z (is (leb→le 2147483648 b (yes s)) (sym two ∙ e)))
    ∙ ap (λ (x : ℕ). ltb x 2139095040) two
  where
    t_lt : b % 8388608 < 8388608
    t_lt = omega arith

    x_lt : b % 2147483648 / 8388608 < 256
    x_lt = omega arith

    two : b % 2147483648 / 8388608 * 8388608 + b % 8388608 ≡ b % 2147483648
    two = omega arith

    is : 2147483648 ≤ b → b % 2147483648 ≡ 0 → b ≡ 2147483648
    is h e = omega arith

-- -0 is no weight
pub weight_minus_zero : is_weight (of_bits binary32 2147483648) ≡ false
unfolding is_weight of_bits
weight_minus_zero = refl

-- nor is a NaN
pub weight_nan : is_weight nan ≡ false
unfolding is_weight
weight_nan = refl
