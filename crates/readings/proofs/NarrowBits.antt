-- What an f64's pattern says of its narrowing: the f32's pattern, worked out from the field and the digits. Assumes nothing.
use Rattle.std.proofs.Common.{◌≡◌, ℕ, zero, suc, ◌+◌, ◌-◌, ◌*◌, ◌/◌, ◌%◌, ◌^◌, ◌<◌, ◌≤◌, Bool, true, false, cond, not, T, eqb, ltb, leb, ◌⊎◌, sym, refl, ap, ◌∙◌, subst, inl, inr, le_trans, le_of_eq, lt_of_lt_of_le, lt_of_le_of_lt, add-zero, mul-le-mul_right, mod-lt, mod-eq_of_lt, zero-lt-suc, mul_assoc, suc-mul, mul_comm, div-lt_iff_lt-mul, add-mul, le_antisymm, eq-or-lt_of_le, mul-pos, div-add-mod', le-div_iff_mul-le, mul-one, add-one, arith, eqb→eq, ltb→lt, leb→le, nltb→le, pow_pos, pow_mono, pow-add, shl_lt}
use Prim.Native.Nat.{compare, Ordering}
use native.Mathlib.Nat.{div-eq_of_lt, div-eq_of_lt-le, pow-succ', suc-le-suc_iff}
use lib.Dec.{not_T}
use lib.Ieee.{Float, nan, inf, binary32, binary64, size, nearest, odd, units, round, fits, is_nan, neg, of_fields, of_bits, to_bits, nan_bits}
use lib.Ieee.Digits.{size-lt, size-le}
use lib.Ieee.Fits.{round_is, round-fits, nearest-le}
use lib.Ieee.Bits.{cond_no, of_bits-to_bits, of_bits-fits, nan_bits_above, nan_bits_is}
use lib.Ieee.Exact.{HasValue, odd_sign, units_val}
use lib.Ieee.Nearest.{closest, closest_same, nearest-ge}
use Rattle.readings.specs.Narrow.{narrowed}
use Rattle.readings.proofs.Tests.{split, leb_yes, leb_no, Cmp, holds, compare_lt, pow_lt_back}
use Rattle.readings.proofs.Keys.{value_unique}
use Rattle.readings.proofs.CoordinateBits.{of_bits_is, at_zero, under_ones}
use Rattle.readings.proofs.Narrows.{narrowed_value, odd_neg}

-- ---- the f32 of a pattern J * 2 ^ 23 + K, where K may carry into the field
fields_value : (n x t : ℕ) → n < 2147483648 → n / 8388608 ≡ x → n % 8388608 ≡ t → of_bits binary32 n ≡ of_fields binary32 false x t
fields_value n x t h p q =
    of_bits_is n
    ∙ ap (λ (s : Bool). of_fields binary32 s (n % 2147483648 / 8388608) (n % 8388608)) (leb_no h)
    ∙ ap (λ (z : ℕ). of_fields binary32 false (z / 8388608) (n % 8388608)) (mod-eq_of_lt h)
    ∙ ap (λ (z : ℕ). of_fields binary32 false z (n % 8388608)) p
    ∙ ap (λ (z : ℕ). of_fields binary32 false x z) q

module _ (J K : ℕ) (j : J ≤ 253) (k : K ≤ 16777216) (h : J * 8388608 + K < 2139095040) where
  small : J * 8388608 + K < 2147483648
  small = omega arith

  abbrev Holds : Type 0
  Holds = HasValue (of_bits binary32 (J * 8388608 + K)) false (K * 2 ^ J) (2 ^ 149)

  low_case : K < 8388608 → J ≡ 0 → Holds
  low_case l z =
      subst (λ (v : Float). HasValue v false (K * 2 ^ J) (2 ^ 149)) (sym (fields_value (J * 8388608 + K) 0 K small (omega arith) (omega arith) ∙ at_zero false K))
      (subst (λ (i : ℕ). HasValue (odd 24 false K 0 149) false (K * 2 ^ i) (2 ^ 149)) (sym z) (odd_sign 24 false K 0 149))

  mid_case : 8388608 ≤ K → K < 16777216 → Holds
  mid_case g l =
      let t = K - 8388608 in
      let e : 8388608 + t ≡ K = omega arith in
      subst (λ (v : Float). HasValue v false (K * 2 ^ J) (2 ^ 149)) (sym (fields_value (J * 8388608 + K) (suc J) t small (omega arith) (omega arith) ∙ under_ones false J t (omega arith)))
      (subst (λ (i : ℕ). HasValue (odd 24 false (8388608 + t) J 149) false (i * 2 ^ J) (2 ^ 149)) e (odd_sign 24 false (8388608 + t) J 149))

  top_case : K ≡ 16777216 → Holds
  top_case e =
      let v : 8388608 * 2 ^ suc J ≡ K * 2 ^ J = ap (λ (i : ℕ). 8388608 * i) (pow-succ' 2 J) ∙ sym (mul_assoc 8388608 2 (2 ^ J)) ∙ ap (λ (i : ℕ). i * 2 ^ J) (sym e) in
      subst (λ (w : Float). HasValue w false (K * 2 ^ J) (2 ^ 149)) (sym (fields_value (J * 8388608 + K) (suc (suc J)) 0 small (omega arith) (omega arith) ∙ under_ones false (suc J) 0 (omega arith)))
      (subst (λ (i : ℕ). HasValue (odd 24 false 8388608 (suc J) 149) false i (2 ^ 149)) v (odd_sign 24 false 8388608 (suc J) 149))

  pattern_value : (8388608 ≤ K) ⊎ (J ≡ 0) → Holds
  pattern_value c = go (eq-or-lt_of_le k) (split (ltb K 8388608)) c
    where
      clash : K < 8388608 → 8388608 ≤ K → ⊥
      clash a b = omega arith

      go : (K ≡ 16777216) ⊎ (K < 16777216) → T (ltb K 8388608) ⊎ T (not (ltb K 8388608)) → (8388608 ≤ K) ⊎ (J ≡ 0) → Holds
      go (inl e) d c = top_case e
      go (inr l) (inl a) (inl b) = absurd (clash (ltb→lt K 8388608 a) b)
      go (inr l) (inl a) (inr z) = low_case (ltb→lt K 8388608 a) z
      go (inr l) (inr a) c = mid_case (nltb→le K 8388608 a) l

  in_range : K * 2 ^ J < 2 ^ 277
  in_range = elim (eq-or-lt_of_le k) [ inl e ↦ lt_of_lt_of_le (shl_lt 25 J (omega arith)) (pow_mono (room25 e)) | inr l ↦ lt_of_lt_of_le (shl_lt 24 J l) (pow_mono room24) ]
    where
      room25 : K ≡ 16777216 → 25 + J ≤ 277
      room25 e = omega arith

      room24 : 24 + J ≤ 277
      room24 = omega arith

-- a pattern up to infinity's is no NaN's
pub pattern_no_nan : (n : ℕ) → n ≤ 2139095040 → T (not (nan_bits binary32 n))
pattern_no_nan n h = subst (λ (b : Bool). T (not b)) (sym (nan_bits_above binary32 n ∙ leb_no go)) tt
  where
    go : n % 2147483648 < suc 2139095040
    go = omega arith

-- ---- `round binary32` where the number of dropped digits is known
round_units : (a c J K : ℕ) → size (a * 2 ^ 149 / c) - 24 ≡ J → closest (a * 2 ^ 149) (c * 2 ^ J) ≡ K → round binary32 false a c ≡ units binary32 false K J
round_units a c J K d e = round_is binary32 false a c ∙ ap (λ (z : ℕ). units binary32 false (closest (a * 2 ^ 149) (c * 2 ^ z)) z) d ∙ ap (λ (z : ℕ). units binary32 false z J) e

units_over : (q k : ℕ) → 2 ^ 277 ≤ q * 2 ^ k → units binary32 false q k ≡ inf false
unfolding units
units_over q k h = ap (λ (b : Bool). cond b (odd 25 false q k 149) (inf false)) (leb_no (suc-le-suc_iff.1 h))

infinite : of_bits binary32 2139095040 ≡ inf false
unfolding of_bits
infinite = refl

-- a / c rounds to K * 2 ^ J units, and so does what the pattern says; a carry out of the largest field gives the infinity's pattern
round_pattern : (a c J K : ℕ) → J ≤ 253 → K ≤ 16777216 → (8388608 ≤ K) ⊎ (J ≡ 0) → size (a * 2 ^ 149 / c) - 24 ≡ J → closest (a * 2 ^ 149) (c * 2 ^ J) ≡ K
    → round binary32 false a c ≡ of_bits binary32 (J * 8388608 + K)
round_pattern a c J K j k m d e = go (eq-or-lt_of_le most)
  where
    most : J * 8388608 + K ≤ 2139095040
    most = omega (arith, j, k)

    is : round binary32 false a c ≡ units binary32 false K J
    is = round_units a c J K d e

    full : J * 8388608 + K ≡ 2139095040 → (K ≡ 16777216) × (J ≡ 253)
    full q = (omega (arith, j, k), omega (arith, j, k))

    go : (J * 8388608 + K ≡ 2139095040) ⊎ (J * 8388608 + K < 2139095040) → round binary32 false a c ≡ of_bits binary32 (J * 8388608 + K)
    go (inl q) =
        let f = full q in
        is ∙ units_over K J (le_of_eq (sym (ap (λ (z : ℕ). z * 2 ^ J) f.0 ∙ ap (λ (z : ℕ). 16777216 * 2 ^ z) f.1))) ∙ sym (ap (of_bits binary32) q ∙ infinite)
    go (inr l) =
        value_unique binary32 (round binary32 false a c) (of_bits binary32 (J * 8388608 + K)) false (K * 2 ^ J) (round-fits binary32 false a c) (of_bits-fits binary32 (J * 8388608 + K))
        (subst (λ (v : Float). HasValue v false (K * 2 ^ J) (2 ^ 149)) (sym is) (units_val binary32 false K J (in_range J K j k l)))
        (pattern_value J K j k l m)

-- ---- Q * 2 ^ j / 2 ^ 1074, for a Q of 53 digits
size_exact : (a n : ℕ) → 2 ^ a ≤ n → n < 2 ^ suc a → size n ≡ suc a
size_exact a n lo hi = le_antisymm (size-le n (suc a) hi) (pow_lt_back a (size n) (lt_of_le_of_lt lo (size-lt n)))

two_pows : (Q j : ℕ) → Q * 2 ^ j * 2 ^ 149 ≡ Q * 2 ^ (j + 149)
two_pows Q j = mul_assoc Q (2 ^ j) (2 ^ 149) ∙ ap (λ (z : ℕ). Q * z) (sym (pow-add 2 j 149))

module _ (Q j : ℕ) (lo : 2 ^ 52 ≤ Q) (hi : Q < 2 ^ 53) where
  -- in the normal range
  normal_size : 896 ≤ j → size (Q * 2 ^ j * 2 ^ 149 / 2 ^ 1074) - 24 ≡ j - 896
  normal_size h =
      let n = Q * 2 ^ j * 2 ^ 149 / 2 ^ 1074 in
      let e1 : 52 + (j + 149) ≡ j - 873 + 1074 = omega arith in
      let e2 : 53 + (j + 149) ≡ suc (j - 873) + 1074 = omega arith in
      let e3 : suc (j - 873) - 24 ≡ j - 896 = omega arith in
      let a : 2 ^ (j - 873) ≤ n = (le-div_iff_mul-le (pow_pos 1074)).1 (le_trans (le_of_eq (sym (pow-add 2 (j - 873) 1074) ∙ ap (λ (z : ℕ). 2 ^ z) (sym e1) ∙ pow-add 2 52 (j + 149))) (le_trans (mul-le-mul_right (2 ^ (j + 149)) lo) (le_of_eq (sym (two_pows Q j))))) in
      let b : n < 2 ^ suc (j - 873) = (div-lt_iff_lt-mul (pow_pos 1074)).1 (lt_of_le_of_lt (le_of_eq (two_pows Q j)) (lt_of_lt_of_le (shl_lt 53 (j + 149) hi) (le_of_eq (ap (λ (z : ℕ). 2 ^ z) e2 ∙ pow-add 2 (suc (j - 873)) 1074)))) in
      ap (λ (z : ℕ). z - 24) (size_exact (j - 873) n a b) ∙ e3

  normal_kept : 896 ≤ j → closest (Q * 2 ^ j * 2 ^ 149) (2 ^ 1074 * 2 ^ (j - 896)) ≡ closest Q (2 ^ 29)
  normal_kept h =
      let e : j + 149 + 29 ≡ 1074 + (j - 896) = omega arith in
      closest_same (Q * 2 ^ j * 2 ^ 149) (2 ^ 1074 * 2 ^ (j - 896)) Q (2 ^ 29) (mul-pos (pow_pos 1074) (pow_pos (j - 896))) (pow_pos 29)
      (ap (λ (z : ℕ). z * 2 ^ 29) (two_pows Q j) ∙ mul_assoc Q (2 ^ (j + 149)) (2 ^ 29) ∙ ap (λ (z : ℕ). Q * z) (sym (pow-add 2 (j + 149) 29) ∙ ap (λ (z : ℕ). 2 ^ z) e ∙ pow-add 2 1074 (j - 896)))

  -- below it
  low_size : j < 896 → size (Q * 2 ^ j * 2 ^ 149 / 2 ^ 1074) - 24 ≡ 0
  low_size h =
      let l : 53 + (j + 149) ≤ 24 + 1074 = omega arith in
      zero_of (size (Q * 2 ^ j * 2 ^ 149 / 2 ^ 1074)) (size-le (Q * 2 ^ j * 2 ^ 149 / 2 ^ 1074) 24 ((div-lt_iff_lt-mul (pow_pos 1074)).1 (lt_of_le_of_lt (le_of_eq (two_pows Q j)) (lt_of_lt_of_le (shl_lt 53 (j + 149) hi) (le_trans (pow_mono l) (le_of_eq (pow-add 2 24 1074)))))))
    where
      zero_of : (z : ℕ) → z ≤ 24 → z - 24 ≡ 0
      zero_of z h = omega arith

  low_kept : (i : ℕ) → i + j ≡ 925 → closest (Q * 2 ^ j * 2 ^ 149) (2 ^ 1074 * 2 ^ 0) ≡ closest Q (2 ^ i)
  low_kept i h =
      let e : j + 149 + i ≡ 1074 + 0 = omega arith in
      closest_same (Q * 2 ^ j * 2 ^ 149) (2 ^ 1074 * 2 ^ 0) Q (2 ^ i) (mul-pos (pow_pos 1074) (pow_pos 0)) (pow_pos i)
      (ap (λ (z : ℕ). z * 2 ^ i) (two_pows Q j) ∙ mul_assoc Q (2 ^ (j + 149)) (2 ^ i) ∙ ap (λ (z : ℕ). Q * z) (sym (pow-add 2 (j + 149) i) ∙ ap (λ (z : ℕ). 2 ^ z) e ∙ pow-add 2 1074 0))

-- what is kept has 24 digits, or carries to 2 ^ 24; or fewer below the normal range
kept_lo : (Q : ℕ) → 2 ^ 52 ≤ Q → 8388608 ≤ closest Q (2 ^ 29)
kept_lo Q h = le_trans ((le-div_iff_mul-le (pow_pos 29)).1 h) (nearest-ge (Q / 2 ^ 29) (compare (Q % 2 ^ 29 * 2) (2 ^ 29)))

kept_hi : (Q i : ℕ) → Q < 2 ^ 53 → 29 ≤ i → closest Q (2 ^ i) ≤ 16777216
kept_hi Q i h l =
    le_trans (nearest-le (Q / 2 ^ i) (compare (Q % 2 ^ i * 2) (2 ^ i)))
    ((div-lt_iff_lt-mul (pow_pos i)).1 (lt_of_lt_of_le h (le_trans (le_of_eq (pow-add 2 24 29)) (le_trans (le_of_eq (mul_comm (2 ^ 24) (2 ^ 29))) (le_trans (mul-le-mul_right (2 ^ 24) (pow_mono l)) (le_of_eq (mul_comm (2 ^ i) (2 ^ 24))))))))

closest_zero : (n u : ℕ) → n * 2 < u → closest n u ≡ 0
closest_zero n u h =
    let l : n < u = omega arith in
    ap (λ (z : ℕ). nearest z (compare (n % u * 2) u)) (div-eq_of_lt l)
    ∙ ap (λ (z : ℕ). nearest 0 (compare (z * 2) u)) (mod-eq_of_lt l)
    ∙ ap (nearest 0) (compare_lt (n * 2) u h)

-- ---- q / d to the nearest whole number by one division, for an even d: what is added carries where the rest is above half, or is half and the whole part is odd
module _ (q d : ℕ) (D : 0 < d) (even : d % 2 ≡ 0) where
  abbrev raised : ℕ
  raised = q + (d / 2 - 1) + q / d % 2

  carry : (i : ℕ) → q / d * d + i * d ≤ raised → raised < q / d * d + i * d + d → raised / d ≡ q / d + i
  carry i lo hi =
      let e : (q / d + i) * d ≡ q / d * d + i * d = add-mul (q / d) i d in
      let f : suc (q / d + i) * d ≡ (q / d + i) * d + d = suc-mul (q / d + i) d in
      div-eq_of_lt-le d (omega arith) (omega arith)

  whole : q / d * d + q % d ≡ q
  whole = div-add-mod' q d

  rest : q % d < d
  rest = mod-lt q D

  tied : (i : ℕ) → q / d % 2 ≡ i → i < 2 → q % d * 2 ≡ d → raised / d ≡ q / d + i
  tied zero o l h = carry 0 (omega (arith, whole)) (omega (arith, whole))
  tied (suc zero) o l h = carry 1 (omega (arith, whole)) (omega (arith, whole))
  tied (suc (suc i)) o l h = absurd (omega arith)

  by_order : (o : Ordering) → Cmp o (q % d * 2) d → raised / d ≡ nearest (q / d) o
  by_order Ordering.lt h = carry 0 (omega (arith, whole)) (omega (arith, whole)) ∙ add-zero (q / d)
  by_order Ordering.eq h = tied (q / d % 2) refl (mod-lt (q / d) (zero-lt-suc 1)) h
  by_order Ordering.gt h = carry 1 (omega (arith, whole)) (omega (arith, whole, rest)) ∙ add-one (q / d)

  pub closest_raised : raised / d ≡ closest q d
  closest_raised = by_order (compare (q % d * 2) d) (holds (q % d * 2) d)

-- ---- what an f64's pattern says
of_bits64_is : (b : ℕ) → of_bits binary64 b ≡ of_fields binary64 (leb (2 ^ 63) b) (b % 2 ^ 63 / 2 ^ 52) (b % 2 ^ 52)
unfolding of_bits
of_bits64_is b = refl

-- the field e and the digits t say how many units the value is
abbrev Sized : ℕ → ℕ → Float → Type 0
Sized e t v = ((e ≡ 0) × HasValue v false (t * 2 ^ 0) (2 ^ 1074)) ⊎ (((j : ℕ) × (e ≡ suc j) × HasValue v false ((2 ^ 52 + t) * 2 ^ j) (2 ^ 1074)) ⊎ ((e ≡ 2047) × (v ≡ inf false)))

sized : (e t : ℕ) → e ≤ 2047 → (e ≡ 2047 → t ≡ 0) → Sized e t (of_fields binary64 false e t)
unfolding of_fields
sized zero t h z = inl (refl, odd_sign 53 false t 0 1074)
sized (suc j) t h z = inr (go (eq-or-lt_of_le h))
  where
    ne : suc j < 2047 → suc j ≡ 2047 → ⊥
    ne l e = omega arith

    v : Float
    v = cond (eqb (suc j) 2047) (cond (eqb t 0) (inf false) nan) (odd 53 false (2 ^ 52 + t) j 1074)

    go : (suc j ≡ 2047) ⊎ (suc j < 2047) → ((i : ℕ) × (suc j ≡ suc i) × HasValue v false ((2 ^ 52 + t) * 2 ^ i) (2 ^ 1074)) ⊎ ((suc j ≡ 2047) × (v ≡ inf false))
    go (inl e) = inr (e, ap (λ (i : ℕ). cond (eqb i 2047) (cond (eqb t 0) (inf false) nan) (odd 53 false (2 ^ 52 + t) j 1074)) e ∙ ap (λ (i : ℕ). cond (eqb i 0) (inf false) nan) (z e))
    go (inr l) = inl (j, refl, subst (λ (k : Float). HasValue k false ((2 ^ 52 + t) * 2 ^ j) (2 ^ 1074)) (sym (cond_no (eqb (suc j) 2047) (cond (eqb t 0) (inf false) nan) (odd 53 false (2 ^ 52 + t) j 1074) (not_T (eqb (suc j) 2047) (λ u. ne l (eqb→eq (suc j) 2047 u))))) (odd_sign 53 false (2 ^ 52 + t) j 1074))

-- ---- a pattern b whose sign is clear, up to infinity's
module _ (b : ℕ) (B : b ≤ 9218868437227405312) where
  abbrev field : ℕ
  field = b / 2 ^ 52

  abbrev digits : ℕ
  digits = b % 2 ^ 52 + 2 ^ 52

  abbrev Goal : ℕ → Type 0
  Goal n = of_bits binary32 n ≡ narrowed (of_bits binary64 b)

  cases : Sized field (b % 2 ^ 52) (of_bits binary64 b)
  cases = subst (Sized field (b % 2 ^ 52)) (sym is) (sized field (b % 2 ^ 52) field_hi no_digits)
    where
      under63 : b < 2 ^ 63
      under63 = omega arith

      field_hi : field ≤ 2047
      field_hi = omega arith

      no_digits : field ≡ 2047 → b % 2 ^ 52 ≡ 0
      no_digits e = omega arith

      is : of_bits binary64 b ≡ of_fields binary64 false field (b % 2 ^ 52)
      is =
          of_bits64_is b
          ∙ ap (λ (s : Bool). of_fields binary64 s (b % 2 ^ 63 / 2 ^ 52) (b % 2 ^ 52)) (leb_no under63)
          ∙ ap (λ (z : ℕ). of_fields binary64 false (z / 2 ^ 52) (b % 2 ^ 52)) (mod-eq_of_lt under63)

  d_lo : 2 ^ 52 ≤ digits
  d_lo = omega arith

  d_hi : digits < 2 ^ 53
  d_hi = omega arith

  swap : 2 ^ 52 + b % 2 ^ 52 ≡ digits
  swap = omega arith

  by_round : (a : ℕ) → HasValue (of_bits binary64 b) false a (2 ^ 1074) → narrowed (of_bits binary64 b) ≡ round binary32 false a (2 ^ 1074)
  by_round a v = narrowed_value (of_bits binary64 b) false a (2 ^ 1074) (pow_pos 1074) v

  -- above field 0 the value is the digits, moved by the field
  normal : (n : ℕ) → 0 < field → (field ≡ 2047 → Goal n) → ((j : ℕ) → field ≡ suc j → of_bits binary32 n ≡ round binary32 false (digits * 2 ^ j) (2 ^ 1074)) → Goal n
  normal n p top go = elim cases [
    | inl c ↦ absurd (none c.0)
    | inr c ↦ elim c [
      | inl d ↦ go d.0 d.1 ∙ sym (by_round (digits * 2 ^ d.0) (subst (λ (k : ℕ). HasValue (of_bits binary64 b) false (k * 2 ^ d.0) (2 ^ 1074)) swap d.2))
      | inr d ↦ top d.0
    ]
  ]
    where
      none : field ≡ 0 → ⊥
      none e = omega arith

  nothing : (a : ℕ) → a * 2 ^ 149 * 2 < 2 ^ 1074 → of_bits binary32 0 ≡ round binary32 false a (2 ^ 1074)
  nothing a h =
      sym (round_pattern a (2 ^ 1074) 0 0 (leb→le 0 253 tt) (leb→le 0 16777216 tt) (inr refl) zero_size (closest_zero (a * 2 ^ 149) (2 ^ 1074 * 2 ^ 0) h))
    where
      less : (n c : ℕ) → n * 2 < c → n < c
      less n c h = omega arith

      zero_size : size (a * 2 ^ 149 / 2 ^ 1074) - 24 ≡ 0
      zero_size = zs (size (a * 2 ^ 149 / 2 ^ 1074)) (size-le (a * 2 ^ 149 / 2 ^ 1074) 0 (subst (λ (k : ℕ). k < 1) (sym (div-eq_of_lt (less (a * 2 ^ 149) (2 ^ 1074) h))) (zero-lt-suc 0)))
        where
          zs : (s : ℕ) → s ≤ 0 → s - 24 ≡ 0
          zs s h = omega arith

  double : (a : ℕ) → a * 2 ^ 149 * 2 ≡ a * 2 ^ 150
  double a = mul_assoc a (2 ^ 149) 2

  -- below 2 ^ -151 nothing is left
  pub tiny : field < 872 → Goal 0
  tiny h = elim cases [
    | inl c ↦ nothing (b % 2 ^ 52 * 2 ^ 0) (few (b % 2 ^ 52 * 2 ^ 0) (subst (λ (k : ℕ). k < 2 ^ 52) (sym (mul-one (b % 2 ^ 52))) (mod-lt b (pow_pos 52)))) ∙ sym (by_round (b % 2 ^ 52 * 2 ^ 0) c.1)
    | inr c ↦ elim c [
      | inl d ↦ nothing ((2 ^ 52 + b % 2 ^ 52) * 2 ^ d.0) (down d.0 (room d.0 d.1)) ∙ sym (by_round ((2 ^ 52 + b % 2 ^ 52) * 2 ^ d.0) d.2)
      | inr d ↦ absurd (high d.0)
    ]
  ]
    where
      high : field ≡ 2047 → ⊥
      high e = omega arith

      few : (a : ℕ) → a < 2 ^ 52 → a * 2 ^ 149 * 2 < 2 ^ 1074
      few a h = lt_of_le_of_lt (le_of_eq (double a)) (lt_of_lt_of_le (shl_lt 52 150 h) (pow_mono (leb→le 202 1074 tt)))

      room : (j : ℕ) → field ≡ suc j → 53 + (j + 150) ≤ 1074
      room j p = omega arith

      down : (j : ℕ) → 53 + (j + 150) ≤ 1074 → (2 ^ 52 + b % 2 ^ 52) * 2 ^ j * 2 ^ 149 * 2 < 2 ^ 1074
      down j h =
          lt_of_le_of_lt (le_of_eq (double ((2 ^ 52 + b % 2 ^ 52) * 2 ^ j) ∙ mul_assoc (2 ^ 52 + b % 2 ^ 52) (2 ^ j) (2 ^ 150) ∙ ap (λ (k : ℕ). (2 ^ 52 + b % 2 ^ 52) * k) (sym (pow-add 2 j 150))))
          (lt_of_lt_of_le (shl_lt 53 (j + 150) (subst (λ (k : ℕ). k < 2 ^ 53) (sym swap) d_hi)) (pow_mono h))

  -- below 2 ^ -126 the field is 0, and fewer digits are kept the smaller the value
  pub low_range : 872 ≤ field → field < 897 → Goal (closest digits (2 ^ (926 - field)))
  low_range l h = normal (closest digits (2 ^ (926 - field))) some (λ e. absurd (high e)) λ j e.
      let K = closest digits (2 ^ (926 - field)) in
      let f = facts j e in
      ap (of_bits binary32) (sym (drop K))
      ∙ sym (round_pattern (digits * 2 ^ j) (2 ^ 1074) 0 K (leb→le 0 253 tt) (kept_hi digits (926 - field) d_hi f.2) (inr refl) (low_size digits j d_lo d_hi f.0) (low_kept digits j d_lo d_hi (926 - field) f.1))
    where
      some : 0 < field
      some = omega arith

      high : field ≡ 2047 → ⊥
      high e = omega arith

      drop : (K : ℕ) → 0 * 8388608 + K ≡ K
      drop K = omega arith

      facts : (j : ℕ) → field ≡ suc j → (j < 896) × (926 - field + j ≡ 925) × (29 ≤ 926 - field)
      facts j p = (omega arith, omega arith, omega arith)

  -- up to 2 ^ 128 the leading 24 digits are kept, and a carry runs into the field
  pub high_range : 897 ≤ field → field ≤ 1150 → Goal ((field - 897) * 8388608 + closest digits (2 ^ 29))
  high_range l h = normal ((field - 897) * 8388608 + closest digits (2 ^ 29)) some (λ e. absurd (high e)) λ j e.
      let K = closest digits (2 ^ 29) in
      let f = facts j e in
      let k : K ≤ 16777216 = kept_hi digits 29 d_hi (leb→le 29 29 tt) in
      ap (λ (i : ℕ). of_bits binary32 (i * 8388608 + K)) f.1
      ∙ sym (round_pattern (digits * 2 ^ j) (2 ^ 1074) (j - 896) K f.2 k (inl (kept_lo digits d_lo)) (normal_size digits j d_lo d_hi f.0) (normal_kept digits j d_lo d_hi f.0))
    where
      some : 0 < field
      some = omega arith

      high : field ≡ 2047 → ⊥
      high e = omega arith

      facts : (j : ℕ) → field ≡ suc j → (896 ≤ j) × (field - 897 ≡ j - 896) × (j - 896 ≤ 253)
      facts j p = (omega arith, omega arith, omega arith)

  -- from 2 ^ 128 on it is the infinity
  pub over : 1150 < field → Goal 2139095040
  unfolding narrowed
  over h = elim cases [
    | inl c ↦ absurd (low c.0)
    | inr c ↦ elim c [
      | inl d ↦
          let j = d.0 in
          let f = facts j d.1 in
          let v = subst (λ (k : ℕ). HasValue (of_bits binary64 b) false (k * 2 ^ j) (2 ^ 1074)) swap d.2 in
          infinite
          ∙ sym (by_round (digits * 2 ^ j) v
          ∙ round_units (digits * 2 ^ j) (2 ^ 1074) (j - 896) (closest digits (2 ^ 29)) (normal_size digits j d_lo d_hi f.0) (normal_kept digits j d_lo d_hi f.0)
          ∙ units_over (closest digits (2 ^ 29)) (j - 896) (le_trans (pow_mono f.1) (le_trans (le_of_eq (pow-add 2 23 (j - 896))) (mul-le-mul_right (2 ^ (j - 896)) (kept_lo digits d_lo)))))
      | inr d ↦ infinite ∙ sym (ap narrowed d.1)
    ]
  ]
    where
      low : field ≡ 0 → ⊥
      low e = omega arith

      facts : (j : ℕ) → field ≡ suc j → (896 ≤ j) × (277 ≤ 23 + (j - 896))
      facts j p = (omega arith, omega arith)

  -- what is kept: 24 digits, and at most a carry
  pub kept_bounds : (i : ℕ) → 29 ≤ i → closest digits (2 ^ i) ≤ 16777216
  kept_bounds i h = kept_hi digits i d_hi h

-- ---- the sign

fields_neg : (e t : ℕ) → of_fields binary64 true e t ≡ neg (of_fields binary64 false e t)
unfolding of_fields neg
fields_neg zero t = odd_neg 53 t 0 1074
fields_neg (suc j) t = go (eqb (suc j) 2047) (eqb t 0)
  where
    go : (a b : Bool) → cond a (cond b (inf true) nan) (odd 53 true (2 ^ 52 + t) j 1074) ≡ neg (cond a (cond b (inf false) nan) (odd 53 false (2 ^ 52 + t) j 1074))
    go true true = refl
    go true false = refl
    go false b = odd_neg 53 (2 ^ 52 + t) j 1074

-- with the sign set, a pattern is the negative of what it is with the sign clear
pub sign_set : (b : ℕ) → 2 ^ 63 ≤ b → b < 2 ^ 64 → of_bits binary64 b ≡ neg (of_bits binary64 (b - 2 ^ 63))
sign_set b h l =
    of_bits64_is b
    ∙ ap (λ (s : Bool). of_fields binary64 s (b % 2 ^ 63 / 2 ^ 52) (b % 2 ^ 52)) (leb_yes h)
    ∙ fields_neg (b % 2 ^ 63 / 2 ^ 52) (b % 2 ^ 52)
    ∙ ap (λ (z : ℕ). neg (of_fields binary64 false (z / 2 ^ 52) (b % 2 ^ 52))) same63
    ∙ ap (λ (z : ℕ). neg (of_fields binary64 false ((b - 2 ^ 63) % 2 ^ 63 / 2 ^ 52) z)) same52
    ∙ sym (ap neg (of_bits64_is (b - 2 ^ 63) ∙ ap (λ (s : Bool). of_fields binary64 s ((b - 2 ^ 63) % 2 ^ 63 / 2 ^ 52) ((b - 2 ^ 63) % 2 ^ 52)) (leb_no low)))
  where
    same63 : b % 2 ^ 63 ≡ (b - 2 ^ 63) % 2 ^ 63
    same63 = omega arith

    same52 : b % 2 ^ 52 ≡ (b - 2 ^ 63) % 2 ^ 52
    same52 = omega arith

    low : b - 2 ^ 63 < 2 ^ 63
    low = omega arith

-- a number's pattern, without the sign, is at most infinity's
pub number_size : (x : Float) → T (fits binary64 x) → T (not (is_nan x)) → to_bits binary64 x % 2 ^ 63 ≤ 9218868437227405312
number_size x F N = nltb→le 9218868437227405312 (to_bits binary64 x % 2 ^ 63) (subst (λ (t : Bool). T (not t)) (sym (ap is_nan (of_bits-to_bits binary64 x F)) ∙ sym (nan_bits_is binary64 (to_bits binary64 x)) ∙ nan_bits_above binary64 (to_bits binary64 x)) N)
