-- Numbers: one is known by its value, and they are ordered as the keys of their values are, so in a total order.
use Rattle.std.proofs.Common.{◌≡◌, ℕ, zero, suc, ◌*◌, ◌/◌, ◌^◌, ◌<◌, ◌≤◌, Bool, true, false, not, ◌&&◌, T, eqb, ltb, leb, sym, refl, ap, ◌∙◌, subst, le_trans as ≤_trans, le_refl as ≤-refl, le_of_lt, lt_irrefl, zero-lt-suc, le_antisymm, mul-pos, zero-mul, eqb→eq, ltb→lt, lt→ltb, leb→le, pow_pos}
use mathlib.Core.HLevel.{is_prop→PathP}
use mathlib.Core.Bool.{false≢true}
use native.Mathlib.Nat.{zero-div}
use lib.Dec.{T_prop, nleb→lt, not_T}
use lib.Ieee.{Float, nan, inf, fin, binary32, up, down, fits, lt, le}
use lib.Ieee.Fits.{up_pos, fits_widens, and_i, and_l, and_r}
use lib.Ieee.Scale.{finite}
use Rattle.readings.proofs.Tests.{yes, no, same_test, leb_yes, leb_no}
use Rattle.readings.proofs.Keys.{mag, key, value, Num, NotMinusZero, num_of_fits, key_same, le_key, lt_key}
use Rattle.readings.specs.Number.{is_number, Number, as_number, number}

-- ---- which floats are numbers: the finite f32s that are not minus zero
pub number_fits : (x : Float) → T (is_number x) → T (fits binary32 x)
unfolding is_number
number_fits nan t = absurd t
number_fits (inf s) t = absurd t
number_fits (fin s m e) t = and_l (fits binary32 (fin s m e)) (not (s && eqb m 0)) t

pub number_finite : (x : Float) → T (is_number x) → T (finite x)
unfolding is_number
number_finite nan t = absurd t
number_finite (inf s) t = absurd t
number_finite (fin s m e) t = tt

-- so a number has a key
pub number_num : (x : Float) → T (is_number x) → Num x
number_num x t = num_of_fits x (fits_widens x (number_fits x t)) (number_finite x t)

pub number_not_minus_zero : (x : Float) → T (is_number x) → NotMinusZero x
unfolding is_number
number_not_minus_zero nan t a z = absurd t
number_not_minus_zero (inf s) t a z = absurd t
number_not_minus_zero (fin false m e) t a z = false≢true a
number_not_minus_zero (fin true zero e) t a z = and_r (fits binary32 (fin true zero e)) false t
number_not_minus_zero (fin true (suc m) e) t a z =
    let v = value (fin true (suc m) e) (number_num (fin true (suc m) e) t) in
    lt_irrefl 0 (subst (λ (i : ℕ). 0 < i) (v.1 ∙ ap (λ (i : ℕ). i * down e) z ∙ zero-mul (down e)) (mul-pos (mul-pos (zero-lt-suc m) (up_pos e)) (pow_pos 1074)))

pub is_a_number : (x : Float) → T (fits binary32 x) → T (finite x) → NotMinusZero x → T (is_number x)
unfolding is_number mag
is_a_number nan f t n = absurd t
is_a_number (inf s) f t n = absurd t
is_a_number (fin s m e) f t n = and_i (fits binary32 (fin s m e)) (not (s && eqb m 0)) f (not_T (s && eqb m 0) (go s m n))
  where
    go : (s : Bool) (m : ℕ) → NotMinusZero (fin s m e) → T (s && eqb m 0) → ⊥
    go true m n z = n refl (ap (λ (i : ℕ). i * up e * 2 ^ 1074 / down e) (eqb→eq m 0 z) ∙ ap (λ (i : ℕ). i * 2 ^ 1074 / down e) (zero-mul (up e)) ∙ zero-div (down e))
    go false m n z = z

-- ---- a number by its value
pub same_number : (a b : Number) → a.value ≡ b.value → a ≡ b
same_number a b p = λ i. record { value = p i; value_is_number = is_prop→PathP (λ j. T (is_number (p j))) (λ j. T_prop (is_number (p j))) a.value_is_number b.value_is_number i }

-- what is a number is its own value
pub number_is : (x : Float) → T (is_number x) → (number x).value ≡ x
unfolding number
number_is x t = go (is_number x) (λ t. t) t
  where
    go : (b : Bool) (f : T b → T (is_number x)) → T b → (as_number x b f).value ≡ x
    go true f t = refl
    go false f t = absurd t

pub value_fits : (a : Number) → T (fits binary32 a.value)
value_fits a = number_fits a.value a.value_is_number

pub value_num : (a : Number) → Num a.value
value_num a = number_num a.value a.value_is_number

-- ---- the order
abbrev pub key_of : Number → ℕ
key_of a = key a.value

pub le_keys : (a b : Number) → le a.value b.value ≡ leb (key_of a) (key_of b)
le_keys a b = le_key a.value b.value (value_num a) (value_num b)

pub same_key : (a b : Number) → key_of a ≡ key_of b → a ≡ b
same_key a b e =
    same_number a b
    (key_same a.value b.value (fits_widens a.value (value_fits a)) (fits_widens b.value (value_fits b)) (number_finite a.value a.value_is_number) (number_finite b.value b.value_is_number)
    (number_not_minus_zero a.value a.value_is_number) (number_not_minus_zero b.value b.value_is_number) e)

pub le→keys : (a b : Number) → le a.value b.value ≡ true → key_of a ≤ key_of b
le→keys a b h = leb→le (key_of a) (key_of b) (yes (sym (le_keys a b) ∙ h))

pub keys→le : (a b : Number) → key_of a ≤ key_of b → le a.value b.value ≡ true
keys→le a b h = le_keys a b ∙ leb_yes h

pub not_le→keys : (a b : Number) → le a.value b.value ≡ false → key_of b < key_of a
not_le→keys a b h = nleb→lt (key_of a) (key_of b) (no (sym (le_keys a b) ∙ h))

-- not at or below is above
pub not_le : (a b : Number) → not (le a.value b.value) ≡ lt b.value a.value
not_le a b = ap not (le_keys a b) ∙ above (key_of a) (key_of b) ∙ sym (lt_key b.value a.value (value_num b) (value_num a))
  where
    above : (m n : ℕ) → not (leb m n) ≡ ltb n m
    above m n = same_test (not (leb m n)) (ltb n m) (λ t. lt→ltb n m (nleb→lt m n t)) (λ t. no (leb_no (ltb→lt n m t)))

pub le_refl : (a : Number) → le a.value a.value ≡ true
le_refl a = keys→le a a (≤-refl (key_of a))

pub le_trans : (a b c : Number) → le a.value b.value ≡ true → le b.value c.value ≡ true → le a.value c.value ≡ true
le_trans a b c h k = keys→le a c (≤_trans (le→keys a b h) (le→keys b c k))

pub le_total : (a b : Number) → le a.value b.value ≡ false → le b.value a.value ≡ true
le_total a b h = keys→le b a (le_of_lt (not_le→keys a b h))

pub le_antisym : (a b : Number) → le a.value b.value ≡ true → le b.value a.value ≡ true → a ≡ b
le_antisym a b h k = same_key a b (le_antisymm (le→keys a b h) (le→keys b a k))
