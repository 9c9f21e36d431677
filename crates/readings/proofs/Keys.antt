-- The key of a finite float of either format: a ℕ whose order is that of the values, so that every order argument is one of numbers. A float is known by its sign and its size. Assumes nothing.
use Rattle.std.proofs.Common.{◌≡◌, ℕ, zero, suc, ◌+◌, ◌-◌, ◌*◌, ◌/◌, ◌%◌, ◌^◌, ◌<◌, ◌≤◌, Bool, true, false, cond, ◌&&◌, ◌||◌, T, eqb, ltb, leb, ℤ, pos, negsuc, sym, refl, ap, ◌∙◌, subst, le_trans, le_of_eq, mul-le-mul_right, mul_assoc, add-mul, lt_of_mul-lt-mul_right, mul-lt-mul_of_pos_right, mul-pos, one-mul, zero-mul, mul-one, mul_right_comm, mul-div_cancel, arith, eqb→eq, ltb→lt, leb→le, pow_pos, pow-add}
use native.Mathlib.Nat.{eq_of_mul-eq-mul_right}
use mathlib.Core.Bool.{beq, and-true}
use lib.Ieee.{Float, nan, inf, fin, Format, binary64, prec, low, hid, top, up, down, size, lt, le, eq, below, level, fits, of_bits, to_bits}
use lib.Ieee.Digits.{back}
use lib.Ieee.Fits.{up_pos, down_pos, and_i, and_l, and_r, eq→eqb}
use lib.Ieee.Bits.{of_bits-to_bits}
use lib.Ieee.Exact.{HasValue}
use lib.Ieee.Scale.{finite}
use Rattle.readings.proofs.Tests.{same_test, leb_no, ltb_iff, lt_or_eq, ltb_scale, cross_l, cross_r, eqb_iff, pow_le_back}

-- sizes are counted in units of 2 ^ -1074, the smallest f64, and keys from 2 ^ 2098, the size of no f64
abbrev pub unit : ℕ
unit = 2 ^ 1074

abbrev pub base : ℕ
base = 2 ^ 2098

-- the size in units
unfoldable pub mag : Float → ℕ
mag nan = 0
mag (inf s) = 0
mag (fin s m e) = m * up e * 2 ^ 1074 / down e

-- negative, minus zero included
abbrev pub sign : Float → Bool
sign nan = false
sign (inf s) = s
sign (fin s m e) = s

-- the key of a sign and a size
abbrev pub offset : Bool → ℕ → ℕ
offset false a = base + a
offset true a = base - a

-- the value in units, counted from `base`
unfoldable pub key : Float → ℕ
unfolding mag
key x = offset (sign x) (mag x)

-- x is not minus zero
abbrev pub NotMinusZero : Float → Type 0
NotMinusZero x = sign x ≡ true → mag x ≡ 0 → ⊥

-- ---- what fits
divides : (e : ℤ) → down e ≤ 2 ^ 1074 → (j : ℕ) × (2 ^ 1074 ≡ j * down e)
divides (pos k) h = (2 ^ 1074, sym (mul-one (2 ^ 1074)))
divides (negsuc k) h = (2 ^ (1074 - suc k), sym (sym (pow-add 2 (1074 - suc k) (suc k)) ∙ ap (λ (i : ℕ). 2 ^ i) (back 1074 (suc k) (pow_le_back (suc k) 1074 h))))

says : (s : Bool) (m : ℕ) (e : ℤ) → T (fits binary64 (fin s m e)) → (down e ≤ 2 ^ 1074) × (m * up e < 2 ^ 1024 * down e)
unfolding fits
says s zero e t =
    let one : up e * down e ≡ 1 = eqb→eq (up e * down e) 1 t in
    let d : down e ≤ 1 = le_trans (le_trans (le_of_eq (sym (one-mul (down e)))) (mul-le-mul_right (down e) (up_pos e))) (le_of_eq one) in
    (le_trans d (pow_pos 1074), subst (λ (z : ℕ). z < 2 ^ 1024 * down e) (sym (zero-mul (up e))) (mul-pos (pow_pos 1024) (down_pos e)))
says s (suc m) e t =
    let A = eqb (suc m % 2) 1 && ltb (suc m) (2 ^ 53) in
    let C = leb (down e) (2 ^ 1074) in
    let D = ltb (suc m * up e) (2 ^ 1024 * down e) in
    (leb→le (down e) (2 ^ 1074) (and_r A C (and_l (A && C) D t)), ltb→lt (suc m * up e) (2 ^ 1024 * down e) (and_r (A && C) D t))

-- a float that has a key: it is finite, a whole number of units, and below 2 ^ 1024 in size
abbrev pub Num : Float → Type 0
Num nan = ⊥
Num (inf s) = ⊥
Num (fin s m e) = (down e ≤ 2 ^ 1074) × (m * up e < 2 ^ 1024 * down e)

-- every finite float of either format has a key
pub num_of_fits : (x : Float) → T (fits binary64 x) → T (finite x) → Num x
num_of_fits nan t f = absurd f
num_of_fits (inf s) t f = absurd f
num_of_fits (fin s m e) t f = says s m e t

mag_is : (s : Bool) (m : ℕ) (e : ℤ) → Num (fin s m e) → m * up e * 2 ^ 1074 ≡ mag (fin s m e) * down e
unfolding mag
mag_is s m e t =
    let d = divides e t.0 in
    let j = d.0 in
    let p : m * up e * 2 ^ 1074 ≡ m * up e * j * down e = ap (λ (z : ℕ). m * up e * z) d.1 ∙ sym (mul_assoc (m * up e) j (down e)) in
    p ∙ sym (ap (λ (z : ℕ). z / down e * down e) p ∙ ap (λ (z : ℕ). z * down e) (mul-div_cancel (m * up e * j) (down_pos e)))

-- its sign, and its size in units, are its value
pub value : (x : Float) → Num x → HasValue x (sign x) (mag x) unit
value nan t = absurd t
value (inf s) t = absurd t
value (fin s m e) t = (refl, mag_is s m e t)

mag_lt_fin : (s : Bool) (m : ℕ) (e : ℤ) → Num (fin s m e) → mag (fin s m e) < base
mag_lt_fin s m e t =
    lt_of_mul-lt-mul_right (down e)
    (subst (λ (z : ℕ). z < base * down e) (mag_is s m e t)
    (subst (λ (z : ℕ). m * up e * 2 ^ 1074 < z) (mul_right_comm (2 ^ 1024) (down e) (2 ^ 1074) ∙ ap (λ (z : ℕ). z * down e) (sym (pow-add 2 1024 1074))) (mul-lt-mul_of_pos_right t.1 (pow_pos 1074))))

-- a size is below `base`, so a key is above 0
pub mag_lt : (x : Float) → Num x → mag x < base
unfolding mag
mag_lt nan t = absurd t
mag_lt (inf s) t = absurd t
mag_lt (fin s m e) t = mag_lt_fin s m e t

-- ---- comparisons: of sizes below B with their signs, as the keys B + a and B - a compare
module _ (B a b : ℕ) (A : a < B) (C : b < B) where
  lt_pos_pos : ltb a b ≡ ltb (B + a) (B + b)
  lt_pos_pos = ltb_iff a b (B + a) (B + b) (λ h. omega arith) (λ h. omega arith)

  lt_pos_neg : false ≡ ltb (B + a) (B - b)
  lt_pos_neg = sym (leb_no go)
    where
      go : B - b < suc (B + a)
      go = omega arith

  lt_neg_pos : ltb 0 (a + b) ≡ ltb (B - a) (B + b)
  lt_neg_pos = ltb_iff 0 (a + b) (B - a) (B + b) (λ h. omega arith) (λ h. omega arith)

  lt_neg_neg : ltb b a ≡ ltb (B - a) (B - b)
  lt_neg_neg = ltb_iff b a (B - a) (B - b) (λ h. omega arith) (λ h. omega arith)

  eq_pos_pos : eqb a b ≡ eqb (B + a) (B + b)
  eq_pos_pos = eqb_iff a b (B + a) (B + b) (λ h. omega arith) (λ h. omega arith)

  eq_neg_neg : eqb a b ≡ eqb (B - a) (B - b)
  eq_neg_neg = eqb_iff a b (B - a) (B - b) (λ h. omega arith) (λ h. omega arith)

  -- of two values with different signs, only zeros are equal
  zeros_iff : (c d : ℕ) → (a ≡ b → a ≡ 0 → c ≡ d) → (c ≡ d → (a ≡ b) × (a ≡ 0)) → (eqb a b && eqb a 0) ≡ eqb c d
  zeros_iff c d p q =
      same_test (eqb a b && eqb a 0) (eqb c d)
      (λ t. eq→eqb (p (eqb→eq a b (and_l (eqb a b) (eqb a 0) t)) (eqb→eq a 0 (and_r (eqb a b) (eqb a 0) t))))
      (λ t. let u = q (eqb→eq c d t) in and_i (eqb a b) (eqb a 0) (eq→eqb u.0) (eq→eqb u.1))

  eq_pos_neg : (eqb a b && eqb a 0) ≡ eqb (B + a) (B - b)
  eq_pos_neg = zeros_iff (B + a) (B - b) (λ h k. omega arith) (λ h. (omega arith, omega arith))

  eq_neg_pos : (eqb a b && eqb a 0) ≡ eqb (B - a) (B + b)
  eq_neg_pos = zeros_iff (B - a) (B + b) (λ h k. omega arith) (λ h. (omega arith, omega arith))

below_key : (s t : Bool) (a b : ℕ) → a < base → b < base → below s a t b ≡ ltb (offset s a) (offset t b)
below_key false false a b A C = lt_pos_pos base a b A C
below_key false true a b A C = lt_pos_neg base a b A C
below_key true false a b A C = lt_neg_pos base a b A C
below_key true true a b A C = lt_neg_neg base a b A C

level_key : (s t : Bool) (a b : ℕ) → a < base → b < base → level s a t b ≡ eqb (offset s a) (offset t b)
level_key false false a b A C = and-true (eqb a b) ∙ eq_pos_pos base a b A C
level_key false true a b A C = eq_pos_neg base a b A C
level_key true false a b A C = eq_neg_pos base a b A C
level_key true true a b A C = and-true (eqb a b) ∙ eq_neg_neg base a b A C

-- X / W is a / U, and Y / W is b / U
module _ (X Y U a b W : ℕ) (u : 0 < U) (w : 0 < W) (p : X * U ≡ a * W) (q : Y * U ≡ b * W) where
  zero_scale : 0 * U ≡ 0 * W
  zero_scale = zero-mul U ∙ sym (zero-mul W)

  below_scale : (s t : Bool) → below s X t Y ≡ below s a t b
  below_scale false false = ltb_scale X Y U a b W u w p q
  below_scale false true = refl
  below_scale true false = ltb_scale 0 (X + Y) U 0 (a + b) W u w zero_scale (add-mul X Y U ∙ ap (λ (z : ℕ). z + Y * U) p ∙ ap (λ (z : ℕ). a * W + z) q ∙ sym (add-mul a b W))
  below_scale true true = ltb_scale Y X U b a W u w q p

  eqb_scale : eqb X Y ≡ eqb a b
  eqb_scale = eqb_iff X Y a b (λ h. eq_of_mul-eq-mul_right W w a b (sym p ∙ ap (λ (z : ℕ). z * U) h ∙ q)) (λ h. eq_of_mul-eq-mul_right U u X Y (p ∙ ap (λ (z : ℕ). z * W) h ∙ sym q))

level_scale : (s t : Bool) (X Y U a b W : ℕ) → 0 < U → 0 < W → X * U ≡ a * W → Y * U ≡ b * W → level s X t Y ≡ level s a t b
level_scale s t X Y U a b W u w p q =
    ap (λ (z : Bool). z && (beq s t || eqb X 0)) (eqb_scale X Y U a b W u w p q)
    ∙ ap (λ (z : Bool). eqb a b && (beq s t || z)) (eqb_scale X 0 U a 0 W u w p (zero-mul U ∙ sym (zero-mul W)))

-- the cross products of two values, in units
module _ (s : Bool) (m : ℕ) (e : ℤ) (t : Bool) (n : ℕ) (d : ℤ) (p : Num (fin s m e)) (q : Num (fin t n d)) where
  left : m * up e * down d * unit ≡ mag (fin s m e) * (down e * down d)
  left = cross_l (m * up e) unit (mag (fin s m e)) (down e) (down d) (mag_is s m e p)

  right : n * up d * down e * unit ≡ mag (fin t n d) * (down e * down d)
  right = cross_r (n * up d) unit (mag (fin t n d)) (down e) (down d) (mag_is t n d q)

  both_pos : 0 < down e * down d
  both_pos = mul-pos (down_pos e) (down_pos d)

-- `<` of two values is that of their keys
pub lt_key : (x y : Float) → Num x → Num y → lt x y ≡ ltb (key x) (key y)
unfolding lt key
lt_key nan y p q = absurd p
lt_key (inf s) y p q = absurd p
lt_key (fin s m e) nan p q = absurd q
lt_key (fin s m e) (inf t) p q = absurd q
lt_key (fin s m e) (fin t n d) p q =
    below_scale (m * up e * down d) (n * up d * down e) unit (mag (fin s m e)) (mag (fin t n d)) (down e * down d) (pow_pos 1074) (both_pos s m e t n d p q) (left s m e t n d p q) (right s m e t n d p q) s t
    ∙ below_key s t (mag (fin s m e)) (mag (fin t n d)) (mag_lt_fin s m e p) (mag_lt_fin t n d q)

-- so is `==`
pub eq_key : (x y : Float) → Num x → Num y → eq x y ≡ eqb (key x) (key y)
unfolding eq key
eq_key nan y p q = absurd p
eq_key (inf s) y p q = absurd p
eq_key (fin s m e) nan p q = absurd q
eq_key (fin s m e) (inf t) p q = absurd q
eq_key (fin s m e) (fin t n d) p q =
    level_scale s t (m * up e * down d) (n * up d * down e) unit (mag (fin s m e)) (mag (fin t n d)) (down e * down d) (pow_pos 1074) (both_pos s m e t n d p q) (left s m e t n d p q) (right s m e t n d p q)
    ∙ level_key s t (mag (fin s m e)) (mag (fin t n d)) (mag_lt_fin s m e p) (mag_lt_fin t n d q)

-- and `<=`
pub le_key : (x y : Float) → Num x → Num y → le x y ≡ leb (key x) (key y)
unfolding le
le_key x y p q = ap (λ (z : Bool). z || eq x y) (lt_key x y p q) ∙ ap (λ (z : Bool). ltb (key x) (key y) || z) (eq_key x y p q) ∙ lt_or_eq (key x) (key y)

-- ---- a value is written in one way: its bits are worked out from the sign and the size

to_bits_value : (f : Format) (x : Float) (s : Bool) (a : ℕ) → HasValue x s a (2 ^ low f) → to_bits f x ≡ cond s (top f) 0 + (size a - prec f) * hid f + a / 2 ^ (size a - prec f)
unfolding to_bits
to_bits_value f nan s a v = absurd v
to_bits_value f (inf t) s a v = absurd v
to_bits_value f (fin t m e) s a v =
    let n : m * up e * 2 ^ low f / down e ≡ a = ap (λ (z : ℕ). z / down e) v.1 ∙ mul-div_cancel a (down_pos e) in
    ap (λ (z : ℕ). cond t (top f) 0 + (size z - prec f) * hid f + z / 2 ^ (size z - prec f)) n
    ∙ ap (λ (b : Bool). cond b (top f) 0 + (size a - prec f) * hid f + a / 2 ^ (size a - prec f)) v.0

-- two floats of a format with one sign and one size are one
pub value_unique : (f : Format) (x y : Float) (s : Bool) (a : ℕ) → T (fits f x) → T (fits f y) → HasValue x s a (2 ^ low f) → HasValue y s a (2 ^ low f) → x ≡ y
value_unique f x y s a p q v w = sym (of_bits-to_bits f x p) ∙ ap (of_bits f) (to_bits_value f x s a v ∙ sym (to_bits_value f y s a w)) ∙ of_bits-to_bits f y q

-- two keys are equal only where sign and size are, or both values are zeros
key_parts : (B : ℕ) (s t : Bool) (a b : ℕ) → a < B → b < B → (s ≡ true → a ≡ 0 → ⊥) → (t ≡ true → b ≡ 0 → ⊥) → cond s (B - a) (B + a) ≡ cond t (B - b) (B + b) → (s ≡ t) × (a ≡ b)
key_parts B false false a b A C p q e = (refl, omega arith)
key_parts B false true a b A C p q e = absurd (q refl (omega arith))
key_parts B true false a b A C p q e = absurd (p refl (omega arith))
key_parts B true true a b A C p q e = (refl, omega arith)

offset_is : (s : Bool) (a : ℕ) → offset s a ≡ cond s (base - a) (base + a)
offset_is true a = refl
offset_is false a = refl

-- a finite float other than minus zero is known by its key
pub key_same : (x y : Float) → T (fits binary64 x) → T (fits binary64 y) → T (finite x) → T (finite y) → NotMinusZero x → NotMinusZero y → key x ≡ key y → x ≡ y
unfolding key
key_same x y F G f g p q e =
    let X = num_of_fits x F f in
    let Y = num_of_fits y G g in
    let k = key_parts base (sign x) (sign y) (mag x) (mag y) (mag_lt x X) (mag_lt y Y) p q (sym (offset_is (sign x) (mag x)) ∙ e ∙ offset_is (sign y) (mag y)) in
    value_unique binary64 x y (sign y) (mag y) F G (subst (λ (s : Bool). HasValue x s (mag y) unit) k.0 (subst (λ (a : ℕ). HasValue x (sign x) a unit) k.1 (value x X))) (value y Y)
