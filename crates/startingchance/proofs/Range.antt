-- The starting chance lies in 0 to 1: each of its operations rounds a fraction from 0 to 1. And a share of minus zero counts as zero. Assumes nothing.
use mathlib.Core.Path.{◌≡◌, refl, sym, ◌∙◌, subst}
use Prim.Native.Nat.{ℕ, zero, suc, ◌-◌, ◌*◌, ◌^◌, ◌≤◌, ◌<◌, zero-le}
use native.Mathlib.Nat.{le_trans, le_of_eq, one-mul, mul-one, mul_comm, mul-le-mul_right, le_of_mul-le-mul_right, add-zero, sub-zero, sub-le, sub-pos_iff_lt}
use native.Mathlib.Omega.{arith}
use mathlib.Core.Bool.{Bool, true, false, cond, true≢false}
use lib.IntN.{ℤ, pos}
use lib.Dec.{T, leb→le, le→leb, nltb→le, nleb→lt, eqb-suc-zero}
use lib.Pow.{pow_pos}
use lib.Ieee.{Float, nan, inf, fin, binary64, up, down, round, sub, div, lt, le, fits}
use lib.Ieee.Fits.{down_pos}
use lib.Ieee.Exact.{HasValue}
use lib.Ieee.Order.{round_mono}
use lib.Ieee.Scale.{grid}
use lib.Ieee.Bits.{is_true}
use borrow.Author.Tests.{le-ltb}
use Rattle.readings.specs.Share.{is_share}
use Rattle.readings.specs.Number.{nought}
use Rattle.readings.proofs.Tests.{yes, no}
use Rattle.readings.proofs.Keys.{unit, mag, value, num_of_fits}
use Rattle.readings.proofs.Values.{sub_value, sum_plus, sum_minus, scaled_exact, lt_value, le_value}
use Rattle.readings.proofs.Wholes.{div_value}
use Rattle.readings.proofs.Shares.{rounded_value, rounded_under}
use Rattle.startingchance.specs.Chance.{one, fill_fraction, chance_of}
use Rattle.startingchance.specs.Laws.{MinusZeroIsZero, ChanceInRange}
use Rattle.startingchance.proofs.Fill.{fill_is}
use Rattle.startingchance.proofs.Ends.{zero_size, not_above, less_zero}

-- ---- fractions from 0 to 1

-- a value of at most 1 is a share
value_share : (x : Float) (a c : ℕ) → 0 < c → HasValue x false a c → a ≤ c → T (is_share x)
unfolding is_share
value_share nan a c C v h = absurd v
value_share (inf s) a c C v h = absurd v
value_share (fin true m e) a c C v h = absurd (true≢false v.0)
value_share (fin false m e) a c C v h =
    le→leb (m * up e) (down e)
    (le_of_mul-le-mul_right (le_trans (le_of_eq v.1) (le_trans (mul-le-mul_right (down e) h) (le_of_eq (mul_comm c (down e))))) C)

-- a value of so many units, at most 1
abbrev Unit : Float → Type 0
Unit x = (g : ℕ) × HasValue x false g unit × (g ≤ unit)

rounded : (a c : ℕ) → 0 < c → a ≤ c → Unit (round binary64 false a c)
rounded a c C h =
    let under : a ≤ 1 * c = le_trans h (le_of_eq (sym (one-mul c))) in
    (grid binary64 a c, rounded_value a c 1 C (pow_pos 53) under, le_trans (rounded_under a c 1 C (pow_pos 53) under) (le_of_eq (one-mul unit)))

one_value : HasValue one false unit unit
one_value = (refl, one-mul unit ∙ sym (mul-one unit))

-- a difference of two such values
less : (x y : Float) (a b : ℕ) → HasValue x false a unit → HasValue y false b unit → b ≤ a → sub binary64 x y ≡ round binary64 false (a - b) unit
less x y a b v w h = sub_value binary64 x y false false a b unit (pow_pos 1074) v w ∙ sum_minus binary64 a b unit h

-- 1 less a quotient
rest_share : (x y : Float) (a b : ℕ) → HasValue x false a unit → HasValue y false b unit → 0 < b → a ≤ b → T (is_share (sub binary64 one (div binary64 x y)))
rest_share x y a b v w B h =
    let q = rounded a b B h in
    let p = rounded (unit - q.0) unit (pow_pos 1074) (sub-le unit q.0) in
    subst (λ (z : Float). T (is_share (sub binary64 one z))) (sym (div_value binary64 x y a b unit B (pow_pos 1074) v w))
    (subst (λ (z : Float). T (is_share z)) (sym (less one (round binary64 false a b) unit q.0 one_value q.1 q.2))
    (value_share (round binary64 false (unit - q.0) unit) p.0 unit (pow_pos 1074) p.1 p.2))

-- fractions of units keep their order
ordered : (a b g h : ℕ) → a ≤ b → HasValue (round binary64 false a unit) false g unit → HasValue (round binary64 false b unit) false h unit → g ≤ h
ordered a b g h l v w =
    leb→le g h
    (subst T (le_value (round binary64 false a unit) (round binary64 false b unit) g h unit (pow_pos 1074) v w)
    (round_mono binary64 a unit b unit (pow_pos 1074) (pow_pos 1074) (mul-le-mul_right unit l)))

off : (a b c : ℕ) → a ≤ b → a - c ≤ b - c
off a b c h = omega arith

-- ---- the chance, at a fill of f units and a share of s units
module _ (x y : Float) (f s : ℕ) (v : HasValue x false f unit) (F : f ≤ unit) (w : HasValue y false s unit) (S : s ≤ unit) where
  abbrev rest : Float
  rest = sub binary64 one (div binary64 (sub binary64 x y) (sub binary64 one y))

  -- 1 less the share is not 0, as it rounds to no less than one unit
  past : s ≤ f → s < unit → T (is_share rest)
  past h l =
      let n = rounded (f - s) unit (pow_pos 1074) (le_trans (sub-le f s) F) in
      let d = rounded (unit - s) unit (pow_pos 1074) (sub-le unit s) in
      rw (less x y f s v w h, less one y unit s one_value w S)
      (rest_share (round binary64 false (f - s) unit) (round binary64 false (unit - s) unit) n.0 d.0 n.1 d.1
      (ordered 1 (unit - s) 1 d.0 (sub-pos_iff_lt.1 l) (scaled_exact 1 1074 (leb→le 2 (2 ^ 53) tt) (leb→le 1074 1074 tt)) d.1)
      (ordered (f - s) (unit - s) n.0 d.0 (off f unit s F) n.1 d.1))

  short : (b : Bool) → (b ≡ false → s < unit) → s ≤ f → T (is_share (cond b nought rest))
  unfolding is_share
  short true k h = tt
  short false k h = past h (k refl)

  below : (b : Bool) → (b ≡ false → s ≤ f) → T (is_share (cond b one (cond (le one y) nought rest)))
  unfolding is_share
  below true k = tt
  below false k = short (le one y) (λ e. nleb→lt unit s (no (sym (le_value one y unit s unit (pow_pos 1074) one_value w) ∙ e))) (k refl)

  in_range : T (is_share (chance_of x y))
  unfolding chance_of
  in_range = below (lt x y) (λ e. nltb→le f s (no (sym (lt_value x y f s unit (pow_pos 1074) v w) ∙ e)))

-- ---- minus zero
minus_zero : (x : Float) (f : ℕ) (e : ℤ) → HasValue x false f unit → chance_of x (fin true 0 e) ≡ chance_of x (fin false 0 e)
unfolding chance_of
minus_zero x f e v =
    rw (
      lt_value x (fin false 0 e) f 0 unit (pow_pos 1074) v (zero_size false e unit),
      le-ltb f 0 zero-le,
      under x v,
      (not_above true e).1,
      (not_above false e).1,
      (less_zero true e).1,
      (less_zero false e).1,
      less x (fin false 0 e) f 0 v (zero_size false e unit) zero-le,
      sub-zero f,
      sub_value binary64 x (fin true 0 e) false true f 0 unit (pow_pos 1074) v (zero_size true e unit),
      sum_plus binary64 f 0 unit,
      add-zero f,
    )
  where
    under : (x : Float) → HasValue x false f unit → lt x (fin true 0 e) ≡ false
    under nan v = absurd v
    under (inf s) v = absurd v
    under (fin true m d) v = absurd (true≢false v.0)
    under (fin false m d) v = unfold lt in refl

-- ---- the laws
pub minus_zero_is_zero : MinusZeroIsZero
minus_zero_is_zero n c h C L = let r = rounded n c C h in rw (fill_is n c h C L) (minus_zero (round binary64 false n c) r.0 (pos 0) r.1)

-- a share has at most as many units as 1
share_under : (m : ℕ) (e : ℤ) → T (fits binary64 (fin false m e)) → T (is_share (fin false m e)) → mag (fin false m e) ≤ unit
share_under m e t h =
    let is = (value (fin false m e) (num_of_fits (fin false m e) t tt)).1 in
    le_of_mul-le-mul_right (le_trans (le_of_eq (sym is)) (le_trans (mul-le-mul_right unit (leb→le (m * up e) (down e) (unfold is_share in h))) (le_of_eq (mul_comm (down e) unit)))) (down_pos e)

chance_share : (x s : Float) → Unit x → T (fits binary64 s) → T (is_share s) → T (is_share (chance_of x s))
unfolding is_share
chance_share x nan u t h = absurd h
chance_share x (inf b) u t h = absurd h
chance_share x (fin true zero e) u t h =
    subst (λ (z : Float). T (is_share z)) (sym (minus_zero x u.0 e u.1)) (in_range x (fin false zero e) u.0 0 u.1 u.2 (zero_size false e unit) zero-le)
chance_share x (fin true (suc m) e) u t h = absurd (subst T (eqb-suc-zero m) h)
chance_share x (fin false m e) u t h =
    in_range x (fin false m e) u.0 (mag (fin false m e)) u.1 u.2 (value (fin false m e) (num_of_fits (fin false m e) t tt)) (share_under m e t h)

pub chance_in_range : ChanceInRange
chance_in_range n c s h C L t k =
    is_true (is_share (chance_of (fill_fraction n c) s))
    (subst (λ (x : Float). T (is_share (chance_of x s))) (sym (fill_is n c h C L)) (chance_share (round binary64 false n c) s (rounded n c C h) t (yes k)))
