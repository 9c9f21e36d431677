-- The ends of the starting chance: an empty sample always starts, and a full one never does. Assumes nothing.
use mathlib.Core.Path.{◌≡◌, refl, sym, ap, ◌∙◌, subst}
use Prim.Native.Nat.{ℕ, zero, suc, ◌*◌, ◌/◌, ◌^◌, ◌<◌, zero-le}
use native.Mathlib.Nat.{lt_irrefl, one-mul, mul-one, zero-mul, mul-pos, zero-lt-suc}
use mathlib.Core.Bool.{Bool, true, false, not, cond}
use lib.IntN.{ℤ}
use lib.Dec.{T, eqb, leb→le, eqb-suc-zero}
use lib.Pow.{pow_pos}
use lib.Ieee.{Float, nan, inf, fin, binary64, up, down, round, sum, sub, div, lt, le, eq}
use lib.Ieee.Fits.{up_pos, down_pos}
use lib.Ieee.Exact.{HasValue}
use lib.Ieee.Scale.{round_same}
use borrow.Author.Tests.{eq-eqb, ne_eqb, le-ltb, lt-ltb}
use Rattle.readings.specs.Share.{is_share}
use Rattle.readings.specs.Word.{factor_of}
use Rattle.readings.specs.Number.{nought}
use Rattle.readings.proofs.Tests.{yes}
use Rattle.readings.proofs.Words.{factor_value, factor_below}
use Rattle.readings.proofs.Values.{sub_value, lt_value, le_value, zero_value}
use Rattle.startingchance.specs.Chance.{one, fill_fraction, chance_of, starts_by}
use Rattle.startingchance.proofs.Fill.{fill_is}
use Rattle.startingchance.specs.Laws.{EmptyStarts, FullNeverStarts}

-- ---- a full sample

-- no share is above 1
not_above_one : (s : Float) → T (is_share s) → lt one s ≡ false
unfolding is_share lt
not_above_one nan h = absurd h
not_above_one (inf s) h = absurd h
not_above_one (fin true m e) h = refl
not_above_one (fin false m e) h =
    lt_value one (fin false m e) (down e) (m * up e) (down e) (down_pos e) (refl, one-mul (down e) ∙ sym (mul-one (down e))) (refl, refl)
    ∙ le-ltb (down e) (m * up e) (leb→le (m * up e) (down e) h)

-- a factor is not below 0, and nothing is below a NaN
not_below_nan : (x : Float) → lt x nan ≡ false
unfolding lt
not_below_nan nan = refl
not_below_nan (inf s) = refl
not_below_nan (fin s m e) = refl

not_below_zero : (w : ℕ) → w < 2 ^ 64 → lt (factor_of w) nought ≡ false
not_below_zero w W = lt_value (factor_of w) nought (w / 2 ^ 11) 0 (2 ^ 53) (pow_pos 53) (factor_value w W) (zero_value (2 ^ 53)) ∙ le-ltb (w / 2 ^ 11) 0 zero-le

-- a quotient of equals is 1, and a NaN at 0 / 0; so 1 less it is 0 or a NaN
self_quotient : (w m : ℕ) (e : ℤ) → w < 2 ^ 64
    → lt (factor_of w) (sub binary64 one (cond (eqb m 0) (cond (eqb m 0) nan (inf false)) (round binary64 false (m * up e * down e) (m * up e * down e)))) ≡ false
unfolding sub
self_quotient w zero e W = not_below_nan (factor_of w)
self_quotient w (suc m) e W =
    let A = suc m * up e * down e in
    let some : 0 < A = mul-pos (mul-pos (zero-lt-suc m) (up_pos e)) (down_pos e) in
    rw (eqb-suc-zero m, round_same binary64 false A A 1 1 some (zero-lt-suc 0) (mul-one A ∙ sym (one-mul A)))
    (ap (lt (factor_of w)) (unfold sub round in refl) ∙ not_below_zero w W)

not_below_rest : (w : ℕ) (x : Float) → w < 2 ^ 64 → lt (factor_of w) (sub binary64 one (div binary64 x x)) ≡ false
unfolding div sub
not_below_rest w nan W = not_below_nan (factor_of w)
not_below_rest w (inf s) W = not_below_nan (factor_of w)
not_below_rest w (fin true m e) W = self_quotient w m e W
not_below_rest w (fin false m e) W = self_quotient w m e W

pub full_never_starts : FullNeverStarts
unfolding starts_by fill_fraction chance_of
full_never_starts w c s W h = rw (eq-eqb c c refl, not_above_one s (yes h)) (go (le one s))
  where
    go : (b : Bool) → lt (factor_of w) (cond b nought (sub binary64 one (div binary64 (sub binary64 one s) (sub binary64 one s)))) ≡ false
    go true = not_below_zero w W
    go false = not_below_rest w (sub binary64 one s) W

-- ---- an empty sample

-- its fill is 0
empty_fill : (c : ℕ) → 0 < c → c < 2 ^ 16 → fill_fraction 0 c ≡ nought
empty_fill c C L = fill_is 0 c zero-le C L ∙ round_same binary64 false 0 c 0 1 C (zero-lt-suc 0) (zero-mul 1 ∙ sym (zero-mul c)) ∙ (unfold round in refl)

-- a share that is not above it is a zero, of either sign: 0 over every denominator
pub zero_size : (b : Bool) (e : ℤ) (c : ℕ) → HasValue (fin b 0 e) b 0 c
zero_size b e c = (refl, ap (λ (z : ℕ). z * c) (zero-mul (up e)) ∙ zero-mul c ∙ sym (zero-mul (down e)))

-- no more than 0, and less than 1
pub not_above : (b : Bool) (e : ℤ) → (lt nought (fin b 0 e) ≡ false) × (le one (fin b 0 e) ≡ false)
unfolding lt le eq
not_above true e = (refl, rw (ne_eqb (1 * 1 * down e) (0 * up e * 1) (λ z. lt_irrefl 0 (subst (λ (x : ℕ). 0 < x) (z ∙ (zero_size true e 1).1 ∙ zero-mul (down e)) (mul-pos (zero-lt-suc 0) (down_pos e))))))
not_above false e = (lt_value nought (fin false 0 e) 0 0 1 (zero-lt-suc 0) (zero_value 1) (zero_size false e 1), le_value one (fin false 0 e) 1 0 1 (zero-lt-suc 0) (refl, refl) (zero_size false e 1))

-- taken off, it changes nothing
pub less_zero : (b : Bool) (e : ℤ) → (sub binary64 nought (fin b 0 e) ≡ nought) × (sub binary64 one (fin b 0 e) ≡ one)
unfolding sum round
less_zero b e = (
  sub_value binary64 nought (fin b 0 e) false b 0 0 1 (zero-lt-suc 0) (zero_value 1) (zero_size b e 1) ∙ nothing b,
  sub_value binary64 one (fin b 0 e) false b 1 0 1 (zero-lt-suc 0) (refl, refl) (zero_size b e 1) ∙ all b,
)
  where
    nothing : (b : Bool) → sum binary64 false 0 (not b) 0 1 ≡ nought
    nothing true = refl
    nothing false = refl

    all : (b : Bool) → sum binary64 false 1 (not b) 0 1 ≡ one
    all true = refl
    all false = refl

-- so the chance is 1
at_zero : (b : Bool) (e : ℤ) → chance_of nought (fin b 0 e) ≡ one
unfolding chance_of
at_zero b e = rw ((not_above b e).0, (not_above b e).1, (less_zero b e).0, (less_zero b e).1) (unfold sub div round in refl)

-- as it is at a share above 0
empty_chance : (s : Float) → T (is_share s) → chance_of nought s ≡ one
unfolding is_share
empty_chance nan h = absurd h
empty_chance (inf s) h = absurd h
empty_chance (fin b zero e) h = at_zero b e
empty_chance (fin true (suc m) e) h = absurd (subst T (eqb-suc-zero m) h)
empty_chance (fin false (suc m) e) h =
    unfold chance_of in rw (lt_value nought (fin false (suc m) e) 0 (suc m * up e) (down e) (down_pos e) (zero_value (down e)) (refl, refl), lt-ltb 0 (suc m * up e) (mul-pos (zero-lt-suc m) (up_pos e)))

pub empty_starts : EmptyStarts
unfolding starts_by
empty_starts w c s W C L h = rw (empty_fill c C L, empty_chance s (yes h)) (factor_below w W)
