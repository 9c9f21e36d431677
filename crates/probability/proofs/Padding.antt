-- Channels that hold +0.0 in box and query change no chance: +0.0 added leaves a sum of distances as it is, and the sides too. Assumes nothing.
use mathlib.Core.Path.{◌≡◌, refl, sym, ap, ap₂, ◌∙◌, subst}
use mathlib.Core.Logic.{⊎_elim}
use mathlib.Core.List.{List}
use mathlib.Core.Bool.{Bool, false, ◌&&◌}
use Prim.Native.Nat.{ℕ, zero, suc, ◌*◌, ◌%◌, ◌^◌, ◌≤◌, ◌<◌, ◌+◌, zero-le}
use native.Mathlib.Nat.{le_trans, le_of_eq, le-suc, le_refl, le_of_lt, lt_of_lt_of_le, not-le_of_lt, le_of_suc-le-suc, le_antisymm, eq-or-lt_of_le, zero-lt-suc, lt_irrefl, zero-mul, mul-one, mul_assoc, add-zero, mul-pos, mul-le-mul_left}
use native.Mathlib.Omega.{arith}
use lib.Dec.{T, ltb, leb, eqb, ltb→lt, leb→le, nleb→lt}
use lib.IntN.{ℤ, pos, negsuc}
use lib.Pow.{pow-add, pow_pos, shl_lt}
use lib.Ieee.{Float, nan, inf, fin, binary32, up, down, round, sub, add, fits, lt}
use lib.Ieee.Fits.{round-fits, add-fits, and_l, and_r, down_pos}
use lib.Ieee.Exact.{HasValue, round_exact}
use lib.Ieee.Back.{round_whole, whole_unique}
use borrow.Table.Steps.{cases as by-test}
use Rattle.readings.specs.Number.{nought}
use Rattle.readings.proofs.Tests.{yes, no}
use Rattle.readings.proofs.Values.{add_value, sum_plus, zero_value}
use Rattle.boundingbox.specs.Padding.{Padded}
use Rattle.boundingbox.proofs.Padding.{padded_range}
use Rattle.boundingbox.proofs.Sums.{sum_padded}
use Rattle.cut.specs.Laws.{Padded as PaddedRows}
use Rattle.cut.proofs.Padding.{fewer}
use Rattle.probability.specs.Probability.{past_by, total32, past_sum, part_of, probability}
use Rattle.probability.specs.Laws.{S, W, PaddingAddsNothing}
use Rattle.probability.proofs.Near.{Coordinates, past_near}

-- ---- +0.0 added to an f32 that is a whole number changes nothing
-- the digits of an f32 and its size, as `fits` tells them
parts : (m : ℕ) (s : Bool) (e : ℤ) → T (fits binary32 (fin s (suc m) e)) → (suc m < 2 ^ 24) × (suc m * up e < 2 ^ 128 * down e)
unfolding fits
parts m s e t =
    let a = eqb (suc m % 2) 1 in
    let b = ltb (suc m) (2 ^ 24) in
    let c = leb (down e) (2 ^ 149) in
    let d = ltb (suc m * up e) (2 ^ 128 * down e) in
    (ltb→lt (suc m) (2 ^ 24) (and_r a b (and_l (a && b) c (and_l (a && b && c) d t))), ltb→lt (suc m * up e) (2 ^ 128 * down e) (and_r (a && b && c) d t))

-- it is rounded to itself
again : (x : Float) (a : ℕ) → T (fits binary32 x) → HasValue x false a 1 → 2 ^ 24 < a → HasValue (round binary32 false a 1) false a 1
again nan a f h l = absurd h
again (inf t) a f h l = absurd h
again (fin s zero e) a f h l = absurd (lt_irrefl 0 (subst (λ (x : ℕ). 0 < x) (sym h.1 ∙ ap (λ (y : ℕ). y * 1) (zero-mul (up e)) ∙ zero-mul 1) (mul-pos (le_trans (zero-lt-suc (2 ^ 24)) l) (down_pos e))))
again (fin s (suc m) (pos t)) a f h l =
    let q = parts m s (pos t) f in
    let is : suc m * 2 ^ t ≡ a = sym (mul-one (suc m * 2 ^ t)) ∙ h.1 ∙ mul-one a in
    let small : suc m * 2 ^ t < 2 ^ 128 = subst (λ (z : ℕ). suc m * 2 ^ t < z) (mul-one (2 ^ 128)) q.1 in
    let join : suc m * 2 ^ t * 2 ^ 149 ≡ suc m * 2 ^ (t + 149) = mul_assoc (suc m) (2 ^ t) (2 ^ 149) ∙ ap (λ (z : ℕ). suc m * z) (sym (pow-add 2 t 149)) in
    round_exact binary32 false a 1 (suc m) (t + 149) (zero-lt-suc 0) q.0 (subst (λ (z : ℕ). z < 2 ^ 277) join (shl_lt 128 149 small)) (ap (λ (z : ℕ). z * 2 ^ 149) (sym is) ∙ join ∙ sym (mul-one (suc m * 2 ^ (t + 149))))
again (fin s (suc m) (negsuc t)) a f h l = absurd (not-le_of_lt (lt_of_lt_of_le (parts m s (negsuc t) f).0 (le_of_lt l)) (grown (suc m) a (2 ^ suc t) (pow_pos (suc t)) h.1))
  where
    grown : (x a d : ℕ) → 0 < d → x * 1 * 1 ≡ a * d → a ≤ x
    grown x a d p h = le_trans (le_of_eq (sym (mul-one a))) (le_trans (mul-le-mul_left a p) (le_of_eq (sym h ∙ mul-one (x * 1) ∙ mul-one x)))

plus_nought : (x : Float) (a : ℕ) → T (fits binary32 x) → HasValue x false a 1 → add binary32 x nought ≡ x
plus_nought x a f h =
    let is : add binary32 x nought ≡ round binary32 false a 1 = add_value binary32 x nought false false a 0 1 (zero-lt-suc 0) h (zero_value 1) ∙ sum_plus binary32 a 0 1 ∙ ap (λ (z : ℕ). round binary32 false z 1) (add-zero a) in
    let v : HasValue (round binary32 false a 1) false a 1 = by-test (leb a (2 ^ 24)) (λ t. round_whole binary32 false a (leb→le a (2 ^ 24) (yes t))) (λ t. again x a f h (nleb→lt a (2 ^ 24) (no t))) in
    is ∙ whole_unique binary32 (round binary32 false a 1) x false a (round-fits binary32 false a 1) f v h

-- ---- sums
none_past : past_by nought nought ≡ nought
unfolding past_by sub lt
none_past = refl

total_fits : (g : ℕ → Float) (n : ℕ) → T (fits binary32 (total32 g n))
unfolding total32
total_fits g zero = unfold fits in tt
total_fits g (suc n) = add-fits binary32 (total32 g n) (g n)

-- sums that go on by +0.0 alone
module _ (xs ys : List Float) (d n : ℕ) (few : n ≤ 32) (P : Coordinates xs n) (Q : Coordinates ys n) (Zx : Padded xs d n) (Zy : Padded ys d n) where
  same_from : (m : ℕ) → d ≤ m → m ≤ n → past_sum xs ys m ≡ past_sum xs ys d
  unfolding total32
  same_from zero h k = ap (past_sum xs ys) (le_antisymm zero-le h)
  same_from (suc m) h k =
      ⊎_elim (λ (q : d ≡ suc m). ap (past_sum xs ys) (sym q))
      (λ (q : d < suc m).
      let l = le_of_suc-le-suc q in
      let N = past_near xs ys m (le_trans (le-suc m) (le_trans k few)) (λ i a. P i (le_trans a (le_trans (le-suc m) k))) (λ i a. Q i (le_trans a (le_trans (le-suc m) k))) in
      ap (λ (x : Float). add binary32 (past_sum xs ys m) x) (rw (Zx m l k, Zy m l k) none_past) ∙ plus_nought (past_sum xs ys m) N.whole (total_fits _ m) N.value ∙ same_from m l (le_trans (le-suc m) k))
      (eq-or-lt_of_le h)

pub padding_adds_nothing : PaddingAddsNothing
unfolding probability
padding_adds_nothing d n lo hi p Z R =
    let few = R.box.few in
    let above = same_from p hi d n few R.point R.box.upper Z.point Z.high n Z.fewer (le_refl n) in
    let below = same_from lo p d n few R.box.lower R.point Z.low Z.point n Z.fewer (le_refl n) in
    ap₂ part_of (ap₂ (add binary32) above below) (padded_range lo hi d n few Z.fewer Z.low Z.high (fewer d n lo hi p Z.fewer R).box)

-- ---- whole-number sums, which go on by 0 alone
module _ (d n : ℕ) (lo hi p : List Float) (Z : PaddedRows lo hi p d n) (m : ℕ) (h : d ≤ m) (k : m ≤ n) where
  pub sides_pad : W lo hi m ≡ W lo hi n
  sides_pad = sym (sum_padded _ m n k (λ i a b. rw (Z.low i (le_trans h a) b, Z.high i (le_trans h a) b) (omega arith)))

  pub outside_pad : S lo hi p m ≡ S lo hi p n
  outside_pad = sym (sum_padded _ m n k (λ i a b. rw (Z.low i (le_trans h a) b, Z.high i (le_trans h a) b, Z.point i (le_trans h a) b) (omega arith)))
