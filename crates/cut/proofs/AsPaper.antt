-- Document 01's cut and the paper's: a channel in proportion to its side, the same channel for the number drawn, places that make up the side, and the roundings between them. Assumes nothing.
use Rattle.std.proofs.Common.{◌≡◌, ℕ, zero, suc, ◌+◌, ◌-◌, ◌*◌, ◌/◌, ◌^◌, ◌<◌, ◌≤◌, Bool, true, false, cond, ◌&&◌, ltb, ◌⊎◌, sym, refl, ap, ◌∙◌, subst, inl, inr, zero-le, le_trans, le_of_eq, lt_of_le_of_lt, mul-le-mul_right, add-mul, eq-zero-or-pos, eq-or-lt_of_le, zero-add, mul_right_comm, le_of_mul-le-mul_right, sub-le, arith, pow_pos}
use mathlib.Core.Bool.{and-false}
use lib.Ieee.Exact.{HasValue}
use lib.Ieee.Positive.{num, den, den_pos, value→cross}
use Rattle.readings.proofs.Tests.{leb_iff, leb_no, leb_yes}
use Rattle.readings.proofs.Values.{scaled_exact}
use Rattle.boundingbox.specs.Wholes.{side, sum_to}
use Rattle.boundingbox.proofs.Sums.{sum_to_next}
use Rattle.cut.specs.Paper.{falls, first, channel_at, back_at, rest_at}
use Rattle.cut.specs.Document.{number_drawn, channel_of, rest_of, cut_of}
use Rattle.cut.specs.Laws.{InProportion, PlacesMakeSide, AsPaper}
use Rattle.cut.proofs.First.{short_under, sum_more, falls_wide, falls_says, Found, number_found}
use Rattle.cut.proofs.Going.{expo, den_is}
use Rattle.cut.proofs.Number.{number_most, own}

-- ---- in proportion
module _ (g : ℕ → ℕ) (q c : ℕ) where
  finds : (n i k : ℕ) → i ≤ k → k < i + n → ((j : ℕ) → j < k → falls g q c j ≡ false) → falls g q c k ≡ true → first g q c n i ≡ k
  unfolding first
  finds zero i k a b p s = absurd (go i k a b)
    where
      go : (i k : ℕ) → i ≤ k → k < i + 0 → ⊥
      go i k a b = omega arith
  finds (suc n) i k a b p s = go (eq-or-lt_of_le a) (λ u v. finds n (i + 1) k u v p s)
    where
      up : i < k → i + 1 ≤ k
      up h = omega arith

      room : k < i + suc n → k < i + 1 + n
      room h = omega arith

      go : (i ≡ k) ⊎ (i < k) → (i + 1 ≤ k → k < i + 1 + n → first g q c n (i + 1) ≡ k) → cond (falls g q c i) i (first g q c n (i + 1)) ≡ k
      go (inl e) ih = rw (ap (falls g q c) e ∙ s) e
      go (inr l) ih = rw (p i l) (ih (up l) (room b))

  passed : (i j : ℕ) → j < i → sum_to g i * c < q → falls g q c j ≡ false
  unfolding falls
  passed i j h l = rw (leb_no (lt_of_le_of_lt (mul-le-mul_right c (sum_more g (j + 1) i (up j i h))) l)) (and-false (ltb 0 (g j)))
    where
      up : (j i : ℕ) → j < i → j + 1 ≤ i
      up j i h = omega arith

pub in_proportion : InProportion
unfolding channel_at
in_proportion g n q c i h l m = finds g q c n 0 i zero-le (subst (λ (x : ℕ). i < x) (sym (zero-add n)) h) (λ j k. passed g q c i j k l) (falls_wide g q c i (wide (eq-zero-or-pos (g i))) ∙ leb_yes m)
  where
    wide : (g i ≡ 0) ⊎ (0 < g i) → 0 < g i
    wide (inr p) = p
    wide (inl z) = absurd (go (sum_to g i * c) (sum_to g (i + 1) * c) l m (ap (λ (s : ℕ). s * c) (sum_to_next g i ∙ none (sum_to g i) (g i) z)))
      where
        none : (s x : ℕ) → x ≡ 0 → s + x ≡ s
        none s x e = omega arith

        go : (a b : ℕ) → a < q → q ≤ b → b ≡ a → ⊥
        go a b l m e = omega arith

-- ---- the channel is that of the number, by whatever fraction it is given
module _ (g : ℕ → ℕ) (q c r d : ℕ) (C : 0 < c) (D : 0 < d) (e : q * d ≡ r * c) where
  falls_same : (i : ℕ) → falls g q c i ≡ falls g r d i
  unfolding falls
  falls_same i = ap (λ (b : Bool). ltb 0 (g i) && b) (leb_iff q (s * c) r (s * d) to from)
    where
      s : ℕ
      s = sum_to g (i + 1)

      to : q ≤ s * c → r ≤ s * d
      to h = le_of_mul-le-mul_right (le_trans (le_of_eq (sym e)) (le_trans (mul-le-mul_right d h) (le_of_eq (mul_right_comm s c d)))) C

      from : r ≤ s * d → q ≤ s * c
      from h = le_of_mul-le-mul_right (le_trans (le_of_eq e) (le_trans (mul-le-mul_right c h) (le_of_eq (mul_right_comm s d c)))) D

  first_same : (n i : ℕ) → first g q c n i ≡ first g r d n i
  unfolding first
  first_same zero i = refl
  first_same (suc n) i = rw (falls_same i) (ap (cond (falls g r d i) i) (first_same n (i + 1)))

  channel_same : (n : ℕ) → channel_at g n q c ≡ channel_at g n r d
  unfolding channel_at
  channel_same n = first_same n 0

-- ---- the two places
pub places_make_side : PlacesMakeSide
unfolding rest_at back_at
places_make_side g n q c P M =
    let d = channel_at g n q c in
    let F : Found g q c n 0 d = number_found g q c n M P in
    go (sum_to g d * c) (g d * c) (sum_to g (d + 1) * c) (ap (λ (s : ℕ). s * c) (sum_to_next g d) ∙ add-mul (sum_to g d) (g d) c) (short_under g q c d F.short_there) (falls_says g q c d F.falls_there).1
  where
    go : (a s b : ℕ) → b ≡ a + s → a ≤ q → q ≤ b → q - a + (b - q) ≡ s
    go a s b e l m = omega arith

rest_most : (g : ℕ → ℕ) (n q c : ℕ) → rest_at g n q c ≤ q
unfolding rest_at
rest_most g n q c = sub-le q (sum_to g (channel_at g n q c) * c)

pub as_paper : AsPaper
unfolding cut_of channel_of rest_of
as_paper n lo hi w B P W =
    let N = number_drawn lo hi n w in
    let o = own lo hi n B w W in
    let v : HasValue N false (num N) (den N) = subst (HasValue N false (num N)) (sym (den_is N)) o.0.value in
    record {
      q = num N;
      c = den N;
      number = v;
      most = number_most lo hi n B w W;
      channel = refl;
      rest = rw (den_is N) (scaled_exact (rest_at (side lo hi) n (num N) (2 ^ expo N)) (expo N) (lt_of_le_of_lt (rest_most (side lo hi) n (num N) (2 ^ expo N)) o.1) o.0.fine);
      back = places_make_side (side lo hi) n (num N) (den N) P (number_most lo hi n B w W);
      place = refl;
      unrounded = λ h. channel_same (side lo hi) (num N) (den N) (sum_to (side lo hi) n * (w / 2 ^ 11)) (2 ^ 53) (den_pos N) (pow_pos 53) (value→cross N (sum_to (side lo hi) n * (w / 2 ^ 11)) (2 ^ 53) h) n;
    }
