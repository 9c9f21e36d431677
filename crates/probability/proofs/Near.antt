-- Distances added up in f32, of coordinates and up to 32 channels: the sum is a whole number, off from the whole-number sum by 126 at most, and by nothing up to 2^24. Assumes nothing.
use mathlib.Core.Path.{◌≡◌, refl, sym, ◌∙◌, subst}
use mathlib.Core.List.{List}
use mathlib.Core.Bool.{true, false, cond}
use Prim.Native.Nat.{ℕ, zero, suc, ◌+◌, ◌-◌, ◌*◌, ◌^◌, ◌≤◌, ◌<◌, zero-le}
use native.Mathlib.Nat.{le_trans, le_of_eq, le-suc, le_refl, zero-lt-suc}
use native.Mathlib.Omega.{arith}
use lib.IntN.{pos}
use lib.Dec.{T, ltb, leb, leb→le, nleb→lt, ltb→lt, nltb→le}
use lib.Ieee.{Float, binary32, sub, lt, add, of_int}
use lib.Ieee.Exact.{HasValue}
use borrow.Table.Steps.{cases as by-test}
use Rattle.readings.specs.Coordinate.{is_coordinate, rank}
use Rattle.readings.specs.Number.{nought}
use Rattle.readings.proofs.Tests.{yes, no}
use Rattle.readings.proofs.Values.{lt_value, zero_value}
use Rattle.readings.proofs.Wholes.{of_int_value}
use Rattle.readings.proofs.Ranks.{rank_le, lt_rank, sub_rank}
use Rattle.boundingbox.specs.Ends.{channel}
use Rattle.boundingbox.specs.Wholes.{sum_to}
use Rattle.boundingbox.proofs.Sums.{sum_bound}
use Rattle.cut.specs.Laws.{Readings}
use Rattle.cut.proofs.Stretched.{sum_plus}
use Rattle.probability.specs.Probability.{past_by, total32, past_sum, outside}
use Rattle.probability.specs.Laws.{distance, S}
use Rattle.probability.proofs.Signs.{sub_under}
use Rattle.probability.proofs.Rounds.{Rounded, added}

-- x is a whole number, off from s by e at most, and s itself up to 2^24
pub record Near (x : Float) (s e : ℕ) : Type 0 where
  pub whole : ℕ
  pub value : HasValue x false whole 1
  pub over : whole ≤ s + e
  pub under : s ≤ whole + e
  pub exact : s ≤ 2 ^ 24 → whole ≡ s

-- what the sum of two is off by: by what each of the two is, and by its own rounding
near_add : {x y : Float} {s t d e : ℕ} (k : ℕ) (A : Near x s d) (B : Near y t e) → Rounded (add binary32 x y) (A.whole + B.whole) (2 * k) → Near (add binary32 x y) (s + t) (d + e + k)
near_add {x} {y} {s} {t} {d} {e} k A B R = record {
  whole = R.whole;
  value = R.value;
  over = more R.whole A.whole B.whole s t d e k R.over A.over B.over;
  under = less R.whole A.whole B.whole s t d e k R.under A.under B.under;
  exact = same R.whole A.whole B.whole s t A.exact B.exact R.exact;
}
  where
    more : (r a b s t d e k : ℕ) → 2 * r ≤ 2 * (a + b) + 2 * k → a ≤ s + d → b ≤ t + e → r ≤ s + t + (d + e + k)
    more r a b s t d e k h f g = omega arith

    less : (r a b s t d e k : ℕ) → 2 * (a + b) ≤ 2 * r + 2 * k → s ≤ a + d → t ≤ b + e → s + t ≤ r + (d + e + k)
    less r a b s t d e k h f g = omega arith

    same : (r a b s t : ℕ) → (s ≤ 16777216 → a ≡ s) → (t ≤ 16777216 → b ≡ t) → (a + b ≤ 16777216 → r ≡ a + b) → s + t ≤ 16777216 → r ≡ s + t
    same r a b s t f g q h =
        let i : a ≡ s = f (omega arith) in
        let j : b ≡ t = g (omega arith) in
        q (omega arith) ∙ omega arith

-- the same with more room, and with none needed where nothing is off
wider : {x : Float} {s e k : ℕ} → Near x s e → e ≤ k → Near x s k
wider {x} {s} {e} {k} N h = record { whole = N.whole; value = N.value; over = go N.whole s N.over; under = go s N.whole N.under; exact = N.exact }
  where
    go : (a b : ℕ) → a ≤ b + e → a ≤ b + k
    go a b l = omega arith

exactly : {x : Float} {s e : ℕ} → Near x s e → s ≤ 2 ^ 24 → (k : ℕ) → Near x s k
exactly {x} {s} N h k = let e = N.exact h in record { whole = N.whole; value = N.value; over = omega arith; under = omega arith; exact = N.exact }

-- ---- a sum in channel order
-- how far n additions of at most 2^21 lead away: 8 of them are exact, up to 2^26 each is off by 2 at most, and the last of 32 by 4
abbrev off : ℕ → ℕ
off n = 2 * (n - 8) + 2 * (n - 31)

-- one channel more
module _ (x y : Float) (s b n : ℕ) (h : suc n ≤ 32) (A : Near x s (off n)) (v : HasValue y false b 1) (all : s ≤ n * 2097152) (one : b ≤ 2097152) where
  B : Near y b 0
  B = record { whole = b; value = v; over = omega arith; under = omega arith; exact = λ _. refl }

  -- from the addition's own rounding, which is off by k at most
  by_rounding : (k : ℕ) → Rounded (add binary32 x y) (A.whole + b) (2 * k) → (8 < suc n → off n + 0 + k ≤ off (suc n)) → Near (add binary32 x y) (s + b) (off (suc n))
  unfolding B
  by_rounding k R l =
      let N = near_add k A B R in
      by-test (leb (suc n) 8) (λ t. exactly N (few (leb→le (suc n) 8 (yes t))) (off (suc n))) (λ t. wider N (l (nleb→lt (suc n) 8 (no t))))
    where
      few : suc n ≤ 8 → s + b ≤ 16777216
      few l = omega arith

  step : Near (add binary32 x y) (s + b) (off (suc n))
  step =
      by-test (leb (suc n) 31) (λ t. let l = leb→le (suc n) 31 (yes t) in by_rounding 2 (rounded 26 (below_26 A.whole A.over l) (leb→le 26 28 tt)) (two n l))
      (λ t. by_rounding 4 (rounded 27 (below_27 A.whole A.over) (leb→le 27 28 tt)) (four n (nleb→lt (suc n) 31 (no t))))
    where
      rounded : (q : ℕ) → A.whole + b < 2 ^ q → q ≤ 28 → Rounded (add binary32 x y) (A.whole + b) (2 ^ (q - 24))
      rounded q l k = added x y A.whole b q A.value v l k

      below_26 : (a : ℕ) → a ≤ s + off n → suc n ≤ 31 → a + b < 67108864
      below_26 a k l = omega arith

      below_27 : (a : ℕ) → a ≤ s + off n → a + b < 134217728
      below_27 a k = omega arith

      two : (n : ℕ) → suc n ≤ 31 → 8 < suc n → off n + 0 + 2 ≤ off (suc n)
      two n h k = omega arith

      four : (n : ℕ) → 31 < suc n → 8 < suc n → off n + 0 + 4 ≤ off (suc n)
      four n h k = omega arith

total32_near : (f : ℕ → Float) (g : ℕ → ℕ) (n : ℕ) → n ≤ 32 → ((i : ℕ) → i < n → HasValue (f i) false (g i) 1) → ((i : ℕ) → i < n → g i ≤ 2097152) → Near (total32 f n) (sum_to g n) (off n)
unfolding total32 sum_to
total32_near f g zero h v b = record { whole = 0; value = zero_value 1; over = zero-le; under = zero-le; exact = λ _. refl }
total32_near f g (suc n) h v b =
    let b' : (i : ℕ) → i < n → g i ≤ 2097152 = λ i l. b i (le_trans l (le-suc n)) in
    step (total32 f n) (f n) (sum_to g n) (g n) n h (total32_near f g n (le_trans (le-suc n) h) (λ i l. v i (le_trans l (le-suc n))) b') (v n (le_refl (suc n))) (sum_bound g n b') (b n (le_refl (suc n)))

-- ---- one channel
module _ (x y : Float) (P : T (is_coordinate x)) (Q : T (is_coordinate y)) where
  abbrev k : ℕ
  k = rank x - rank y

  past_most : rank x - rank y ≤ 2097152
  past_most = omega (arith, rank_le x P)

  past_value : HasValue (past_by x y) false (rank x - rank y) 1
  unfolding past_by
  past_value = by-test (ltb (rank x) (rank y)) under (λ t. rw (sub_rank x y P Q (nltb→le (rank x) (rank y) (no t))) over)
    where
      none : (a b : ℕ) → a < b → 0 ≡ a - b
      none a b h = omega arith

      under : ltb (rank x) (rank y) ≡ true → HasValue (cond (lt nought (sub binary32 x y)) (sub binary32 x y) nought) false (rank x - rank y) 1
      under t = rw (sub_under binary32 x y (lt_rank x y P Q ∙ t)) (subst (λ (n : ℕ). HasValue nought false n 1) (none (rank x) (rank y) (ltb→lt (rank x) (rank y) (yes t))) (zero_value 1))

      value : HasValue (of_int binary32 (pos k)) false k 1
      value = of_int_value binary32 k (le_trans past_most (leb→le 2097152 (2 ^ 24) tt))

      zero_is : (n : ℕ) → n ≤ 0 → 0 ≡ n
      zero_is n h = omega arith

      over : HasValue (cond (lt nought (of_int binary32 (pos k))) (of_int binary32 (pos k)) nought) false k 1
      over =
          rw (lt_value nought (of_int binary32 (pos k)) 0 k 1 (zero-lt-suc 0) (zero_value 1) value)
          (by-test (ltb 0 k) (λ t. rw t value) (λ t. rw t (subst (λ (n : ℕ). HasValue nought false n 1) (zero_is k (nltb→le 0 k (no t))) (zero_value 1))))

-- ---- the sums
abbrev pub Coordinates : List Float → ℕ → Type 0
Coordinates xs n = (i : ℕ) → i < n → T (is_coordinate (channel xs i))

abbrev past : List Float → List Float → ℕ → ℕ
past xs ys i = rank (channel xs i) - rank (channel ys i)

pub past_near : (xs ys : List Float) (n : ℕ) → n ≤ 32 → Coordinates xs n → Coordinates ys n → Near (past_sum xs ys n) (sum_to (past xs ys) n) (off n)
past_near xs ys n h P Q = total32_near _ _ n h (λ i l. past_value (channel xs i) (channel ys i) (P i l) (Q i l)) (λ i l. past_most (channel xs i) (channel ys i) (P i l) (Q i l))

module _ (n : ℕ) (lo hi p : List Float) (R : Readings lo hi p n) where
  S-bound : S lo hi p n ≤ n * 2097152
  S-bound = sum_bound _ n (λ i h. go (rank (channel lo i)) (rank (channel hi i)) (rank (channel p i)) (R.box.ordered i h) (rank_le (channel lo i) (R.box.lower i h)) (rank_le (channel p i) (R.point i h)))
    where
      go : (a b x : ℕ) → a ≤ b → a ≤ 2097152 → x ≤ 2097152 → distance a b x ≤ 2097152
      go a b x h k l = omega arith

  pub S-le : S lo hi p n ≤ 2 ^ 26
  S-le = go (S lo hi p n) n S-bound R.box.few
    where
      go : (s n : ℕ) → s ≤ n * 2097152 → n ≤ 32 → s ≤ 67108864
      go s n h k = omega arith

  pub S-small : n ≤ 8 → S lo hi p n ≤ 2 ^ 24
  S-small = go (S lo hi p n) n S-bound
    where
      go : (s n : ℕ) → s ≤ n * 2097152 → n ≤ 8 → s ≤ 16777216
      go s n h k = omega arith

  -- the distances above and those below make up the whole: twice 50 at most, and 4 as the two are added
  pub outside_near : Near (outside lo hi p n) (S lo hi p n) 126
  outside_near =
      subst (λ (s : ℕ). Near (outside lo hi p n) s 126) (sym parted)
      (wider (near_add 4 A B (added (past_sum p hi n) (past_sum lo p n) A.whole B.whole 27 A.value B.value (below_27 _ _ _ _ A.over B.over (le_trans (le_of_eq (sym parted)) S-le) R.box.few) (leb→le 27 28 tt)))
      (in_all n R.box.few))
    where
      A : Near (past_sum p hi n) (sum_to (past p hi) n) (off n)
      A = past_near p hi n R.box.few R.point R.box.upper

      B : Near (past_sum lo p n) (sum_to (past lo p) n) (off n)
      B = past_near lo p n R.box.few R.box.lower R.point

      parted : S lo hi p n ≡ sum_to (past p hi) n + sum_to (past lo p) n
      parted = sum_plus (past p hi) (past lo p) n

      below_27 : (a b s t : ℕ) → a ≤ s + off n → b ≤ t + off n → s + t ≤ 67108864 → n ≤ 32 → a + b < 134217728
      below_27 a b s t f g h k = omega arith

      in_all : (n : ℕ) → n ≤ 32 → off n + off n + 4 ≤ 126
      in_all n h = omega arith
