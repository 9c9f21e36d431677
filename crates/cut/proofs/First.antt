-- The first channel to which a number falls: there is one, and it is the one whose stretch of the running sum has the number in it. Assumes nothing.
use Rattle.std.proofs.Common.{◌≡◌, ℕ, zero, suc, ◌+◌, ◌*◌, ◌<◌, ◌≤◌, Bool, true, false, cond, not, ◌&&◌, T, ltb, leb, ◌⊎◌, sym, refl, ap, ◌∙◌, subst, inl, inr, zero-le, le_trans, le_of_eq, lt_of_lt_of_le, lt_of_le_of_lt, le_of_lt, lt_irrefl, mul-le-mul_right, eq-zero-or-pos, eq-or-lt_of_le, zero-add, zero-mul, arith, ltb→lt, leb→le, nltb→le}
use lib.Dec.{nleb→lt}
use lib.Ieee.Fits.{and_l, and_r}
use borrow.Table.Steps.{cases as by-test}
use Rattle.readings.proofs.Tests.{leb_yes, yes, no, split}
use Rattle.boundingbox.specs.Wholes.{sum_to}
use Rattle.boundingbox.proofs.Sums.{sum_to_next, sum_pos}
use Rattle.cut.specs.Paper.{falls, first, channel_at}

-- the running sums do not fall
pub sum_more : (g : ℕ → ℕ) (i j : ℕ) → i ≤ j → sum_to g i ≤ sum_to g j
unfolding sum_to
sum_more g i zero h = le_of_eq (ap (sum_to g) (none i h))
  where
    none : (i : ℕ) → i ≤ 0 → i ≡ 0
    none i h = omega arith
sum_more g i (suc j) h = go (eq-or-lt_of_le h) (λ l. sum_more g i j l)
  where
    back : i < suc j → i ≤ j
    back l = omega arith

    go : (i ≡ suc j) ⊎ (i < suc j) → (i ≤ j → sum_to g i ≤ sum_to g j) → sum_to g i ≤ sum_to g j + g j
    go (inl e) ih = le_of_eq (ap (sum_to g) e)
    go (inr l) ih = omega (arith, ih (back l))

module _ (g : ℕ → ℕ) (q c : ℕ) where
  -- the sides before channel i don't reach the number
  abbrev pub Short : ℕ → Type 0
  Short i = (sum_to g i ≡ 0) ⊎ (sum_to g i * c < q)

  pub short_under : (i : ℕ) → Short i → sum_to g i * c ≤ q
  short_under i (inl z) = rw (z, zero-mul c) zero-le
  short_under i (inr l) = le_of_lt l

  -- nor do fewer of them
  short_less : (i j : ℕ) → i ≤ j → Short j → Short i
  short_less i j h (inl z) = inl (none (sum_to g i) (sum_to g j) (sum_more g i j h) z)
    where
      none : (a b : ℕ) → a ≤ b → b ≡ 0 → a ≡ 0
      none a b h z = omega arith
  short_less i j h (inr l) = inr (lt_of_le_of_lt (mul-le-mul_right c (sum_more g i j h)) l)

  pub falls_wide : (i : ℕ) → 0 < g i → falls g q c i ≡ leb q (sum_to g (i + 1) * c)
  unfolding falls
  falls_wide i h = ap (λ (b : Bool). b && leb q (sum_to g (i + 1) * c)) (leb_yes h)

  pub falls_thin : (i : ℕ) → g i ≡ 0 → falls g q c i ≡ false
  unfolding falls
  falls_thin i z = ap (λ (x : ℕ). ltb 0 x && leb q (sum_to g (i + 1) * c)) z

  pub falls_says : (i : ℕ) → falls g q c i ≡ true → (0 < g i) × (q ≤ sum_to g (i + 1) * c)
  unfolding falls
  falls_says i f = (ltb→lt 0 (g i) (and_l (ltb 0 (g i)) (leb q (sum_to g (i + 1) * c)) (yes f)), leb→le q (sum_to g (i + 1) * c) (and_r (ltb 0 (g i)) (leb q (sum_to g (i + 1) * c)) (yes f)))

  pub short_next : (i : ℕ) → Short i → falls g q c i ≡ false → Short (i + 1)
  short_next i s f = go (eq-zero-or-pos (g i))
    where
      plus0 : (a b : ℕ) → b ≡ 0 → a + b ≡ a
      plus0 a b e = omega arith

      go : (g i ≡ 0) ⊎ (0 < g i) → Short (i + 1)
      go (inl z) = subst (λ (x : ℕ). (x ≡ 0) ⊎ (x * c < q)) (sym (sum_to_next g i ∙ plus0 (sum_to g i) (g i) z)) s
      go (inr w) = inr (nleb→lt q (sum_to g (i + 1) * c) (no (sym (falls_wide i w) ∙ f)))

  pub never : (n : ℕ) → Short n → q ≤ sum_to g n * c → 0 < sum_to g n → ⊥
  never n (inl z) h p = lt_irrefl 0 (subst (λ (x : ℕ). 0 < x) z p)
  never n (inr l) h p = go (sum_to g n * c) h l
    where
      go : (x : ℕ) → q ≤ x → x < q → ⊥
      go x a b = omega arith

  pub record Found (n i k : ℕ) : Type 0 where
    pub within : k < i + n
    pub short_there : Short k
    pub falls_there : falls g q c k ≡ true

  pub first_found : (n i : ℕ) → Short i → q ≤ sum_to g (i + n) * c → 0 < sum_to g (i + n) → Found n i (first g q c n i)
  unfolding first
  first_found zero i s h p = absurd (never i s (subst (λ (x : ℕ). q ≤ sum_to g x * c) (plus0 i) h) (subst (λ (x : ℕ). 0 < sum_to g x) (plus0 i) p))
    where
      plus0 : (i : ℕ) → i + 0 ≡ i
      plus0 i = omega arith
  first_found (suc n) i s h p = by-test (falls g q c i) here (λ f. later f (first_found n (i + 1) (short_next i s f) (subst (λ (x : ℕ). q ≤ sum_to g x * c) (move i n) h) (subst (λ (x : ℕ). 0 < sum_to g x) (move i n) p)))
    where
      move : (i n : ℕ) → i + suc n ≡ i + 1 + n
      move i n = omega arith

      less : (i n : ℕ) → i < i + suc n
      less i n = omega arith

      less' : (i n k : ℕ) → k < i + 1 + n → k < i + suc n
      less' i n k h = omega arith

      here : falls g q c i ≡ true → Found (suc n) i (cond (falls g q c i) i (first g q c n (i + 1)))
      here f = rw f (record { within = less i n; short_there = s; falls_there = f })

      later : falls g q c i ≡ false → Found n (i + 1) (first g q c n (i + 1)) → Found (suc n) i (cond (falls g q c i) i (first g q c n (i + 1)))
      later f w = rw f (record { within = less' i n (first g q c n (i + 1)) w.within; short_there = w.short_there; falls_there = w.falls_there })

  -- a number up to the sum falls to some channel of n
  pub number_found : (n : ℕ) → q ≤ sum_to g n * c → 0 < sum_to g n → Found n 0 (channel_at g n q c)
  unfolding channel_at sum_to
  number_found n h p = first_found n 0 (inl refl) (rw zero-add h) (rw zero-add p)

  -- so the sides up to j don't reach the number exactly where j lies before the channel found
  module _ (n i k : ℕ) (F : Found n i k) (j : ℕ) where
    pub before_found : j < k → Short (j + 1)
    before_found h = short_less (j + 1) k (omega arith) F.short_there

    pub short_before : Short (j + 1) → j < k
    short_before s = go (split (ltb j k))
      where
        go : T (ltb j k) ⊎ T (not (ltb j k)) → j < k
        go (inl t) = ltb→lt j k t
        go (inr t) =
            let f = falls_says k F.falls_there in
            let m : sum_to g (k + 1) ≤ sum_to g (j + 1) = sum_more g (k + 1) (j + 1) (up (nltb→le j k t)) in
            absurd (never (j + 1) s (le_trans f.1 (mul-le-mul_right c m)) (lt_of_lt_of_le (sum_pos g (k + 1) k (last k) f.0) m))
          where
            up : k ≤ j → k + 1 ≤ j + 1
            up h = omega arith

            last : (k : ℕ) → k < k + 1
            last k = omega arith
