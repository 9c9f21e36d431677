-- The sides in a list, the sums by fours, and the counts of sums below a bound, as the code makes them. Assumes nothing.
use Rattle.std.proofs.Common.{◌≡◌, ℕ, zero, suc, ◌+◌, ◌*◌, ◌<◌, ◌≤◌, min, Bool, true, false, cond, T, ltb, leb, ◌⊎◌, List, [], ◌∷◌, length, set, replicate, sym, refl, ap, ◌∙◌, inl, inr, zero-le, le_trans, le_refl, add-zero, eq-or-lt_of_le, arith, ltb→lt, leb→le, nltb→le, get_or-set_same, below_none, below_more}
use native.Mathlib.Nat.{le-suc}
use lib.ListN.{get_or-replicate}
use borrow.Author.Rules.{below_length, read_below, read_above}
use borrow.Table.Steps.{cases as by-test}
use Rattle.limits.specs.Limits.{width}
use Rattle.readings.proofs.Tests.{yes, no, leb_yes, leb_no}
use Rattle.boundingbox.specs.Contained.{count_of}
use Rattle.boundingbox.specs.Wholes.{sum_to}
use Rattle.boundingbox.proofs.Counts.{count_most}
use Rattle.boundingbox.proofs.Sums.{sum_to_next, sum_padded, sum_bound}
use Rattle.cut.specs.Sums.{side_in, FirstSides, Sides, SmallSides, Fours, fours, UnderIn}
use Rattle.cut.proofs.Stretched.{sum_same}

-- ---- the sides in a list
module _ (g : ℕ → ℕ) where
  pub first_none : FirstSides g 0 (replicate width 0)
  first_none i h = get_or-replicate width i 0 0 h ∙ rw (leb_no (none i))
    where
      none : (i : ℕ) → 0 < suc i
      none i = omega arith

  -- one side more is written after those that stand there
  pub first_next : (i : ℕ) (sides : List ℕ) (x : ℕ) → length sides ≡ width → i < width → FirstSides g i sides → x ≡ g i → FirstSides g (i + 1) (set sides i x)
  first_next i sides x L l F X j h = by-test (ltb j i) (λ t. before (ltb→lt j i (yes t))) (λ t. from (eq-or-lt_of_le (nltb→le j i (no t))))
    where
      before : j < i → side_in (set sides i x) j ≡ cond (ltb j (i + 1)) (g j) 0
      before k = let m : j < i + 1 = omega arith in rw (leb_yes m) (read_below ℕ sides i j x 0 (g j) k (F j h ∙ rw (leb_yes k)))

      from : (i ≡ j) ⊎ (i < j) → side_in (set sides i x) j ≡ cond (ltb j (i + 1)) (g j) 0
      from (inl e) = let m : j < i + 1 = omega arith in rw (leb_yes m, sym e) (get_or-set_same sides i x 0 (below_length ℕ sides i width L l) ∙ X)
      from (inr k) =
          let m : i + 1 < suc j = omega arith in
          let n : i < suc j = omega arith in
          rw (leb_no m) (read_above ℕ sides i j x 0 0 k (F j h ∙ rw (leb_no n)))

  -- the rest are those of g too where they are padding
  pub sides_all : (d n : ℕ) (sides : List ℕ) → FirstSides g n sides → d ≤ n → ((i : ℕ) → d ≤ i → i < width → g i ≡ 0) → Sides g sides
  sides_all d n sides F l z i h = by-test (ltb i n) (λ t. F i h ∙ rw t) (λ t. F i h ∙ rw t (sym (z i (le_trans l (nltb→le i n (no t))) h)))

  -- so the sums stay as they are
  pub sums_stay : (d : ℕ) → ((i : ℕ) → d ≤ i → i < width → g i ≡ 0) → (m : ℕ) → d ≤ m → (k : ℕ) → m ≤ k → k ≤ width → sum_to g m ≡ sum_to g k
  sums_stay d z m l k h j = sym (sum_padded g m k h (λ i a b. z i (le_trans l a) (le_trans b j)))

module _ (sides : List ℕ) (H : SmallSides sides) where
  pub small_sum : (m : ℕ) → m ≤ width → sum_to (side_in sides) m ≤ 67108864
  small_sum m h = go (sum_to (side_in sides) m) (sum_bound (side_in sides) m (λ i l. H i (le_trans l h)))
    where
      go : (a : ℕ) → a ≤ m * 2097152 → a ≤ 67108864
      go a k = omega arith

-- what is told of the sums of the sides in the list holds of those of g
module _ (g : ℕ → ℕ) (sides : List ℕ) (S : Sides g sides) where
  sums_same : (m : ℕ) → m ≤ width → sum_to (side_in sides) m ≡ sum_to g m
  sums_same m h = sum_same (side_in sides) g m (λ i l. S i (le_trans l h))

  pub fours_same : (sums : List ℕ) → Fours (side_in sides) sums → Fours g sums
  fours_same sums E j h = E j h ∙ sums_same (4 * j) (omega arith)

  pub under_same : (at bound count sum : ℕ) → at + 4 ≤ width → UnderIn (side_in sides) at bound count sum → UnderIn g at bound count sum
  under_same at bound count sum h U = record {
    counted = U.counted ∙ sum_same _ (λ (i : ℕ). bit (sum_to g (at + (i + 1)))) 4 (λ i l. ap bit (sums_same (at + (i + 1)) (omega arith)));
    summed = U.summed ∙ sums_same (at + count) (omega (arith, U.counted, count_most (λ (i : ℕ). ltb (sum_to (side_in sides) (at + (i + 1))) bound) 4));
  }
    where
      bit : ℕ → ℕ
      bit s = cond (ltb s bound) 1 0

-- ---- the sums
module _ (g : ℕ → ℕ) where
  pub four_more : (at x y : ℕ) → x ≡ sum_to g at → sum_to g at + y ≡ sum_to g (at + 4) → x + y ≡ sum_to g (at + 4)
  four_more at x y e f = omega arith

  pub first_four : (x : ℕ) → sum_to g 0 + x ≡ sum_to g 4 → x ≡ sum_to g 4
  first_four x e = let z : sum_to g 0 ≡ 0 = unfold sum_to in refl in omega arith

  pub fours_are : (a b c d e f h k : ℕ) → a ≡ sum_to g 4 → b ≡ sum_to g 8 → c ≡ sum_to g 12 → d ≡ sum_to g 16 → e ≡ sum_to g 20 → f ≡ sum_to g 24 → h ≡ sum_to g 28 → k ≡ sum_to g 32 →
      Fours g (0 ∷ a ∷ b ∷ c ∷ d ∷ e ∷ f ∷ h ∷ k ∷ [])
  fours_are a b c d e f h k A B C D E F H K =
      below_more _ 8 (below_more _ 7 (below_more _ 6 (below_more _ 5 (below_more _ 4 (below_more _ 3 (below_more _ 2 (below_more _ 1 (below_more _ 0 (below_none _) none) A) B) C) D) E) F) H) K
    where
      none : 0 ≡ sum_to g 0
      none = unfold sum_to in refl

  -- where they stay as they are from one of them on
  pub fours_two : (a b : ℕ) → a ≡ sum_to g 4 → b ≡ sum_to g 8 → ((m : ℕ) → 8 ≤ m → m ≤ 32 → sum_to g 8 ≡ sum_to g m) → Fours g (0 ∷ a ∷ b ∷ b ∷ b ∷ b ∷ b ∷ b ∷ b ∷ [])
  fours_two a b A B s = fours_are a b b b b b b b A B (at 12 tt tt) (at 16 tt tt) (at 20 tt tt) (at 24 tt tt) (at 28 tt tt) (at 32 tt tt)
    where
      at : (m : ℕ) → T (leb 8 m) → T (leb m 32) → b ≡ sum_to g m
      at m h k = B ∙ s m (leb→le 8 m h) (leb→le m 32 k)

  pub fours_four : (a b c d : ℕ) → a ≡ sum_to g 4 → b ≡ sum_to g 8 → c ≡ sum_to g 12 → d ≡ sum_to g 16 → ((m : ℕ) → 16 ≤ m → m ≤ 32 → sum_to g 16 ≡ sum_to g m) → Fours g (0 ∷ a ∷ b ∷ c ∷ d ∷ d ∷ d ∷ d ∷ d ∷ [])
  fours_four a b c d A B C D s = fours_are a b c d d d d d A B C D (at 20 tt tt) (at 24 tt tt) (at 28 tt tt) (at 32 tt tt)
    where
      at : (m : ℕ) → T (leb 16 m) → T (leb m 32) → d ≡ sum_to g m
      at m h k = D ∙ s m (leb→le 16 m h) (leb→le m 32 k)

-- ---- the counts
module _ (x b : ℕ) where
  abbrev bit : ℕ
  bit = cond (ltb x b) 1 0

  pub bit_one : x < b → 1 ≡ bit
  bit_one h = rw (leb_yes h)

  pub bit_none : b ≤ x → 0 ≡ bit
  bit_none h = let l : b < suc x = omega arith in rw (leb_no l)

module _ (p : ℕ → Bool) where
  pub count_one : (a : ℕ) → a ≡ cond (p 0) 1 0 → a ≡ count_of p 1
  count_one a e = let z : count_of p 0 ≡ 0 = unfold sum_to in refl in omega (arith, sum_to_next (λ (i : ℕ). cond (p i) 1 0) 0)

  pub count_two_more : (n m a b : ℕ) → m ≡ count_of p n → a ≡ cond (p n) 1 0 → b ≡ cond (p (n + 1)) 1 0 → m + a + b ≡ count_of p (n + 1 + 1)
  count_two_more n m a b e f h = omega (arith, sum_to_next (λ (i : ℕ). cond (p i) 1 0) n, sum_to_next (λ (i : ℕ). cond (p i) 1 0) (n + 1))

-- as many are counted as the tree's channels ask for
module _ (d : ℕ) where
  pub fours_few : d ≤ 8 → fours d ≡ 1
  unfolding fours
  fours_few h = rw (leb_yes h)

  pub fours_some : 8 < d → d ≤ 16 → fours d ≡ 3
  unfolding fours
  fours_some h k = rw (leb_no h, leb_yes k)

  pub fours_all : 16 < d → fours d ≡ 7
  unfolding fours
  fours_all h = let l : 8 < d = omega arith in rw (leb_no l, leb_no h)

-- the count of a test that passes below k alone
pub count_is : (p : ℕ → Bool) (k n : ℕ) → ((j : ℕ) → j < n → p j ≡ ltb j k) → count_of p n ≡ min n k
unfolding sum_to
count_is p k zero e = omega arith
count_is p k (suc n) e = rw (e n (le_refl (suc n)), count_is p k n (λ j l. e j (le_trans l (le-suc n)))) (by-test (ltb n k) (λ t. rw t (more (ltb→lt n k (yes t)))) (λ t. rw t (as_was (nltb→le n k (no t)))))
  where
    more : n < k → min n k + 1 ≡ min (suc n) k
    more h = omega arith

    as_was : k ≤ n → min n k + 0 ≡ min (suc n) k
    as_was h = omega arith

-- ---- the sums from a channel on, of which i are worked out: `before` is the last that lies below the bound
pub record Passed (g : ℕ → ℕ) (at bound i sum before count : ℕ) : Type 0 where
  pub summed : sum ≡ sum_to g (at + i)
  pub counted : count ≡ count_of (λ (j : ℕ). ltb (sum_to g (at + (j + 1))) bound) i
  pub most : count ≤ i
  pub last : before ≡ sum_to g (at + count)
  pub so_far : (count ≡ i) ⊎ (bound ≤ sum)

module _ (g : ℕ → ℕ) (at bound : ℕ) where
  abbrev p : ℕ → Bool
  p j = ltb (sum_to g (at + (j + 1))) bound

  pub passed_none : (base : ℕ) → base ≡ sum_to g at → Passed g at bound 0 base base 0
  passed_none base e = record { summed = rw add-zero e; counted = unfold sum_to in refl; most = zero-le; last = rw add-zero e; so_far = inl refl }

  module _ (i sum before count : ℕ) (H : Passed g at bound i sum before count) (x : ℕ) (X : x ≡ g (at + i)) where
    pub next_sum : sum + x ≡ sum_to g (at + (i + 1))
    next_sum = omega (arith, H.summed, sum_to_next g (at + i), ap (sum_to g) move)
      where
        move : at + (i + 1) ≡ at + i + 1
        move = omega arith

    pub next_fits : sum_to g (at + (i + 1)) ≤ 67108864 → sum + x < 4294967296
    next_fits h = omega (arith, next_sum)

    pub passed_next : (y c : ℕ) → y ≡ cond (ltb (sum + x) bound) (sum + x) before → c ≡ cond (ltb (sum + x) bound) 1 0 → Passed g at bound (i + 1) (sum + x) y (count + c)
    passed_next y c Y C = by-test (ltb (sum + x) bound) (λ t. under t (Y ∙ rw t) (C ∙ rw t)) (λ t. past t (Y ∙ rw t) (C ∙ rw t))
      where
        bit : ℕ → ℕ
        bit s = cond (ltb s bound) 1 0

        counts : count + c ≡ count_of p (i + 1)
        counts = omega (arith, H.counted, C, sum_to_next (λ (j : ℕ). cond (p j) 1 0) i, ap bit next_sum)

        under : ltb (sum + x) bound ≡ true → y ≡ sum + x → c ≡ 1 → Passed g at bound (i + 1) (sum + x) y (count + c)
        under t Y C =
            let l : sum + x < bound = ltb→lt (sum + x) bound (yes t) in
            let e : count ≡ i = all H.so_far l in
            let m : count + c ≡ i + 1 = omega arith in
            record { summed = next_sum; counted = counts; most = omega arith; last = rw m (Y ∙ next_sum); so_far = inl m }
          where
            all : (count ≡ i) ⊎ (bound ≤ sum) → sum + x < bound → count ≡ i
            all (inl e) l = e
            all (inr h) l = absurd (none h l)
              where
                none : bound ≤ sum → sum + x < bound → ⊥
                none h l = omega arith

        past : ltb (sum + x) bound ≡ false → y ≡ before → c ≡ 0 → Passed g at bound (i + 1) (sum + x) y (count + c)
        past t Y C =
            let h : bound ≤ sum + x = nltb→le (sum + x) bound (no t) in
            let m : count + c ≡ count = omega arith in
            record { summed = next_sum; counted = counts; most = omega (arith, H.most); last = rw m (Y ∙ H.last); so_far = inr h }

  pub passed_all : (sum before count : ℕ) → Passed g at bound 4 sum before count → UnderIn g at bound count before
  passed_all sum before count H = record { counted = H.counted; summed = H.last }
