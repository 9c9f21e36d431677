-- A box of lists grown by other lists, as the functions grow it: what it holds, and when it is unchanged. Assumes nothing.
use mathlib.Core.Path.{◌≡◌, sym, ap, ◌∙◌, subst}
use mathlib.Core.List.{List}
use mathlib.Core.Bool.{true, false, not}
use Prim.Native.Nat.{ℕ, ◌≤◌, ◌<◌}
use native.Mathlib.Nat.{le_trans}
use lib.Dec.{T}
use lib.ListN.{length}
use lib.Seq.{ext_get_or}
use lib.Ieee.{Float, nan, lt, eq}
use lib.Ieee.Fits.{and_l, and_r, and_i}
use lib.Ieee.Bits.{is_true, is_false}
use Rattle.readings.specs.Coordinate.{is_coordinate}
use Rattle.readings.proofs.Tests.{no}
use Rattle.boundingbox.specs.Ends.{channel, least, greatest, joined}
use Rattle.boundingbox.specs.Sides.{range_sum}
use Rattle.boundingbox.specs.Contained.{stays, contains, inside, strictly_contains}
use Rattle.boundingbox.specs.Wholes.{Box}
use Rattle.boundingbox.proofs.Joined.{joined_length, joined_channel}
use Rattle.boundingbox.proofs.Every.{every_at, every_from}
use Rattle.boundingbox.proofs.Order.{Places, least_new, greatest_new, greatest_stays, least_stays}
use Rattle.boundingbox.proofs.Sums.{total_same}
use Rattle.boundingbox.proofs.Growth.{same_sum}

stays_is : (lo hi a b : Float) → lt a lo ≡ false → lt hi b ≡ false → T (stays lo hi a b)
unfolding stays
stays_is lo hi a b p q = and_i (not (lt a lo)) (not (lt hi b)) (no p) (no q)

stays_says : (lo hi a b : Float) → T (stays lo hi a b) → (lt a lo ≡ false) × (lt hi b ≡ false)
unfolding stays
stays_says lo hi a b t = (is_false (lt a lo) (and_l (not (lt a lo)) (not (lt hi b)) t), is_false (lt hi b) (and_r (not (lt a lo)) (not (lt hi b)) t))

module _ (lo hi p : List Float) (n : ℕ) (t : T (strictly_contains lo hi p n)) where
  pub strictly_between : (i : ℕ) → i < n → (lt (channel lo i) (channel p i) ≡ true) × (lt (channel p i) (channel hi i) ≡ true)
  unfolding inside
  strictly_between i h =
      let l = lt (channel lo i) (channel p i) in
      let u = lt (channel p i) (channel hi i) in
      let w = every_at _ n t i h in
      (is_true l (and_l l u w), is_true u (and_r l u w))

module _ (lo hi a b : List Float) (n : ℕ) (L : n ≤ length lo) (H : n ≤ length hi) where
  pub low_is : (i : ℕ) → i < n → channel (joined least lo a) i ≡ least (channel lo i) (channel a i)
  low_is i h = joined_channel least lo a i (le_trans h L)

  pub high_is : (i : ℕ) → i < n → channel (joined greatest hi b) i ≡ greatest (channel hi i) (channel b i)
  high_is i h = joined_channel greatest hi b i (le_trans h H)

  -- the grown box holds what it was grown by
  pub holds_new : T (contains (joined least lo a) (joined greatest hi b) a b n)
  holds_new =
      every_from _ n
      (λ i h. rw (low_is i h, high_is i h) (stays_is _ _ (channel a i) (channel b i) (least_new (channel lo i) (channel a i)) (greatest_new (channel hi i) (channel b i))))

  -- a box that growing leaves as it is held what it was grown by
  pub unchanged_contains : joined least lo a ≡ lo → joined greatest hi b ≡ hi → T (contains lo hi a b n)
  unchanged_contains e f = subst (λ (x : List Float). T (contains x hi a b n)) e (subst (λ (y : List Float). T (contains (joined least lo a) y a b n)) f holds_new)

  module _ (B : Box (channel lo) (channel hi) n) (A : (i : ℕ) → i < n → T (is_coordinate (channel a i))) (C : (i : ℕ) → i < n → T (is_coordinate (channel b i))) where
    -- the Rust's answer, `old_sum == self.range_sum`
    pub same_range : contains lo hi a b n ≡ eq (range_sum lo hi n) (range_sum (joined least lo a) (joined greatest hi b) n)
    same_range =
        same_sum (channel lo) (channel hi) (channel a) (channel b) n B A C
        ∙ ap (eq (range_sum lo hi n)) (total_same _ _ n (λ i h. sym (rw (low_is i h, high_is i h))))

-- where a place is one float's only: a box that holds what it is grown by is unchanged
module _ (P : Float → Type 0) (place : Float → ℕ) (K : Places P place) (one : (x y : Float) → P x → P y → place x ≡ place y → x ≡ y) where
  pub contains_unchanged : (lo hi a b : List Float) (n : ℕ) → length lo ≡ n → length hi ≡ n → ((i : ℕ) → i < n → P (channel lo i)) → ((i : ℕ) → i < n → P (channel a i))
      → T (contains lo hi a b n) → (joined least lo a ≡ lo) × (joined greatest hi b ≡ hi)
  contains_unchanged lo hi a b n l u p q t = (
    ext_get_or nan (joined least lo a) lo (joined_length least lo a) (λ i h. let k : i < length lo = subst (λ (m : ℕ). i < m) (joined_length least lo a) h in joined_channel least lo a i k ∙ low i (subst (λ (m : ℕ). i < m) l k)),
    ext_get_or nan (joined greatest hi b) hi (joined_length greatest hi b) (λ i h. let k : i < length hi = subst (λ (m : ℕ). i < m) (joined_length greatest hi b) h in joined_channel greatest hi b i k ∙ high i (subst (λ (m : ℕ). i < m) u k)),
  )
    where
      says : (i : ℕ) → i < n → (lt (channel a i) (channel lo i) ≡ false) × (lt (channel hi i) (channel b i) ≡ false)
      says i h = stays_says (channel lo i) (channel hi i) (channel a i) (channel b i) (every_at _ n t i h)

      low : (i : ℕ) → i < n → least (channel lo i) (channel a i) ≡ channel lo i
      low i h = least_stays P place K one (channel lo i) (channel a i) (p i h) (q i h) (says i h).0

      high : (i : ℕ) → i < n → greatest (channel hi i) (channel b i) ≡ channel hi i
      high i h = greatest_stays (channel hi i) (channel b i) (says i h).1
