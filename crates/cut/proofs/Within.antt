-- Document 01's cut stands within its side, so at a leaf it always parts, and the branch seeded with 17 is never reached. Assumes nothing.
use Rattle.std.proofs.Common.{◌≡◌, ℕ, zero, suc, ◌+◌, ◌-◌, ◌*◌, ◌^◌, ◌<◌, ◌≤◌, Bool, true, false, cond, not, ◌&&◌, ◌||◌, T, eqb, ltb, leb, ◌⊎◌, List, sym, refl, ap, ◌∙◌, subst, inl, inr, true≢false, le_of_eq, lt_irrefl, eq-zero-or-pos, zero-add, arith, le→leb, eqb→eq, lt→ltb}
use lib.Ieee.{Float, binary32, lt, le, eq, fits}
use lib.Ieee.Bits.{is_true}
use lib.Ieee.Fits.{add-fits}
use lib.Ieee.Positive.{num, den}
use borrow.Table.Steps.{cases as by-test}
use Rattle.readings.specs.Coordinate.{is_coordinate, rank}
use Rattle.readings.specs.Narrow.{narrowed}
use Rattle.readings.proofs.Tests.{yes}
use Rattle.readings.proofs.Keys.{unit, base, key, Num, lt_key, le_key}
use Rattle.readings.proofs.Ranks.{lt_rank, le_rank, coordinate_num, coordinate_key, between_num}
use Rattle.boundingbox.specs.Ends.{channel, least, greatest}
use Rattle.boundingbox.specs.Contained.{contains}
use Rattle.boundingbox.specs.Wholes.{Box, side, sum_to}
use Rattle.boundingbox.proofs.Sums.{sum_pos}
use Rattle.cut.specs.Draw.{low_end, high_end, moved, placed, parts, parts_at}
use Rattle.cut.specs.Document.{number_drawn, channel_of, rest_of, cut_of}
use Rattle.cut.specs.Laws.{Readings, Within, CutWithin, LeafParts, strays, seeded17, NeverSeeded17}
use Rattle.cut.proofs.First.{falls_says, Found, number_found}
use Rattle.cut.proofs.Stretched.{stretched}
use Rattle.cut.proofs.Number.{number_most}
use Rattle.cut.proofs.AsDocument.{outside_is, some_side, point_is, side_drawn}

-- ---- the place within its side
-- above the lower end and below the upper end, or the lower end itself
placed_cases : (P : Float → Type 0) (lo hi rest : Float) → (T (lt lo (moved lo rest)) → T (lt (moved lo rest) hi) → P (moved lo rest)) → P lo → P (placed lo hi rest)
unfolding placed
placed_cases P lo hi rest f l = go (lt lo (moved lo rest)) (lt (moved lo rest) hi) f
  where
    go : (a b : Bool) → (T a → T b → P (moved lo rest)) → P (cond (a && b) (moved lo rest) lo)
    go true true f = f tt tt
    go true false f = l
    go false b f = l

lt→le : (x y : Float) → T (lt x y) → T (le x y)
unfolding le
lt→le x y h = go (lt x y) (eq x y) h
  where
    go : (a b : Bool) → T a → T (a || b)
    go true b t = tt
    go false b t = absurd t

moved_fits : (lo rest : Float) → T (fits binary32 (moved lo rest))
unfolding moved
moved_fits lo rest = add-fits binary32 lo (narrowed rest)

module _ (lo hi rest : Float) (L : T (is_coordinate lo)) (H : T (is_coordinate hi)) (W : rank lo < rank hi) where
  self : T (le lo lo)
  self = subst T (sym (le_rank lo lo L L)) (le→leb (rank lo) (rank lo) (le_of_eq refl))

  under : T (lt lo hi)
  under = subst T (sym (lt_rank lo hi L H)) (lt→ltb (rank lo) (rank hi) W)

  pub placed_above : T (le lo (placed lo hi rest))
  placed_above = placed_cases (λ (c : Float). T (le lo c)) lo hi rest (λ a b. lt→le lo (moved lo rest) a) self

  pub placed_below : T (lt (placed lo hi rest) hi)
  placed_below = placed_cases (λ (c : Float). T (lt c hi)) lo hi rest (λ a b. b) under

  pub placed_num : Num (placed lo hi rest)
  placed_num = placed_cases Num lo hi rest (λ a b. between_num lo (moved lo rest) hi (coordinate_num lo L) (coordinate_num hi H) (moved_fits lo rest) (lt→le lo (moved lo rest) a) b) (coordinate_num lo L)

-- ---- the cut within its side
module _ (lo hi : ℕ → Float) (n : ℕ) (B : Box lo hi n) (w : ℕ) (W : w < 2 ^ 64) (P : 0 < sum_to (side lo hi) n) where
  abbrev d : ℕ
  d = channel_of lo hi n w

  pub channel_found : Found (side lo hi) (num (number_drawn lo hi n w)) (den (number_drawn lo hi n w)) n 0 (channel_of lo hi n w)
  unfolding channel_of
  channel_found = number_found (side lo hi) (num (number_drawn lo hi n w)) (den (number_drawn lo hi n w)) n (number_most lo hi n B w W) P

  pub channel_below : channel_of lo hi n w < n
  channel_below = subst (λ (x : ℕ). channel_of lo hi n w < x) (zero-add n) channel_found.within

  pub channel_wide : 0 < side lo hi (channel_of lo hi n w)
  channel_wide = (falls_says (side lo hi) (num (number_drawn lo hi n w)) (den (number_drawn lo hi n w)) d channel_found.falls_there).0

  ordered : rank (lo d) < rank (hi d)
  ordered = go (rank (lo d)) (rank (hi d)) channel_wide
    where
      go : (a b : ℕ) → 0 < b - a → a < b
      go a b h = omega arith

  pub cut_num : Num (cut_of lo hi n w).value
  unfolding cut_of
  cut_num = placed_num (lo d) (hi d) (rest_of lo hi n w) (B.lower d channel_below) (B.upper d channel_below) ordered

  pub within_side : Within lo hi n (cut_of lo hi n w)
  unfolding cut_of
  within_side = record {
    channel_below = channel_below;
    side_wide = channel_wide;
    at_or_above = placed_above (lo d) (hi d) (rest_of lo hi n w) (B.lower d channel_below) (B.upper d channel_below) ordered;
    below = placed_below (lo d) (hi d) (rest_of lo hi n w) (B.lower d channel_below) (B.upper d channel_below) ordered;
  }

pub cut_within : CutWithin
cut_within n lo hi w B P W = within_side lo hi n B w W P

-- ---- a box of one point
-- coordinates of one rank compare alike with a number
module _ (x y c : Float) (X : T (is_coordinate x)) (Y : T (is_coordinate y)) (C : Num c) (e : rank x ≡ rank y) where
  same_key : key x ≡ key y
  same_key = go (key x) (key y) (1048576 * unit) (base + rank x * unit) (coordinate_key x X) (coordinate_key y Y ∙ ap (λ (r : ℕ). base + r * unit) (sym e))
    where
      go : (a b k s : ℕ) → a + k ≡ s → b + k ≡ s → a ≡ b
      go a b k s p q = omega arith

  pub below_same : T (lt c x) → T (lt c y)
  below_same h = subst T (lt_key c x C (coordinate_num x X) ∙ ap (ltb (key c)) same_key ∙ sym (lt_key c y C (coordinate_num y Y))) h

  pub above_same : T (le x c) → T (le y c)
  above_same h = subst T (le_key x c (coordinate_num x X) C ∙ ap (λ (k : ℕ). leb k (key c)) same_key ∙ sym (le_key y c (coordinate_num y Y) C)) h

pub parts_below : (x lo hi cut : Float) → T (le x cut) → T (lt cut lo) → parts x lo hi cut ≡ true
unfolding parts
parts_below x lo hi cut a b = rw (is_true (le x cut) a, is_true (lt cut lo) b) refl

pub parts_above : (x lo hi cut : Float) → T (le hi cut) → T (lt cut x) → parts x lo hi cut ≡ true
unfolding parts
parts_above x lo hi cut a b = rw (is_true (le hi cut) a, is_true (lt cut x) b) (go (le x cut && lt cut lo))
  where
    go : (u : Bool) → (u || true) ≡ true
    go true = refl
    go false = refl

-- ends of one rank, and a coordinate x beside them: what stands within the side from the least to the greatest parts
point_parts : (lo hi x cut : Float) → T (is_coordinate lo) → T (is_coordinate hi) → T (is_coordinate x) → Num cut → rank lo ≡ rank hi → T (le (least lo x) cut) → T (lt cut (greatest hi x)) → rank (least lo x) < rank (greatest hi x) → parts x lo hi cut ≡ true
unfolding least greatest
point_parts lo hi x cut L H X C e a b w = go (lt lo x) (lt hi x) (lt_rank lo x L X ∙ ap (λ (r : ℕ). ltb r (rank x)) e ∙ sym (lt_rank hi x H X)) a b w
  where
    go : (u v : Bool) → u ≡ v → T (le (cond u lo x) cut) → T (lt cut (cond v x hi)) → rank (cond u lo x) < rank (cond v x hi) → parts x lo hi cut ≡ true
    go true true s a b w = parts_above x lo hi cut (above_same lo hi cut L H C e a) b
    go false false s a b w = parts_below x lo hi cut a (below_same hi lo cut H L C (sym e) b)
    go true false s a b w = absurd (true≢false s)
    go false true s a b w = absurd (true≢false (sym s))

none_wide : (g : ℕ → ℕ) (n i : ℕ) → i < n → sum_to g n ≡ 0 → g i ≡ 0
none_wide g n i h z = go (eq-zero-or-pos (g i))
  where
    go : (g i ≡ 0) ⊎ (0 < g i) → g i ≡ 0
    go (inl e) = e
    go (inr p) = absurd (lt_irrefl 0 (subst (λ (k : ℕ). 0 < k) z (sum_pos g n i h p)))

-- a box whose sides are all zero, and a point outside it
pub point_box_parts : (n : ℕ) (lo hi p : List Float) (w : ℕ) → Readings lo hi p n → sum_to (side (channel lo) (channel hi)) n ≡ 0 → contains lo hi p p n ≡ false → w < 2 ^ 64 → parts_at lo hi p (cut_of (low_end lo p) (high_end hi p) n w) ≡ true
point_box_parts n lo hi p w R z o W =
    let B = stretched lo hi p n R in
    let P = some_side lo hi p n R o in
    let k = cut_of (low_end lo p) (high_end hi p) n w in
    let I = within_side (low_end lo p) (high_end hi p) n B w W P in
    let i = k.dimension in
    let l = I.channel_below in
    point_parts (channel lo i) (channel hi i) (channel p i) k.value (R.box.lower i l) (R.box.upper i l) (R.point i l) (cut_num (low_end lo p) (high_end hi p) n B w W P)
    (same (rank (channel lo i)) (rank (channel hi i)) (R.box.ordered i l) (none_wide (side (channel lo) (channel hi)) n i l z)) I.at_or_above I.below (wide' (rank (low_end lo p i)) (rank (high_end hi p i)) I.side_wide)
  where
    same : (a b : ℕ) → a ≤ b → b - a ≡ 0 → a ≡ b
    same a b h e = omega arith

    wide' : (a b : ℕ) → 0 < b - a → a < b
    wide' a b h = omega arith

flat : (q : ℕ → Float) (n : ℕ) → sum_to (side q q) n ≡ 0
unfolding sum_to
flat q zero = refl
flat q (suc n) = go (sum_to (side q q) n) (rank (q n)) (flat q n)
  where
    go : (s r : ℕ) → s ≡ 0 → s + (r - r) ≡ 0
    go s r e = omega arith

pub leaf_parts : LeafParts
leaf_parts n q p w R o W = point_box_parts n q q p w R (flat (channel q) n) o W

-- ---- the branch seeded with 17
pub never_seeded17 : NeverSeeded17
unfolding seeded17 strays cut_of
never_seeded17 n lo hi p w R W = rw (outside_is lo hi p n R) (by-test (contains lo hi p p n) (λ t. rw t refl) (λ o. rw (o, side_drawn lo hi p n R w W o, point_is lo hi p n R) (stray o)))
  where
    B : ℕ
    B = sum_to (side (channel lo) (channel hi)) n

    stray : contains lo hi p p n ≡ false → (eqb B 0 && not (parts_at lo hi p (cut_of (low_end lo p) (high_end hi p) n w))) ≡ false
    stray o = by-test (eqb B 0) (λ z. rw (z, point_box_parts n lo hi p w R (eqb→eq B 0 (yes z)) o W) refl) (λ z. rw z refl)
