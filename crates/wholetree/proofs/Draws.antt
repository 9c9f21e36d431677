-- The draw from a tree's box, as the Rust's: where no cut is drawn none would part the point, and a drawn cut is one of the tree's, which parts as it says.
use mathlib.Core.Path.{◌≡◌, refl, sym, ap, ◌∙◌, subst}
use mathlib.Core.Bool.{Bool, true, false, not, ◌&&◌, ◌||◌, cond, true≢false}
use Prim.Native.Nat.{ℕ, ◌-◌, ◌^◌, ◌≤◌, ◌<◌}
use native.Mathlib.Nat.{mod-eq_of_lt}
use native.Mathlib.Omega.{arith}
use lib.Dec.{T, ltb, leb→le, ltb→lt, nltb→le}
use lib.ListN.{length}
use lib.Seq.{ext_get_or}
use lib.Ieee.{Float, nan, binary64, lt, le}
use lib.Ieee.Positive.{num, den}
use Rattle.limits.specs.Limits.{width}
use Rattle.readings.specs.Coordinate.{rank}
use Rattle.readings.proofs.Tests.{yes, no}
use Rattle.readings.proofs.Keys.{sign}
use Rattle.readings.proofs.Ranks.{le_rank}
use Rattle.boundingbox.specs.Ends.{channel, least}
use Rattle.boundingbox.specs.Contained.{stays, contains}
use Rattle.boundingbox.specs.Wholes.{side}
use Rattle.cut.specs.declared.Cut.{Cut}
use Rattle.cut.specs.declared.Separation.{Separation}
use Rattle.std.specs.Prelude.{Option, Some, None}
use Rattle.cut.specs.Draw.{low_end, high_end, parts as parts_float, parts_at, separation}
use Rattle.cut.specs.Paper.{rest_at}
use Rattle.cut.specs.Document.{number_drawn, rest_of, cut_of, document_cut}
use Rattle.cut.specs.Laws.{Readings, Within}
use Rattle.cut.proofs.Stretched.{stretched}
use Rattle.cut.proofs.AsDocument.{as_document, some_side}
use Rattle.cut.proofs.Within.{within_side}
use Rattle.cuttree.specs.Setting.{CutOf, parts}
use Rattle.cuttree.proofs.Tests.{by_cond, by-test, nonsense}
use Rattle.readings.specs.Number.{is_number, Number, zero, number}
use Rattle.wholetree.specs.Reading.{is_coordinate32, Reading, coordinate}
use Rattle.wholetree.specs.Whole.{ends, cut_in, whole}
use Rattle.wholetree.specs.Box.{CoordinateBox, parted_in, TreeCut}
use Rattle.readings.proofs.Ordered.{number_is, not_le, le_refl, le_trans}
use Rattle.boundingbox.proofs.Every.{every_at}
use Rattle.wholetree.proofs.Readings.{tab_length, tab_at, of_coordinate, row_length, row_at_lem, coordinate_is, coordinate_beyond}
use Rattle.wholetree.proofs.Zeros.{round_sign, placed_number}

-- the ends as a row
pub ends_at : (f : ℕ → Number) (i : ℕ) → i < width → channel (ends f) i ≡ (f i).value
ends_at f i h = tab_at width (λ (j : ℕ). (f j).value) i nan h

-- a leaf's are its reading's
pub ends_leaf : (q : Reading) → ends (coordinate q) ≡ q.row
ends_leaf q =
    let l : length (ends (coordinate q)) ≡ width = tab_length width (λ (j : ℕ). (coordinate q j).value) in
    ext_get_or nan (ends (coordinate q)) q.row (l ∙ sym (row_length q)) (λ i k. let h : i < width = subst (λ (n : ℕ). i < n) l k in ends_at (coordinate q) i h ∙ coordinate_is q i h)

-- what is left at the side that is cut is not negative
rest_sign : (lo hi : ℕ → Float) (n w : ℕ) → sign (rest_of lo hi n w) ≡ false
unfolding rest_of
rest_sign lo hi n w = round_sign binary64 false (rest_at (side lo hi) n (num (number_drawn lo hi n w)) (den (number_drawn lo hi n w))) (den (number_drawn lo hi n w))

module _ {lo hi : ℕ → Number} (B : CoordinateBox lo hi) (p : Reading) where
  -- the box and the point are readings, in the cut's sense
  pub are_readings_lem : Readings (ends lo) (ends hi) p.row width
  are_readings_lem = record {
    box = record {
      few = leb→le width 32 tt;
      lower = λ i h. rw (ends_at lo i h) (of_coordinate (lo i).value (B.lower i));
      upper = λ i h. rw (ends_at hi i h) (of_coordinate (hi i).value (B.upper i));
      ordered = λ i h. rw (ends_at lo i h, ends_at hi i h) (leb→le (rank (lo i).value) (rank (hi i).value) (yes (sym (le_rank (lo i).value (hi i).value (of_coordinate (lo i).value (B.lower i)) (of_coordinate (hi i).value (B.upper i))) ∙ B.ordered i)));
    };
    point = λ i h. of_coordinate (channel p.row i) (row_at_lem p i h);
  }

  -- ---- where the box holds the point
  pub held : contains (ends lo) (ends hi) p.row p.row width ≡ true → (i : ℕ) → (le (lo i).value (coordinate p i).value ≡ true) × (le (coordinate p i).value (hi i).value ≡ true)
  unfolding stays
  held e i = by-test (ltb i width) (λ l. inside (ltb→lt i width (yes l))) (λ l. beyond (nltb→le i width (no l)))
    where
      both : (a b : Bool) → T (not (not a) && not (not b)) → (a ≡ true) × (b ≡ true)
      both true true t = (refl, refl)
      both true false t = absurd t
      both false b t = absurd t

      inside : i < width → (le (lo i).value (coordinate p i).value ≡ true) × (le (coordinate p i).value (hi i).value ≡ true)
      inside h =
          let t = every_at (λ (i : ℕ). stays (channel (ends lo) i) (channel (ends hi) i) (channel p.row i) (channel p.row i)) width (yes e) i h in
          both (le (lo i).value (coordinate p i).value) (le (coordinate p i).value (hi i).value) (rw (not_le (lo i) (coordinate p i), not_le (coordinate p i) (hi i), coordinate_is p i h, ← ends_at lo i h, ← ends_at hi i h) t)

      beyond : width ≤ i → (le (lo i).value (coordinate p i).value ≡ true) × (le (coordinate p i).value (hi i).value ≡ true)
      beyond h = rw (B.beyond_lower i h, B.beyond_upper i h, coordinate_beyond p i h) (le_refl zero, le_refl zero)

  -- no cut parts it from the box
  held_whole : (d : ℕ) → contains (ends lo) (ends hi) p.row p.row width ≡ true → (k : CutOf ℕ Number) → parts (whole d) k lo hi p ≡ false
  held_whole d e k =
      let h = held e k.channel in
      go (le (coordinate p k.channel).value k.value.value) (le (lo k.channel).value k.value.value) (le (hi k.channel).value k.value.value)
      (λ b. le_trans (lo k.channel) (coordinate p k.channel) k.value h.0 b) (λ b. le_trans (coordinate p k.channel) (hi k.channel) k.value h.1 b)
    where
      go : (x l h : Bool) → (x ≡ true → l ≡ true) → (h ≡ true → x ≡ true) → (x && not l) || (h && not x) ≡ false
      go true true true f g = refl
      go true true false f g = refl
      go true false h f g = absurd (true≢false (sym (f refl)))
      go false l true f g = absurd (true≢false (sym (g refl)))
      go false l false f g = refl

  -- ---- where it doesn't
  -- the tree's test whether a cut parts is the floats'
  parts_floats : (d i : ℕ) (v : Number) → i < width → parts (whole d) (record { channel = i; value = v }) lo hi p ≡ parts_at (ends lo) (ends hi) p.row (record { dimension = i; value = v.value })
  unfolding parts_float
  parts_floats d i v h = rw (not_le (lo i) v, not_le (coordinate p i) v, coordinate_is p i h, ends_at lo i h, ends_at hi i h)

  -- document 01's cut of the box with the point in it
  abbrev cut_for : ℕ → Cut
  cut_for w = cut_of (low_end (ends lo) p.row) (high_end (ends hi) p.row) width w

  module _ (w : ℕ) (W : w < 2 ^ 64) (o : contains (ends lo) (ends hi) p.row p.row width ≡ false) where
    inside : Within (low_end (ends lo) p.row) (high_end (ends hi) p.row) width (cut_for w)
    inside =
        within_side (low_end (ends lo) p.row) (high_end (ends hi) p.row) width (stretched (ends lo) (ends hi) p.row width are_readings_lem) w W
        (some_side (ends lo) (ends hi) p.row width are_readings_lem o)

    low_coordinate : (i : ℕ) → i < width → T (is_coordinate32 (low_end (ends lo) p.row i))
    unfolding least
    low_coordinate i h =
        by_cond (λ x. T (is_coordinate32 x)) (lt (channel (ends lo) i) (channel p.row i)) (channel (ends lo) i) (channel p.row i) (λ _. rw (ends_at lo i h) (B.lower i)) (λ _. row_at_lem p i h)

    cut_number : T (is_number (cut_for w).value)
    unfolding cut_of
    cut_number =
        let i = (cut_for w).dimension in
        placed_number (low_end (ends lo) p.row i) (high_end (ends hi) p.row i) (rest_of (low_end (ends lo) p.row) (high_end (ends hi) p.row) width w) (low_coordinate i inside.channel_below)
        ((stretched (ends lo) (ends hi) p.row width are_readings_lem).upper i inside.channel_below) (wide (rank (low_end (ends lo) p.row i)) (rank (high_end (ends hi) p.row i)) inside.side_wide) (rest_sign (low_end (ends lo) p.row) (high_end (ends hi) p.row) width w)
      where
        wide : (a b : ℕ) → 0 < b - a → a < b
        wide a b h = omega arith

    outside_cut : (d : ℕ) → TreeCut d lo hi p (record { cut = cut_for w; parts = parts_at (ends lo) (ends hi) p.row (cut_for w) })
    outside_cut d = record {
      in_row = inside.channel_below;
      value_is_number = cut_number;
      value_is = number_is (cut_for w).value cut_number;
      parts_so = parts_floats d (cut_for w).dimension (number (cut_for w).value) inside.channel_below ∙ ap (λ (x : Float). parts_at (ends lo) (ends hi) p.row (record { dimension = (cut_for w).dimension; value = x })) (number_is (cut_for w).value cut_number);
    }

  -- ---- what the draw says
  module _ (d w : ℕ) (W : w < 2 ^ 64) where
    abbrev drawn : Option Separation
    drawn = separation width (ends lo) (ends hi) p.row w

    by_hold : cond (contains (ends lo) (ends hi) p.row p.row width) None (Some (record { cut = cut_for w; parts = parts_at (ends lo) (ends hi) p.row (cut_for w) })) ≡ separation width (ends lo) (ends hi) p.row w
    unfolding document_cut
    by_hold = sym (as_document width (ends lo) (ends hi) p.row w are_readings_lem W)

    -- no cut is drawn: the box holds the point
    pub no_cut_holds : drawn ≡ None → (i : ℕ) → (le (lo i).value (coordinate p i).value ≡ true) × (le (coordinate p i).value (hi i).value ≡ true)
    no_cut_holds e = by-test (contains (ends lo) (ends hi) p.row p.row width) (λ t. held t) (λ t. nonsense (let f = rw t at by_hold in cc))

    -- so no cut at all would part the point from the box
    pub no_cut : drawn ≡ None → (k : CutOf ℕ Number) → parts (whole d) k lo hi p ≡ false
    no_cut e = by-test (contains (ends lo) (ends hi) p.row p.row width) (λ t. held_whole d t) (λ t. nonsense (let f = rw t at by_hold in cc))

    -- a cut is drawn: it is one of the tree's, and parts as it says
    pub tree_cut : (s : Separation) → drawn ≡ Some s → TreeCut d lo hi p s
    tree_cut s e = by-test (contains (ends lo) (ends hi) p.row p.row width) (λ t. nonsense (let f = rw t at by_hold in cc)) (λ t. let f = rw t at by_hold in
        subst (TreeCut d lo hi p) (cc) (outside_cut w W t d))

    -- so the tree's test of it is the draw's own
    pub parted_in_lem : parts (whole d) (cut_in drawn) lo hi p ≡ parted_in drawn
    parted_in_lem = go drawn refl
      where
        go : (s : Option Separation) → drawn ≡ s → parts (whole d) (cut_in s) lo hi p ≡ parted_in s
        go None e = no_cut e (cut_in None)
        go (Some s) e = (tree_cut s e).parts_so

    -- and the tree's draw is the Rust's
    pub draw_is : (whole d).draw lo hi p w ≡ cut_in drawn
    draw_is = ap (λ (x : ℕ). cut_in (separation width (ends lo) (ends hi) p.row x)) (mod-eq_of_lt W)

    pub parted_is : parts (whole d) ((whole d).draw lo hi p w) lo hi p ≡ parted_in drawn
    parted_is = ap (λ (c : CutOf ℕ Number). parts (whole d) c lo hi p) draw_is ∙ parted_in_lem
