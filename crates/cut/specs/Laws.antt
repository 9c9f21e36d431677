-- What holds of the drawn cut on coordinates: the statements. Each is proved in proofs/, in the file that its comment names.
use Rattle.std.specs.Prelude.{◌≡◌, ℕ, ◌+◌, ◌*◌, ◌/◌, ◌^◌, ◌<◌, ◌≤◌, Bool, true, false, not, ◌&&◌, T, Option, Some, None, List, Float}
use Rattle.std.specs.Float.{binary64}
use Rattle.std.specs.Float.Ieee.{add, lt, le, eq}
use Rattle.std.specs.Float.Ieee.Exact.{HasValue}
use Rattle.readings.specs.Coordinate.{is_coordinate}
use Rattle.boundingbox.specs.Ends.{channel}
use Rattle.readings.specs.Number.{nought}
use Rattle.boundingbox.specs.Sides.{total, range_sum}
use Rattle.boundingbox.specs.Contained.{contains}
use Rattle.boundingbox.specs.Wholes.{Box, side, sum_to}
use Rattle.cut.specs.declared.Cut.{Cut}
use Rattle.cut.specs.declared.Side.{Side}
use Rattle.cut.specs.Paper.{channel_at, back_at, rest_at}
use Rattle.cut.specs.Draw.{low_end, high_end, outside_sum, side_of, range_of, side_from, placed, cut_at, parts_at, separation}
use Rattle.cut.specs.Document.{number_drawn, rest_of, cut_of, document_cut}

-- a box and a point of n channels, whose ends and coordinates are document 01's
pub record Readings (lo hi p : List Float) (n : ℕ) : Type 0 where
  pub box : Box (channel lo) (channel hi) n
  pub point : (i : ℕ) → i < n → T (is_coordinate (channel p i))

-- Request A.7, 'Cuts stay exact': of up to 32 channels, as `Box` has them, no sum of sides of the box with the point in it passes 2^26. So the f64 sums that a cut is drawn from are whole
-- numbers, none of them rounded: the sums of the first m sides, and the sum that is multiplied, of what lies outside and the box's own sides (AsDocument.antt).
pub record ExactSums (lo hi p : List Float) (n : ℕ) : Type 0 where
  pub most : (m : ℕ) → m ≤ n → sum_to (side (low_end lo p) (high_end hi p)) m ≤ 2 ^ 26
  pub first : (m : ℕ) → m ≤ n → HasValue (total (side_of lo hi p) m) false (sum_to (side (low_end lo p) (high_end hi p)) m) 1
  pub all : HasValue (add binary64 (outside_sum lo hi p n) (range_sum lo hi n)) false (sum_to (side (low_end lo p) (high_end hi p)) n) 1

abbrev pub SumsExact : Type 0
SumsExact = (n : ℕ) (lo hi p : List Float) → Readings lo hi p n → ExactSums lo hi p n

-- The floats draw document 01's cut (AsDocument.antt).
abbrev pub AsDocument : Type 0
AsDocument = (n : ℕ) (lo hi p : List Float) (w : ℕ) → Readings lo hi p n → w < 2 ^ 64 → separation n lo hi p w ≡ document_cut n lo hi p w

-- a cut on a side from lo to hi that is not zero: at or above its lower end, and below its upper end
pub record Within (lo hi : ℕ → Float) (n : ℕ) (k : Cut) : Type 0 where
  pub channel_below : k.dimension < n
  pub side_wide : 0 < side lo hi k.dimension
  pub at_or_above : T (le (lo k.dimension) k.value)
  pub below : T (lt k.value (hi k.dimension))

-- Document 01's cut stands within its side (Within.antt).
abbrev pub CutWithin : Type 0
CutWithin = (n : ℕ) (lo hi : ℕ → Float) (w : ℕ) → Box lo hi n → 0 < sum_to (side lo hi) n → w < 2 ^ 64 → Within lo hi n (cut_of lo hi n w)

-- At a leaf of another value, the box from q to q, the cut always parts (Within.antt).
abbrev pub LeafParts : Type 0
LeafParts = (n : ℕ) (q p : List Float) (w : ℕ) → Readings q q p n → contains q q p p n ≡ false → w < 2 ^ 64 → parts_at q q p (cut_of (low_end q p) (high_end q p) n w) ≡ true

-- Where the Rust goes on to its branch seeded with 17: the point lies outside, and no side is cut, or the box's range sum is zero and the cut does not part.
unfoldable pub strays : List Float → List Float → List Float → ℕ → Option Side → Bool
strays lo hi p n None = true
strays lo hi p n (Some s) = eq (range_sum lo hi n) nought && not (parts_at lo hi p (cut_at lo hi p s.dimension s.rest))

unfoldable pub seeded17 : ℕ → List Float → List Float → List Float → ℕ → Bool
unfolding strays
seeded17 n lo hi p w = not (eq (outside_sum lo hi p n) nought) && strays lo hi p n (side_from (side_of lo hi p) n 0 (range_of lo hi p n w))

-- 'On these readings it is never reached, and the proof shows it' (Within.antt).
abbrev pub NeverSeeded17 : Type 0
NeverSeeded17 = (n : ℕ) (lo hi p : List Float) (w : ℕ) → Readings lo hi p n → w < 2 ^ 64 → seeded17 n lo hi p w ≡ false

-- The paper draws a channel in proportion to its side: of the numbers q / c up to the sum, those go to channel i that lie in a stretch as long as side i (AsPaper.antt).
abbrev pub InProportion : Type 0
InProportion = (g : ℕ → ℕ) (n q c i : ℕ) → i < n → sum_to g i * c < q → q ≤ sum_to g (i + 1) * c → channel_at g n q c ≡ i

-- The paper counts the place back from the side's upper end, the Rust forward from its lower end: the two places make up the side, for every number q / c up to the sum (AsPaper.antt).
abbrev pub PlacesMakeSide : Type 0
PlacesMakeSide = (g : ℕ → ℕ) (n q c : ℕ) → 0 < sum_to g n → q ≤ sum_to g n * c → rest_at g n q c + back_at g n q c ≡ g (channel_at g n q c) * c

-- How document 01's cut k stands to the paper's for the factor (w / 2^11) / 2^53: the end from which the place is counted, and the roundings, are the only differences.
pub record Papers (lo hi : ℕ → Float) (n w : ℕ) (k : Cut) : Type 0 where
  -- the number drawn is q / c: the f64 nearest to the paper's, and at most the sum of the sides
  pub q : ℕ
  pub c : ℕ
  pub number : HasValue (number_drawn lo hi n w) false q c
  pub most : q ≤ sum_to (side lo hi) n * c
  -- the channel is the paper's for that number
  pub channel : k.dimension ≡ channel_at (side lo hi) n q c
  -- the place along its side is the Rust's, with nothing rounded, and the paper's is what that leaves of the side
  pub rest : HasValue (rest_of lo hi n w) false (rest_at (side lo hi) n q c) c
  pub back : rest_at (side lo hi) n q c + back_at (side lo hi) n q c ≡ side lo hi k.dimension * c
  -- the Rust's place is then narrowed, added and kept within the side
  pub place : k.value ≡ placed (lo k.dimension) (hi k.dimension) (rest_of lo hi n w)
  -- where the product needs no rounding, the channel is the paper's for the factor itself
  pub unrounded : HasValue (number_drawn lo hi n w) false (sum_to (side lo hi) n * (w / 2 ^ 11)) (2 ^ 53) → k.dimension ≡ channel_at (side lo hi) n (sum_to (side lo hi) n * (w / 2 ^ 11)) (2 ^ 53)

-- Document 01's cut has the paper's channel, and its place from the other end of the side, but for the roundings (AsPaper.antt).
abbrev pub AsPaper : Type 0
AsPaper = (n : ℕ) (lo hi : ℕ → Float) (w : ℕ) → Box lo hi n → 0 < sum_to (side lo hi) n → w < 2 ^ 64 → Papers lo hi n w (cut_of lo hi n w)

-- Rows hold more channels than a tree may have: those from d on are +0.0 in box and point, and change no cut (Padding.antt).
pub record Padded (lo hi p : List Float) (d n : ℕ) : Type 0 where
  pub fewer : d ≤ n
  pub low : (i : ℕ) → d ≤ i → i < n → channel lo i ≡ nought
  pub high : (i : ℕ) → d ≤ i → i < n → channel hi i ≡ nought
  pub point : (i : ℕ) → d ≤ i → i < n → channel p i ≡ nought

abbrev pub PaddingCutsNothing : Type 0
PaddingCutsNothing = (d n : ℕ) (lo hi p : List Float) (w : ℕ) → Padded lo hi p d n → Readings lo hi p n → w < 2 ^ 64 → separation n lo hi p w ≡ separation d lo hi p w
