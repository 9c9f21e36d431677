-- Rows, boxes and tables of a tree of d channels, +0.0 in the others; blocks of a row; and what the functions of this crate tell of them. Definitions.
use Rattle.std.specs.Prelude.{◌≡◌, cond, leb, List, [], ℕ, ◌+◌, ◌-◌, ◌*◌, ◌≤◌, ◌<◌, length, get_or, Float}
use Rattle.limits.specs.Limits.{width, branch_limit, point_limit}
use Rattle.boundingbox.specs.Ends.{channel}
use Rattle.boundingbox.specs.Padding.{Padded}
use Rattle.boundingbox.specs.declared.BoundingBox.{BoundingBox}

-- how many channels of a row are worked on at a time
abbrev pub lanes : ℕ
lanes = 8

-- a row of all channels, +0.0 from channel d on
pub record PaddedRow (d : ℕ) (row : List Float) : Type 0 where
  pub whole_row : length row ≡ width
  pub rest : Padded row d width

-- the ends of a box: lower ends, then upper ends
pub record PaddedEnds (d : ℕ) (X : List (List Float)) : Type 0 where
  pub two : length X ≡ 2
  pub low : PaddedRow d (get_or X 0 [])
  pub high : PaddedRow d (get_or X 1 [])

-- the box of such ends
abbrev pub box_of : List (List Float) → BoundingBox
box_of X = record { min_values = get_or X 0 []; max_values = get_or X 1 [] }

-- all rows of a readings table are so
abbrev pub PaddedTable : ℕ → List (List Float) → Type 0
PaddedTable d points = (i : ℕ) → i < point_limit → PaddedRow d (get_or points i [])

-- all slots of the cached boxes are so
pub record PaddedBoxes (d : ℕ) (boxes : List (List (List Float))) : Type 0 where
  pub all : length boxes ≡ branch_limit
  pub slots : (j : ℕ) → j < branch_limit → PaddedEnds d (get_or boxes j [])

-- the first n of a block are what R tells of the channels from a place on
pub record BlockTo (n : ℕ) (R : ℕ → Float → Type 0) (at : ℕ) (block : List Float) : Type 0 where
  pub long : length block ≡ lanes
  pub each : (j : ℕ) → j < n → R (at + j) (channel block j)

-- a whole block
abbrev pub BlockOf : (R : ℕ → Float → Type 0) → ℕ → List Float → Type 0
BlockOf R at block = BlockTo lanes R at block

-- row' is the row with the first n of a block written from a place on
pub record PutTo (n at : ℕ) (block row row' : List Float) : Type 0 where
  pub long : length row' ≡ length row
  pub within : (j : ℕ) → j < n → channel row' (at + j) ≡ channel block j
  pub below : (i : ℕ) → i < at → channel row' i ≡ channel row i
  pub beyond : (i : ℕ) → at + n ≤ i → channel row' i ≡ channel row i

-- with the whole block
abbrev pub Put : (at : ℕ) → (block row row' : List Float) → Type 0
Put at block row row' = PutTo lanes at block row row'

-- E' is E with a block of lower ends and one of upper ends written so
pub record PutEnds (at : ℕ) (low high : List Float) (E E' : List (List Float)) : Type 0 where
  pub two : length E' ≡ 2
  pub low_put : Put at low (get_or E 0 []) (get_or E' 0 [])
  pub high_put : Put at high (get_or E 1 []) (get_or E' 1 [])

-- row' has before a place what R tells of the row's own there and of the channel, and elsewhere what the row has
pub record Filled (R : Float → ℕ → Float → Type 0) (at : ℕ) (row row' : List Float) : Type 0 where
  pub long : length row' ≡ width
  pub done : (i : ℕ) → i < at → R (channel row i) i (channel row' i)
  pub left : (i : ℕ) → at ≤ i → channel row' i ≡ channel row i

-- both rows of a box's ends
pub record FilledEnds (R S : Float → ℕ → Float → Type 0) (at : ℕ) (E E' : List (List Float)) : Type 0 where
  pub two : length E' ≡ 2
  pub low : Filled R at (get_or E 0 []) (get_or E' 0 [])
  pub high : Filled S at (get_or E 1 []) (get_or E' 1 [])

-- as many blocks of them as d channels take
pub record SetEnds (d : ℕ) (R S : Float → ℕ → Float → Type 0) (E E' : List (List Float)) : Type 0 where
  pub blocks : ℕ
  pub enough : d ≤ blocks * lanes
  pub no_more : blocks * lanes < d + lanes
  pub filled : FilledEnds R S (blocks * lanes) E E'

-- a node's box lies in an array: a leaf's point in the table, the ends of one of k cached branches in its slot
abbrev pub Lies : (c k node : ℕ) → Type 0
Lies c k node = (c ≤ node → node - c < point_limit) × (node < c → node < k)

-- the ends of such a box, of its lower or its upper side: of a leaf its point, of a branch its slot
abbrev pub hand_end : (c node side : ℕ) → List (List Float) → List (List (List Float)) → List Float
hand_end c node side points boxes = cond (leb c node) (get_or points (node - c) []) (get_or (get_or boxes node []) side [])

abbrev pub hand_low : (c node : ℕ) → List (List Float) → List (List (List Float)) → List Float
hand_low c node points boxes = hand_end c node 0 points boxes

abbrev pub hand_high : (c node : ℕ) → List (List Float) → List (List (List Float)) → List Float
hand_high c node points boxes = hand_end c node 1 points boxes
