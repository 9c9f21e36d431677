-- What the functions that work out boxes ask and tell, of what they work them out from. Definitions.
use Rattle.std.specs.Prelude.{List, [], ℕ, get_or, Float}
use Rattle.boxstore.specs.Boxed.{SomeBoxed}
use Rattle.boundingbox.specs.declared.BoundingBox.{BoundingBox}
use Rattle.boxstore.specs.Grown.{EndsGrownBy, SomeSides, SidesBox, BoxOf}
use Rattle.rowboxes.specs.Rows.{Lies, hand_low, hand_high}
use Rattle.rowboxes.specs.declared.Boxing.{Boxing}

module _ (b : Boxing) (node : ℕ) where
  -- the node's box is at hand
  abbrev pub AtHand : Type 0
  AtHand = Lies b.sizes.capacity b.sizes.cached node

  -- its ends there
  abbrev pub low_at : List Float
  low_at = hand_low b.sizes.capacity node b.points.now b.boxes.now

  abbrev pub high_at : List Float
  high_at = hand_high b.sizes.capacity node b.points.now b.boxes.now

  -- some tree's boxes stand below the node
  abbrev pub Stands : Type 0
  Stands = SomeBoxed b.sizes.capacity b.sizes.cached node b.nodes.now b.points.now b.boxes.now

  -- E' is E moved out to hold the box of the tree below the node
  abbrev pub Grown : List (List Float) → List (List Float) → Type 0
  Grown E E' = EndsGrownBy b.sizes.capacity b.sizes.cached node b.nodes.now b.points.now b.boxes.now (get_or E 0 []) (get_or E 1 []) (get_or E' 0 []) (get_or E' 1 [])

  -- the two sides of the branch stand
  abbrev pub SidesStand : Type 0
  SidesStand = SomeSides b.sizes.capacity b.sizes.cached node b.nodes.now b.points.now b.boxes.now

  -- r is the box around them, and the box of the node
  abbrev pub OfSides : BoundingBox → Type 0
  OfSides r = SidesBox b.sizes.capacity b.sizes.cached node b.nodes.now b.points.now b.boxes.now r

  abbrev pub OfNode : BoundingBox → Type 0
  OfNode r = BoxOf b.sizes.capacity b.sizes.cached node b.nodes.now b.points.now b.boxes.now r
