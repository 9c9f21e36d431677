-- A node whose box stands in arrays, by its kind: a leaf, a cached branch, or a branch with its two sides. Assumes nothing.
use mathlib.Core.Path.{◌≡◌, refl, sym, ap, ◌∙◌}
use mathlib.Core.Bool.{true, ◌&&◌}
use mathlib.Core.List.{List, [], ◌∷◌}
use Prim.Native.Nat.{ℕ, ◌+◌, ◌-◌, ◌≤◌, ◌<◌}
use native.Mathlib.Omega.{arith}
use lib.Dec.{leb, leb→le}
use lib.ListN.{get_or}
use lib.Ieee.{Float}
use lib.Ieee.Fits.{and_l, and_r}
use Rattle.limits.specs.Limits.{width, capacity_limit, point_limit}
use Rattle.boundingbox.specs.declared.BoundingBox.{BoundingBox}
use Rattle.boundingbox.specs.Ends.{joined, least as least_float, greatest as greatest_float}
use Rattle.cuttree.specs.Setting.{Cut}
use Rattle.cuttree.specs.Tree.{Tree, leaf, branch, id, least, most, lo, hi}
use Rattle.cuttree.proofs.Orders.{end_assoc}
use Rattle.readings.specs.Number.{Number}
use Rattle.readings.proofs.Tests.{yes}
use Rattle.wholetree.specs.Whole.{whole}
use Rattle.layout.specs.Slots.{low_of, high_of, box_ends}
use Rattle.layout.specs.Stands.{Once}
use Rattle.boxstore.specs.Boxed.{side_in, Boxed, SomeBoxed}
use Rattle.boxstore.specs.Grown.{low_with, high_with, EndsGrownBy, SidesBox, BoxOf}
use Rattle.boxstore.proofs.Ends.{tab_same, both, least_end, most_end, least_ends, most_ends, row_ends}
use Rattle.boxstore.proofs.Depths.{deep, depth, depth_few, deep_is}

-- the sides of a branch
module _ (d c k : ℕ) (nodes : List (List ℕ)) (points : List (List Float)) (boxes : List (List (List Float))) {b : ℕ} {x : Cut (whole d)} {l r : Tree (whole d)} (B : Boxed d c k nodes points boxes (branch b x l r)) where
  pub left_boxed : Boxed d c k nodes points boxes l
  left_boxed = record { links = B.links.2; leaves = B.leaves.0; in_range = B.in_range.2; cached = B.cached.1 }

  pub right_boxed : Boxed d c k nodes points boxes r
  right_boxed = record { links = B.links.3; leaves = B.leaves.1; in_range = B.in_range.3; cached = B.cached.2 }

-- growing by one side's box and then by the other's is growing by the branch's
module _ (d : ℕ) (f : ℕ → Number) (l r : Tree (whole d)) (b : ℕ) (x : Cut (whole d)) where
  low_sides : low_with d (λ (i : ℕ). least (whole d) (f i) (lo (whole d) l i)) r ≡ low_with d f (branch b x l r)
  low_sides = tab_same width _ _ (λ i _. ap (λ (n : Number). n.value) (end_assoc (whole d) (least_end d) (f i) (lo (whole d) l i) (lo (whole d) r i)))

  high_sides : high_with d (λ (i : ℕ). most (whole d) (f i) (hi (whole d) l i)) r ≡ high_with d f (branch b x l r)
  high_sides = tab_same width _ _ (λ i _. ap (λ (n : Number). n.value) (end_assoc (whole d) (most_end d) (f i) (hi (whole d) l i) (hi (whole d) r i)))

module _ (c k node : ℕ) (nodes : List (List ℕ)) (points : List (List Float)) (boxes : List (List (List Float))) where
  -- X is the node's box
  abbrev IsBox : List (List Float) → Type 0
  IsBox X = (d : ℕ) (t : Tree (whole d)) → id (whole d) c t ≡ node → Boxed d c k nodes points boxes t → X ≡ box_ends d c t

  leaf_is : c ≤ node → IsBox (get_or points (node - c) [] ∷ get_or points (node - c) [] ∷ [])
  leaf_is h d (leaf i q n) e B =
      let z : node - c ≡ i = omega arith in
      rw z (both (B.leaves ∙ row_ends q) (B.leaves ∙ row_ends q))
  leaf_is h d (branch b x l r) e B = absurd (omega (arith, B.in_range))

  cached_is : node < c → node < k → IsBox (get_or boxes node [])
  cached_is h m d (leaf i q n) e B = absurd (omega arith)
  cached_is h m d (branch b x l r) e B = rw (← e) (B.cached.0 (omega arith))

  pub record HasBox (X : List (List Float)) : Type 0 where
    pub grown : (low high low' high' : List Float) → low' ≡ joined least_float low (get_or X 0 []) → high' ≡ joined greatest_float high (get_or X 1 []) → EndsGrownBy c k node nodes points boxes low high low' high'
    pub whole_box : (r : BoundingBox) → r.min_values ≡ get_or X 0 [] → r.max_values ≡ get_or X 1 [] → BoxOf c k node nodes points boxes r

  has_box : (X : List (List Float)) → IsBox X → HasBox X
  has_box X E = record {
    grown = λ low high low' high' p q d t f g e B m n. let w = E d t e B in (rw (p, m, w) (least_ends d f (lo (whole d) t)), rw (q, n, w) (most_ends d g (hi (whole d) t)));
    whole_box = λ r p q d t e B. rw (p, q, E d t e B) (refl, refl);
  }

  pub at_leaf : c ≤ node → HasBox (get_or points (node - c) [] ∷ get_or points (node - c) [] ∷ [])
  at_leaf h = has_box _ (leaf_is h)

  pub at_cached : node < c → node < k → HasBox (get_or boxes node [])
  at_cached h m = has_box _ (cached_is h m)

  -- a leaf's point is in the table, and a branch's number below the capacity
  pub in_table : c ≤ node → SomeBoxed c k node nodes points boxes → node - c < point_limit
  in_table h w = go w.tree w.at_node w.boxed
    where
      go : (t : Tree (whole w.channels)) → id (whole w.channels) c t ≡ node → Boxed w.channels c k nodes points boxes t → node - c < point_limit
      go (leaf i q n) e B = omega (arith, B.in_range)
      go (branch b x l r) e B = absurd (omega (arith, B.in_range))

  -- a branch by its sides
  abbrev left : ℕ
  left = side_in nodes node 0

  abbrev right : ℕ
  right = side_in nodes node 1

  pub record Parts : Type 0 where
    pub small : node + 1 < c
    pub left_some : SomeBoxed c k left nodes points boxes
    pub right_some : SomeBoxed c k right nodes points boxes
    pub left_less : deep nodes c capacity_limit left < deep nodes c capacity_limit node
    pub right_less : deep nodes c capacity_limit right < deep nodes c capacity_limit node

  pub parts : c ≤ capacity_limit → node < c → SomeBoxed c k node nodes points boxes → Parts
  parts few h w = go w.tree w.at_node w.once w.boxed
    where
      go : (t : Tree (whole w.channels)) → id (whole w.channels) c t ≡ node → Once w.channels c t → Boxed w.channels c k nodes points boxes t → Parts
      go (leaf i q n) e o B = absurd (omega arith)
      go (branch b x u v) e o B =
          let d = w.channels in
          let t = branch b x u v in
          let bl = left_boxed d c k nodes points boxes B in
          let br = right_boxed d c k nodes points boxes B in
          let ol : Once d c u = λ j. omega (arith, o j) in
          let or : Once d c v = λ j. omega (arith, o j) in
          let el : id (whole d) c u ≡ left = rw (← e) (sym B.links.0) in
          let er : id (whole d) c v ≡ right = rw (← e) (sym B.links.1) in
          let n : depth d c t ≤ capacity_limit = omega (arith, depth_few d c t o B.in_range) in
          let here : deep nodes c capacity_limit node ≡ depth d c t = rw (← e) (deep_is d c nodes capacity_limit t n B.links B.in_range) in
          let there : deep nodes c capacity_limit left ≡ depth d c u = rw (← el) (deep_is d c nodes capacity_limit u (omega arith) bl.links bl.in_range) in
          let other : deep nodes c capacity_limit right ≡ depth d c v = rw (← er) (deep_is d c nodes capacity_limit v (omega arith) br.links br.in_range) in
          record {
            small = omega (arith, B.in_range.0);
            left_some = record { channels = d; tree = u; at_node = el; once = ol; boxed = bl };
            right_some = record { channels = d; tree = v; at_node = er; once = or; boxed = br };
            left_less = omega arith;
            right_less = omega arith;
          }

  -- what two calls give, one for each side
  pub sides_grown : node < c → (low high low' high' low'' high'' : List Float) → EndsGrownBy c k left nodes points boxes low high low' high' → EndsGrownBy c k right nodes points boxes low' high' low'' high''
      → EndsGrownBy c k node nodes points boxes low high low'' high''
  sides_grown h low high low' high' low'' high'' F G d (leaf i q n) f g e B p s = absurd (omega arith)
  sides_grown h low high low' high' low'' high'' F G d (branch a x u v) f g e B p s =
      let bl = left_boxed d c k nodes points boxes B in
      let br = right_boxed d c k nodes points boxes B in
      let one = F d u f g (rw (← e) (sym B.links.0)) bl p s in
      let two = G d v _ _ (rw (← e) (sym B.links.1)) br one.0 one.1 in
      (two.0 ∙ low_sides d f u v a x, two.1 ∙ high_sides d g u v a x)

  pub sides_box : node < c → (r : BoundingBox) → SidesBox c k node nodes points boxes r → BoxOf c k node nodes points boxes r
  sides_box h r F d (leaf i q n) e B = absurd (omega arith)
  sides_box h r F d (branch a x u v) e B =
      F d u v (rw (← e) (sym B.links.0)) (rw (← e) (sym B.links.1)) (left_boxed d c k nodes points boxes B) (right_boxed d c k nodes points boxes B)

-- two ids of leaves
pub both_leaves : (c x y : ℕ) → (leb c x && leb c y) ≡ true → (c ≤ x) × (c ≤ y)
both_leaves c x y t = (leb→le c x (and_l (leb c x) (leb c y) (yes t)), leb→le c y (and_r (leb c x) (leb c y) (yes t)))

-- a branch over two leaves: its box is that of their points
module _ (c k node : ℕ) (nodes : List (List ℕ)) (points : List (List Float)) (boxes : List (List (List Float))) where
  abbrev first : List Float
  first = get_or points (side_in nodes node 0 - c) []

  abbrev second : List Float
  second = get_or points (side_in nodes node 1 - c) []

  pub at_pair : node < c → c ≤ side_in nodes node 0 → c ≤ side_in nodes node 1 → HasBox c k node nodes points boxes (joined least_float first second ∷ joined greatest_float first second ∷ [])
  at_pair h l r = has_box c k node nodes points boxes _ go
    where
      go : (d : ℕ) (t : Tree (whole d)) → id (whole d) c t ≡ node → Boxed d c k nodes points boxes t → joined least_float first second ∷ joined greatest_float first second ∷ [] ≡ box_ends d c t
      go d (leaf i q n) e B = absurd (omega arith)
      go d (branch b x u v) e B =
          let p = leaf_is c k (side_in nodes node 0) nodes points boxes l d u (rw (← e) (sym B.links.0)) (left_boxed d c k nodes points boxes B) in
          let q = leaf_is c k (side_in nodes node 1) nodes points boxes r d v (rw (← e) (sym B.links.1)) (right_boxed d c k nodes points boxes B) in
          let low-p : first ≡ low_of d c u = ap (λ (X : List (List Float)). get_or X 0 []) p in
          let low-q : second ≡ low_of d c v = ap (λ (X : List (List Float)). get_or X 0 []) q in
          let high-p : first ≡ high_of d c u = ap (λ (X : List (List Float)). get_or X 1 []) p in
          let high-q : second ≡ high_of d c v = ap (λ (X : List (List Float)). get_or X 1 []) q in
          both (ap (λ (y : List Float). joined least_float y second) low-p ∙ ap (joined least_float (low_of d c u)) low-q ∙ least_ends d (lo (whole d) u) (lo (whole d) v)) (ap (λ (y : List Float). joined greatest_float y second) high-p ∙ ap (joined greatest_float (high_of d c u)) high-q ∙ most_ends d (hi (whole d) u) (hi (whole d) v))
