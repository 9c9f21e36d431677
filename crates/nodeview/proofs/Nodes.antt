-- A node of the walk that is reported: what its mass and its box are asked by, and its row. Assumes nothing.
use mathlib.Core.Path.{◌≡◌, refl, sym, ap, ◌∙◌}
use mathlib.Core.Bool.{cond}
use mathlib.Core.List.{List, [], ◌∷◌}
use Prim.Native.Nat.{ℕ, ◌+◌, ◌-◌, ◌≤◌, ◌<◌}
use native.Mathlib.Omega.{arith}
use lib.ListN.{get_or}
use lib.Ieee.{Float, binary64, to_bits}
use Rattle.limits.specs.Limits.{width, branch_limit, point_limit}
use Rattle.readings.specs.Number.{nought}
use Rattle.boundingbox.specs.declared.BoundingBox.{BoundingBox}
use Rattle.cut.specs.Laws.{Padded}
use Rattle.cut.specs.Sums.{one}
use Rattle.probability.specs.Probability.{probability}
use Rattle.cuttree.specs.Tree.{Tree, leaf, branch, id, height, ending}
use Rattle.cuttree.specs.Walk.{sub}
use Rattle.cuttree.proofs.Heights.{height_sub, sub_leaf}
use Rattle.cuttree.proofs.Leaves.{all_ending}
use Rattle.cuttree.proofs.Nodes.{In}
use Rattle.wholetree.specs.Reading.{Reading, same_row}
use Rattle.wholetree.specs.Whole.{whole}
use Rattle.layout.specs.Slots.{low_of, high_of, field}
use Rattle.layout.proofs.Ranges.{range_ending}
use Rattle.layout.proofs.Replaced.{in_sub}
use Rattle.layout.proofs.Trails.{path_node}
use Rattle.walk.proofs.Ends.{walk_is}
use Rattle.nodestore.specs.Rows.{mass_at}
use Rattle.nodestore.proofs.Grafts.{mass_at_lem, id_low}
use Rattle.boxstore.specs.Boxed.{Boxed}
use Rattle.boxstore.specs.Grown.{BoxOf}
use Rattle.boxstore.specs.Written.{low_in, high_in}
use Rattle.boxstore.specs.Above.{At}
use Rattle.boxstore.proofs.Standing.{boxed_in}
use Rattle.boxstore.proofs.Above.{cached_box}
use Rattle.rowboxes.specs.Rows.{PaddedRow, PaddedEnds}
use Rattle.nodeview.specs.Report.{chance, row_at}
use Rattle.nodeview.specs.Told.{numbers_of}
use Rattle.nodeview.specs.Writing.{Writing}

-- the chance of a node with others below it, a branch, is that of its box
pub branch_chance : (d c : ℕ) (u : Tree (whole d)) (p : Reading) → 0 < height (whole d) u p → probability (low_of d c u) (high_of d c u) p.row width ≡ chance d c u p
branch_chance d c (leaf i q n) p h = absurd (omega arith)
branch_chance d c (branch b k l r) p h = refl

-- ends and point have +0.0 in the channels beyond d
pub all_padded : (d : ℕ) (X : List (List Float)) (point : List Float) → d ≤ width → PaddedEnds d X → PaddedRow d point → Padded (get_or X 0 []) (get_or X 1 []) point d width
all_padded d X point n E P = record { fewer = n; low = E.low.rest; high = E.high.rest; point = P.rest }

module _ {d c k : ℕ} {nodes : List (List ℕ)} {copies : List ℕ} {points : List (List Float)} {boxes : List (List (List Float))} {path : List (List ℕ)} {len : ℕ} {point : List Float} {t : Tree (whole d)} {p : Reading} (w : Writing d c k nodes copies points boxes path len point t p) where
  -- the leaf: its point index, and its chance
  module _ (i : ℕ) (e : i ≡ (ending (whole d) t p).index) where
    pub leaf_low : i < point_limit
    leaf_low = rw e (range_ending d c p t w.boxed.in_range)

    leaf_row : get_or points i [] ≡ (ending (whole d) t p).value.row
    leaf_row = ap (λ j. get_or points j []) e ∙ all_ending (whole d) (λ j q n. get_or points j [] ≡ q.row) p t w.boxed.leaves

    pub leaf_chance : cond (same_row (get_or points i []) point) nought one ≡ chance d c (sub (whole d) t 0 p) p
    leaf_chance = rw (leaf_row, w.row, sub_leaf (whole d) p t) refl

  -- the node of height m, in row i of the path
  module _ (i m : ℕ) (e : i + m + 1 ≡ len) where
    abbrev u : Tree (whole d)
    u = sub (whole d) t m p

    within : m ≤ height (whole d) t p
    within = omega (arith, w.walked.count)

    inside : In (whole d) u t
    inside = in_sub d c m p t within

    module _ (o : ℕ) (f : o ≡ field path i 0) where
      is_node : o ≡ id (whole d) c u
      is_node = f ∙ path_node d c p path t (walk_is w.walked) i m (omega (arith, w.walked.count))

      pub mass_asks : (o < c → o < branch_limit) × (o - c < point_limit)
      mass_asks = rw is_node (id_low d c t p nodes w.cuts copies w.stored u inside)

      standing : Boxed d c k nodes points boxes u
      standing = boxed_in d c inside w.boxed

      -- its box, as it is told of the arrays, or is cached
      pub node_box : (b : BoundingBox) → BoxOf c k o nodes points boxes b → At d c p t m b
      node_box b B = let x = B d u (sym is_node) standing in record { low = x.0; high = x.1 }

      pub cached_at : o < k → (b : BoundingBox) → b.min_values ≡ low_in boxes o → b.max_values ≡ high_in boxes o → At d c p t m b
      cached_at l = cached_box p w.boxed m within o is_node (omega (arith, w.few)) l

      -- the leaf's id is from the capacity on
      pub leaf_large : m ≡ 0 → c ≤ o
      leaf_large z = rw (is_node, z, sub_leaf (whole d) p t) (omega arith)

      pub row_is : (x : ℕ) (y : Float) → x ≡ mass_at c nodes copies o → y ≡ chance d c u p → o ∷ i ∷ x ∷ to_bits binary64 y ∷ [] ≡ numbers_of (row_at d c t p m)
      row_is x y g h =
          let depth : i ≡ height (whole d) t p - m = omega (arith, w.walked.count) in
          let mass = g ∙ ap (λ j. mass_at c nodes copies j) is_node ∙ mass_at_lem d c t p nodes w.cuts copies w.stored u inside in
          rw (is_node, depth, mass, h) refl

    -- above the leaf
    pub chance_at_lem : 0 < m → (b : BoundingBox) → At d c p t m b → probability b.min_values b.max_values point width ≡ chance d c u p
    chance_at_lem z b a = rw (a.low, a.high, w.row) (branch_chance d c u p (omega (arith, height_sub (whole d) m p t within)))
