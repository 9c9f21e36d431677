-- A node that stands in arrays, by its kind: a leaf with its line, or a branch with its line and its two sides. Laws.
use mathlib.Core.Path.{◌≡◌, refl, sym}
use mathlib.Core.List.{List, ◌++◌}
use Prim.Native.Nat.{ℕ, ◌+◌, ◌-◌, ◌≤◌, ◌<◌}
use native.Mathlib.Omega.{arith}
use lib.ListN.{length, get_or, length-append}
use lib.Ieee.{Float, nan, binary32, to_bits}
use Rattle.limits.specs.Limits.{capacity_limit, point_limit}
use Rattle.lines.specs.Lines.{branch_line, leaf_line, Wrote}
use Rattle.lines.proofs.Writes.{then, long}
use Rattle.cuttree.specs.Setting.{Cut}
use Rattle.cuttree.specs.Tree.{Tree, leaf, branch, id}
use Rattle.wholetree.specs.Whole.{whole}
use Rattle.layout.specs.Slots.{field}
use Rattle.layout.specs.Stands.{Once}
use Rattle.boxstore.proofs.Depths.{deep, depth, depth_few, deep_is}
use Rattle.printed.specs.Printed.{lines_of}
use Rattle.treestore.proofs.Links.{linked}
use Rattle.listing.specs.Listing.{row_line, Listed, SomeListed, PrintsNode}

-- a branch's line, of numbers that are read from its row
pub row_written : (nodes : List (List ℕ)) (cuts : List Float) (b : ℕ) {dimension cut left right mass at place : ℕ} {before after : List ℕ}
    → dimension ≡ field nodes b 3 → cut ≡ to_bits binary32 (get_or cuts b nan) → left ≡ field nodes b 0 → right ≡ field nodes b 1 → mass ≡ field nodes b 2
    → Wrote before at (branch_line b dimension cut left right mass) place after → Wrote before at (row_line nodes cuts b) place after
row_written nodes cuts b e f g h m w = rw (e, f, g, h, m) at w

module _ (c : ℕ) (nodes : List (List ℕ)) (cuts : List Float) (copies : List ℕ) where
  -- the sides of a branch stand there too, and the branch's line is that of its row
  module _ (d : ℕ) {b : ℕ} {x : Cut (whole d)} {l r : Tree (whole d)} (B : Listed d c nodes cuts copies (branch b x l r)) where
    left_listed : Listed d c nodes cuts copies l
    left_listed = record { rows = B.rows.1; values = B.values.1; leaves = B.leaves.0; in_range = B.in_range.2 }

    right_listed : Listed d c nodes cuts copies r
    right_listed = record { rows = B.rows.2; values = B.values.2; leaves = B.leaves.1; in_range = B.in_range.3 }

    lines_are : row_line nodes cuts b ++ lines_of d c l ++ lines_of d c r ≡ lines_of d c (branch b x l r)
    lines_are = rw (B.rows.0, B.values.0) refl

  module _ (node : ℕ) where
    -- a buffer keeps its length
    pub same_length : {at : ℕ} {before : List ℕ} {place : ℕ} {after : List ℕ} → SomeListed c node at nodes cuts copies → PrintsNode c node nodes cuts copies at before place after → length after ≡ length before
    same_length w F = long (F w.channels w.tree w.at_node w.listed)

    -- LEAVES: the point index is in the table
    pub in_table : {at : ℕ} → c ≤ node → SomeListed c node at nodes cuts copies → node - c < point_limit
    in_table h w = go w.tree w.at_node w.listed
      where
        go : (t : Tree (whole w.channels)) → id (whole w.channels) c t ≡ node → Listed w.channels c nodes cuts copies t → node - c < point_limit
        go (leaf i q n) e B = omega (arith, B.in_range)
        go (branch b x l r) e B = absurd (omega (arith, B.in_range))

    pub leaf_printed : c ≤ node → {at m : ℕ} {before : List ℕ} {place : ℕ} {after : List ℕ} → m ≡ get_or copies (node - c) 0 → Wrote before at (leaf_line node m) place after
        → PrintsNode c node nodes cuts copies at before place after
    leaf_printed h f w d (leaf i q n) e B =
        let z : node - c ≡ i = omega arith in
        rw e (rw (f, z, B.leaves) at w)
    leaf_printed h f w d (branch b x l r) e B = absurd (omega (arith, B.in_range))

    -- BRANCHES
    abbrev left : ℕ
    left = field nodes node 0

    abbrev right : ℕ
    right = field nodes node 1

    pub branch_printed : node < c → {at p q place : ℕ} {before x y after : List ℕ} → Wrote before at (row_line nodes cuts node) p x
        → PrintsNode c left nodes cuts copies p x q y → PrintsNode c right nodes cuts copies q y place after → PrintsNode c node nodes cuts copies at before place after
    branch_printed h w F G d (leaf i q n) e B = absurd (omega arith)
    branch_printed h w F G d (branch b x l r) e B =
        let L = linked d c nodes (branch b x l r) B.rows in
        let one = F d l (rw (← e) (sym L.0)) (left_listed d B) in
        let two = G d r (rw (← e) (sym L.1)) (right_listed d B) in
        rw (← lines_are d B) (then (then (rw (← e) at w) one) two)

    -- what two calls are told, one for each side
    pub record Parts (at : ℕ) : Type 0 where
      pub small : node + 1 < c
      pub left_some : {before after : List ℕ} {p : ℕ} → Wrote before at (row_line nodes cuts node) p after → SomeListed c left p nodes cuts copies
      pub right_some : {before x y : List ℕ} {p q : ℕ} → Wrote before at (row_line nodes cuts node) p x → PrintsNode c left nodes cuts copies p x q y → SomeListed c right q nodes cuts copies
      pub left_less : deep nodes c capacity_limit left < deep nodes c capacity_limit node
      pub right_less : deep nodes c capacity_limit right < deep nodes c capacity_limit node

    pub parts : {at : ℕ} → c ≤ capacity_limit → node < c → SomeListed c node at nodes cuts copies → Parts at
    parts {at} few h w = go w.tree w.at_node w.once w.listed w.room
      where
        go : (t : Tree (whole w.channels)) → id (whole w.channels) c t ≡ node → Once w.channels c t → Listed w.channels c nodes cuts copies t → at + length (lines_of w.channels c t) < 100000000000 → Parts at
        go (leaf i q n) e o B m = absurd (omega arith)
        go (branch b x u v) e o B m =
            let d = w.channels in
            let t = branch b x u v in
            let bl = left_listed d B in
            let br = right_listed d B in
            let ol : Once d c u = λ j. omega (arith, o j) in
            let or : Once d c v = λ j. omega (arith, o j) in
            let L = linked d c nodes t B.rows in
            let el : id (whole d) c u ≡ left = rw (← e) (sym L.0) in
            let er : id (whole d) c v ≡ right = rw (← e) (sym L.1) in
            let n : depth d c t ≤ capacity_limit = omega (arith, depth_few d c t o B.in_range) in
            let here : deep nodes c capacity_limit node ≡ depth d c t = rw (← e) (deep_is d c nodes capacity_limit t n L B.in_range) in
            let there : deep nodes c capacity_limit left ≡ depth d c u = rw (← el) (deep_is d c nodes capacity_limit u (omega arith) L.2 bl.in_range) in
            let other : deep nodes c capacity_limit right ≡ depth d c v = rw (← er) (deep_is d c nodes capacity_limit v (omega arith) L.3 br.in_range) in
            let whole_length : at + (length (row_line nodes cuts node) + length (lines_of d c u) + length (lines_of d c v)) < 100000000000 = rw (← e) (rw (← lines_are d B, length-append, length-append) at m) in
            record {
              small = omega (arith, B.in_range.0);
              left_some = λ y. record { channels = d; tree = u; at_node = el; once = ol; listed = bl; room = omega (arith, y.next) };
              right_some = λ y F. record { channels = d; tree = v; at_node = er; once = or; listed = br; room = omega (arith, y.next, (F d u el bl).next) };
              left_less = omega arith;
              right_less = omega arith;
            }
