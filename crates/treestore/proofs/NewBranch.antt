-- A new branch in a tree's rows: its sides stand in the arrays, so that its box is that of the two, and no other box is changed. Assumes nothing.
use mathlib.Core.Path.{◌≡◌, refl, sym, ap, ◌∙◌}
use mathlib.Core.List.{List, [], ◌∷◌}
use Prim.Native.Nat.{ℕ, ◌+◌, ◌≤◌, ◌<◌}
use native.Mathlib.Omega.{arith}
use lib.ListN.{get_or}
use lib.Ieee.{Float}
use Rattle.limits.specs.Limits.{width, capacity_limit, branch_limit, point_limit}
use Rattle.cuttree.specs.Setting.{Cut, below}
use Rattle.cuttree.specs.Tree.{Tree, leaf, branch, id, height, above, lo, hi}
use Rattle.cuttree.specs.Walk.{sub, graft}
use Rattle.cuttree.proofs.Tests.{by_cond}
use Rattle.cuttree.proofs.Nodes.{In, in_trans}
use Rattle.wholetree.specs.Reading.{Reading}
use Rattle.wholetree.specs.Whole.{whole, tab}
use Rattle.layout.specs.Slots.{uses, slot, row_of, box_ends}
use Rattle.layout.specs.Layout.{no_row}
use Rattle.layout.specs.Stands.{Once, InRange, Laid}
use Rattle.layout.proofs.Tabs.{entry_of}
use Rattle.layout.proofs.Slots.{laid_by, range_in, slot_in_lem, uses_in}
use Rattle.layout.proofs.Replaced.{in_sub, in_new}
use Rattle.layout.proofs.Ranges.{range_node}
use Rattle.boxstore.specs.Boxed.{side_in, Linked, Boxed}
use Rattle.boxstore.specs.Grown.{low_with, high_with, SomeSides}
use Rattle.boxstore.specs.Written.{written}
use Rattle.boxstore.proofs.Standing.{once_in, boxed_in}
use Rattle.boxstore.proofs.Written.{written_there}
use Rattle.branchboxes.specs.Pairs.{SidesKept}
use Rattle.treestore.proofs.Links.{linked}

-- the tree before, and the new branch b above the walk's node of height h, with the leaf of the index i
module _ {d c k : ℕ} {t : Tree (whole d)} {nodes : List (List ℕ)} {points : List (List Float)} {boxes : List (List (List Float))} (B : Boxed d c k nodes points boxes t) (p : Reading) (b i h : ℕ) (cut : Cut (whole d)) where
  abbrev old : Tree (whole d)
  old = sub (whole d) t h p

  abbrev new : Tree (whole d)
  new = above (whole d) b cut i p old

  -- a cached box is where it was
  pub kept_box : (X : List (List Float)) → k < c → uses d c t b ≡ 0 → (v : Tree (whole d)) → In (whole d) v t → id (whole d) c v < k → get_or (written k b X boxes) (id (whole d) c v) [] ≡ box_ends d c v
  kept_box X few fresh (leaf j q n) e l = absurd (omega arith)
  kept_box X few fresh (branch j x l r) e m = written_there k b X boxes j (λ z. omega (arith, fresh, ap (uses d c t) z, uses_in d c e)) ∙ (boxed_in d c e B).cached.0 m

  -- the rows have the new branch in them
  module _ (small : c ≤ capacity_limit) (within : h ≤ height (whole d) t p) (number : b + 1 < c) (channel : cut.channel < width) (index : i < point_limit) (row : get_or points i [] ≡ p.row) (o : Once d c (graft (whole d) b i p (h, cut) t))
      (nodes' : List (List ℕ)) (rows : nodes' ≡ tab branch_limit (slot d c (row_of d c) no_row (graft (whole d) b i p (h, cut) t))) where
    old_range : InRange d c old
    old_range = range_node d c (in_sub d c h p t within) B.in_range

    new_range : InRange d c new
    new_range = by_cond (InRange d c) (below (whole d) cut p) _ _ (λ _. (number, channel, index, old_range)) (λ _. (number, channel, old_range, index))

    in_after : In (whole d) new (graft (whole d) b i p (h, cut) t)
    in_after = in_new d c h p new t within

    new_laid : Laid d c (row_of d c) (λ (j : ℕ). get_or nodes' j []) new
    new_laid = laid_by d c (row_of d c) (λ (j : ℕ). get_or nodes' j []) new
        (λ j x l r e. entry_of branch_limit (slot d c (row_of d c) no_row (graft (whole d) b i p (h, cut) t)) nodes' rows [] j (omega (arith, range_in d c new_range e, small)) ∙ slot_in_lem d c (row_of d c) no_row o (in_trans (whole d) e in_after))

    -- the sides of a branch of that number, whose box is v's
    pub record Sides (v : Tree (whole d)) : Type 0 where
      pub low : Tree (whole d)
      pub high : Tree (whole d)
      pub low_id : id (whole d) c low ≡ side_in nodes' b 0
      pub high_id : id (whole d) c high ≡ side_in nodes' b 1
      pub low_boxed : Boxed d c k nodes' points boxes low
      pub high_boxed : Boxed d c k nodes' points boxes high
      pub low_once : Once d c low
      pub high_once : Once d c high
      pub box_is_lem : low_with d (lo (whole d) low) high ∷ high_with d (hi (whole d) low) high ∷ [] ≡ box_ends d c v

    old_boxed : Linked d c nodes' old → Boxed d c k nodes' points boxes old
    old_boxed L = let O = boxed_in d c (in_sub d c h p t within) B in record { links = L; leaves = O.leaves; in_range = O.in_range; cached = O.cached }

    leaf_boxed : Linked d c nodes' (leaf i p 1) → Boxed d c k nodes' points boxes (leaf i p 1)
    leaf_boxed L = record { links = L; leaves = row; in_range = index; cached = tt }

    sides_of : (l r : Tree (whole d)) → (Linked d c nodes' l → Boxed d c k nodes' points boxes l) → (Linked d c nodes' r → Boxed d c k nodes' points boxes r) → Linked d c nodes' (branch b cut l r) → Once d c (branch b cut l r) → Sides (branch b cut l r)
    sides_of l r f g L o = record {
      low = l;
      high = r;
      low_id = sym L.0;
      high_id = sym L.1;
      low_boxed = f L.2;
      high_boxed = g L.3;
      low_once = λ j. omega (arith, o j);
      high_once = λ j. omega (arith, o j);
      box_is_lem = refl;
    }

    sides : Sides new
    sides = by_cond (λ v. Linked d c nodes' v → Once d c v → Sides v) (below (whole d) cut p) _ _ (λ _. sides_of (leaf i p 1) old leaf_boxed old_boxed) (λ _. sides_of old (leaf i p 1) old_boxed leaf_boxed)
        (linked d c nodes' new new_laid) (once_in d c in_after o)

    pub some_sides : SomeSides c k b nodes' points boxes
    some_sides = record {
      small = omega arith;
      left_some = record { channels = d; tree = sides.low; at_node = sides.low_id; once = sides.low_once; boxed = sides.low_boxed };
      right_some = record { channels = d; tree = sides.high; at_node = sides.high_id; once = sides.high_once; boxed = sides.high_boxed };
    }

    pub sides_box : (boxes' : List (List (List Float))) → SidesKept c k b nodes' points boxes boxes' → boxes' ≡ written k b (box_ends d c new) boxes
    sides_box boxes' f = f d sides.low sides.high sides.low_id sides.high_id sides.low_boxed sides.high_boxed ∙ ap (λ X. written k b X boxes) sides.box_is_lem
