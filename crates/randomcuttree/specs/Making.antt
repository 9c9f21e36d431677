-- What a making answers, and the arrays that it leaves. Definitions.
use Rattle.std.specs.Prelude.{◌≡◌, Bool, cond, ◌&&◌, List, ℕ, ◌-◌, leb, replicate, Float, Result, Ok, Err}
use Rattle.std.proofs.Math.Option.{none}
use Rattle.limits.specs.Limits.{width, capacity_limit, branch_limit, point_limit}
use Rattle.readings.specs.Share.{is_share}
use Rattle.readings.specs.Number.{nought}
use Rattle.intervalstoremanager.specs.Stack as Stack
use Rattle.intervalstoremanager.specs.Rows as Rows
use Rattle.cuttree.specs.Run.{fresh}
use Rattle.wholetree.specs.Whole.{whole}
use Rattle.layout.specs.Layout.{no_row, no_box_ends, table_of}
use Rattle.treestore.specs.Arrays.{NodeStore, manager_of}
use Rattle.randomcuttree.specs.declared.RCFTree.{RCFTree}
use Rattle.refusals.specs.declared.Refusal.{Refusal}
use Rattle.refusals.specs.declared.Refusal.TheVariants.{Channels, Capacity, CachedShare}
use Rattle.randomcuttree.specs.State.{cached_by, State}

-- request A.7: 'refusal 1 moves to above 32'; document 01: 'Capacity c is 2 to 256'
abbrev pub channels_taken : ℕ → Bool
channels_taken d = leb 1 d && leb d width

abbrev pub capacity_taken : ℕ → Bool
capacity_taken c = leb 2 c && leb c capacity_limit

-- the header of an empty tree, all its branch numbers free
abbrev pub empty_tree : ℕ → ℕ → Float → RCFTree
empty_tree d c s = record {
  dimensions = d;
  capacity = c;
  cache_fraction = s;
  cached = cached_by s c;
  root = c - 1;
  total = 0;
  manager = manager_of (c - 1) (Stack.fresh (c - 1));
}

-- 'make: 1 channels; 2 capacity; 3 cached share: outside its range or NaN', in this order; else the header
unfoldable pub made_by : ℕ → ℕ → Float → Result RCFTree Refusal
made_by d c s =
    cond (channels_taken d)
    (cond (capacity_taken c)
    (cond (is_share s) (Ok (empty_tree d c s)) (Err CachedShare))
    (Err Capacity))
    (Err Channels)

-- the arrays of an empty tree
abbrev pub cleared : ℕ → NodeStore
cleared c = record {
  nodes = replicate branch_limit no_row;
  cuts = replicate branch_limit nought;
  copies = replicate point_limit 0;
  free = Rows.layout (Stack.fresh (c - 1));
  boxes = replicate branch_limit no_box_ends;
}

-- the arrays after a making: a refused one writes nothing
unfoldable pub lent_by : ℕ → ℕ → Float → NodeStore → NodeStore
lent_by d c s a = cond (channels_taken d && (capacity_taken c && is_share s)) (cleared c) a

-- What a making gives and leaves. A tree that is made stands, with an unwritten table, for document 01's 'tree fresh from an accepted
-- making and a table with nothing written'.
pub record MakeDone (d c : ℕ) (s : Float) (before after : NodeStore) (r : Result RCFTree Refusal) : Type 0 where
  pub answer : r ≡ made_by d c s
  pub arrays : after ≡ lent_by d c s before
  pub state : (tree : RCFTree) → r ≡ Ok tree → (points : List (List Float)) (marks : List ℕ)
      → record { points = points; written = marks } ≡ table_of (λ i. none) → State d c s (fresh (whole d) c) tree after points marks
