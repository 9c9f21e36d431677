-- The tree of a state stands in its arrays, to be printed from them; and how long its lines are. Laws.
use mathlib.Core.Path.{◌≡◌, refl, sym, ap, ◌∙◌}
use mathlib.Core.Option.{Option, none, some}
use mathlib.Core.Bool.{true}
use mathlib.Core.List.{List, []}
use Prim.Native.Nat.{ℕ, suc, ◌+◌, ◌-◌, ◌*◌, ◌≤◌, ◌<◌}
use native.Mathlib.Omega.{arith}
use lib.ListN.{length, get_or, length-append}
use lib.Ieee.{Float, nan, binary32, to_bits}
use Rattle.limits.specs.Limits.{width, capacity_limit, point_limit}
use Rattle.readings.specs.Share.{is_share}
use Rattle.readings.specs.Number.{nought}
use Rattle.lines.specs.Lines.{names_line, Wrote}
use Rattle.lines.proofs.Lengths.{branch_few, leaf_few}
use Rattle.lines.proofs.Writes.{then}
use Rattle.cuttree.specs.Tree.{Tree, leaf, branch, id, sum, mass, leaves, All}
use Rattle.cuttree.specs.Run.{World, Call, fresh, world_after}
use Rattle.cuttree.specs.Sound.{Sound}
use Rattle.cuttree.proofs.Nodes.{In, here, left, right}
use Rattle.cuttree.proofs.Leaves.{leaves_branches}
use Rattle.cuttree.proofs.Room.{at_leaf, index_below, index_once, intervals_few}
use Rattle.wholetree.specs.Reading.{Reading}
use Rattle.wholetree.specs.Whole.{whole, tab}
use Rattle.wholetree.proofs.Laws.{whole_laws}
use Rattle.printed.specs.Printed.{lines_of, printed_tree, nodes_limit, tree_limit}
use Rattle.layout.specs.Slots.{row_of, cut_of, count_at}
use Rattle.layout.specs.Layout.{no_row, root_of, table_of}
use Rattle.layout.specs.Stands.{Once, InRange}
use Rattle.layout.proofs.Tabs.{entry_of}
use Rattle.layout.proofs.Slots.{tab_laid}
use Rattle.randomcuttree.specs.declared.RCFTree.{RCFTree}
use Rattle.randomcuttree.specs.State.{cached_by, State, Reachable, header_of}
use Rattle.treestore.specs.Arrays.{NodeStore, arrays_of}
use Rattle.randomcuttree.proofs.Parts.{capacity_is, root_is}
use Rattle.randomcuttree.proofs.Given.{sound, in_range, once, stored}
use Rattle.randomcuttree.proofs.Calls.{no_tree, a_tree}
use Rattle.randomcuttree.proofs.Standing.{states_stand}
use Rattle.listing.specs.Listing.{Listed, SomeListed, PrintsNode}
use Rattle.listing.specs.Printed.{SomeRead, PrintsTree}

-- what holds of each leaf in a tree holds of all
all_by : (d : ℕ) (P : ℕ → Reading → ℕ → Type 0) (t : Tree (whole d)) → ((i : ℕ) (q : Reading) (n : ℕ) → In (whole d) (leaf i q n) t → P i q n) → All (whole d) P t
all_by d P (leaf i q n) h = h i q n here
all_by d P (branch b k l r) h = (all_by d P l (λ i q n j. h i q n (left j)), all_by d P r (λ i q n j. h i q n (right j)))

-- HOW LONG: at most 32 bytes for a branch and 19 for a leaf
abbrev branches : (d : ℕ) → Tree (whole d) → ℕ
branches d t = sum (whole d) (λ i q n. 0) (λ b. 1) t

id_below : (d c : ℕ) (t : Tree (whole d)) → c ≤ capacity_limit → InRange d c t → id (whole d) c t < 10000
id_below d c (leaf i q n) m h = omega arith
id_below d c (branch b k l r) m h = omega (arith, h.0)

-- the lines of a tree
lines_few : (d c : ℕ) (t : Tree (whole d)) → c ≤ capacity_limit → InRange d c t → mass (whole d) t < 65536 → length (lines_of d c t) ≤ 32 * branches d t + 19 * leaves (whole d) t
lines_few d c (leaf i q n) m h w = omega (arith, leaf_few (i + c) n (id_below d c (leaf i q n) m h) (omega arith))
lines_few d c (branch b k l r) m h w =
    let one = lines_few d c l m h.2 (omega arith) in
    let two = lines_few d c r m h.3 (omega arith) in
    let here = branch_few b k.channel (to_bits binary32 k.value.value) (id (whole d) c l) (id (whole d) c r) (mass (whole d) (branch b k l r)) (omega (arith, h.0)) (omega (arith, h.1)) (id_below d c l m h.2) (id_below d c r m h.3) (omega arith) in
    rw (length-append, length-append) (omega arith)

-- A SOUND WORLD'S TREE
module _ (d c : ℕ) (f : ℕ → Option Reading) (t : Tree (whole d)) (u : List (ℕ × ℕ)) (H : Sound (whole d) c (record { table = f; tree = some t; free = u })) where
  copies_stand : (copies : List ℕ) → copies ≡ tab point_limit (λ (x : ℕ). count_at d c t x) → All (whole d) (λ i q n. get_or copies i 0 ≡ n) t
  copies_stand copies e = all_by d (λ i q n. get_or copies i 0 ≡ n) t (λ i q n j.
      entry_of point_limit (λ (x : ℕ). count_at d c t x) copies e 0 i (index_below (whole d) c (whole_laws d) f t u H j) ∙ at_leaf (whole d) (λ n. n) j (index_once (whole d) c (whole_laws d) f t u H i))

  tree_few : c ≤ capacity_limit → InRange d c t → length (lines_of d c t) ≤ nodes_limit
  tree_few m h =
      let a = lines_few d c t m h (omega (arith, H.light)) in
      let b : leaves (whole d) t ≡ suc (branches d t) = leaves_branches (whole d) t in
      let e : branches d t + length u ≤ c - 1 = intervals_few (whole d) c (whole_laws d) f t u H in
      omega arith

-- what a reachable world's tree prints
pub printed_few : (d c : ℕ) (W : World (whole d)) → d ≤ width → c ≤ capacity_limit → Reachable d c W → length (printed_tree d c W.tree) ≤ tree_limit
printed_few d c W l m R = go W.tree refl
  where
    go : (o : Option (Tree (whole d))) → W.tree ≡ o → length (printed_tree d c o) ≤ tree_limit
    go none e = omega arith
    go (some t) e = rw length-append (omega (arith, tree_few d c W.table t W.free (sound R e) m (in_range R e l)))

-- A STATE'S TREE
module _ (d c : ℕ) (s : Float) (W : World (whole d)) (tree : RCFTree) (a : NodeStore) (points : List (List Float)) (marks : List ℕ) (S : State d c s W tree a points marks) where
  -- the tree that is there where there are copies
  pub record There : Type 0 where
    pub found : Tree (whole d)
    pub is : W.tree ≡ some found
    pub at_root : id (whole d) c found ≡ tree.root
    pub singly : Once d c found
    pub listed : Listed d c a.nodes a.cuts a.copies found
    pub few : length (lines_of d c found) ≤ nodes_limit

  pub there : (tree.total ≡ 0 → ⊥) → There
  there h =
      let T = a_tree S h in
      let t = T.0 in
      let m = S.limits.3 in
      let H = sound S.reachable T.1 in
      let R = in_range S.reachable T.1 S.limits.1 in
      let O = once S.reachable T.1 in
      let A = (stored S T.1).arrays in
      record {
        found = t;
        is = T.1;
        at_root = sym (root_is S ∙ ap (root_of d c (cached_by s c)) T.1);
        singly = O;
        listed = record {
          rows = tab_laid d c (row_of d c) no_row [] a.nodes t m A.rows O R;
          values = tab_laid d c (cut_of d c) nought nan a.cuts t m A.values O R;
          leaves = copies_stand d c W.table t W.free H a.copies A.counts;
          in_range = R;
        };
        few = tree_few d c W.table t W.free H m R;
      }

-- WHAT `print_tree` IS TOLD AND GIVES
module _ (tree : RCFTree) (nodes : List (List ℕ)) (cuts : List Float) (copies : List ℕ) where
  pub some_listed : {at p : ℕ} {before after : List ℕ} → (tree.total ≡ 0 → ⊥) → at < 10000000000 → SomeRead tree nodes cuts copies → Wrote before at names_line p after
      → (tree.capacity ≤ capacity_limit) × SomeListed tree.capacity tree.root p nodes cuts copies
  some_listed {at} {p} h m w y =
      let S = w.state.state in
      let v = there w.state.channels w.state.capacity w.state.share w.state.world tree w.lent w.points w.marks S h in
      let room : p + length (lines_of w.state.channels w.state.capacity v.found) < 100000000000 = omega (arith, y.next, v.few) in
      rw (capacity_is S, ← w.read.nodes_are, ← w.read.cuts_are, ← w.read.copies_are)
      (S.limits.3, record { channels = w.state.channels; tree = v.found; at_node = v.at_root; once = v.singly; listed = v.listed; room = room })

  pub none_printed : {at place : ℕ} {before after : List ℕ} → tree.total ≡ 0 → Wrote before at names_line place after → PrintsTree tree nodes cuts copies at before place after
  none_printed h y d c s W a points marks S e = rw (no_tree S h) y

  pub some_printed : {at p place : ℕ} {before between after : List ℕ} → (tree.total ≡ 0 → ⊥) → Wrote before at names_line p between
      → PrintsNode tree.capacity tree.root nodes cuts copies p between place after → PrintsTree tree nodes cuts copies at before place after
  some_printed h y F d c s W a points marks S e =
      let v = there d c s W tree a points marks S h in
      rw v.is (then y ((rw (capacity_is S, ← e.nodes_are, ← e.cuts_are, ← e.copies_are) at F) d v.found v.at_root v.listed))

-- What printing asks is met: after any list of calls from a fresh tree and an unwritten table.
pub reads_stand : (d c : ℕ) (s : Float) → 1 ≤ d → d ≤ width → 2 ≤ c → c ≤ capacity_limit → is_share s ≡ true → (cs : List (Call (whole d)))
    → let W = world_after (whole d) c (fresh (whole d) c) cs in let a = arrays_of d c (cached_by s c) W.tree W.free in SomeRead (header_of d c s W) a.nodes a.cuts a.copies
reads_stand d c s l m n o p cs =
    let W = world_after (whole d) c (fresh (whole d) c) cs in
    record {
      lent = arrays_of d c (cached_by s c) W.tree W.free;
      points = (table_of W.table).points;
      marks = (table_of W.table).written;
      read = record { nodes_are = refl; cuts_are = refl; copies_are = refl };
      state = record { channels = d; capacity = c; share = s; world = W; state = states_stand d c s l m n o p cs };
    }
