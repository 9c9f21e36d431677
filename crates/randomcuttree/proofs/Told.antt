-- The queries, place by place: what is read in the arrays of a state is what the tree has at an id. Assumes nothing.
use Rattle.refusals.specs.declared.Refusal.{Refusal}
use Rattle.refusals.specs.declared.Refusal.TheVariants as Why
use Rattle.std.specs.Prelude.{Result, Ok, Err}
use mathlib.Core.Path.{◌≡◌, refl, sym, ap, ◌∙◌, subst}
use mathlib.Core.Option.{Option, none, some}
use mathlib.Core.List.{List, []}
use Prim.Native.Nat.{ℕ, ◌-◌, ◌≤◌, ◌<◌}
use native.Mathlib.Omega.{arith}
use lib.Dec.{eqb, leb, ltb}
use lib.ListN.{get_or}
use lib.Ieee.{Float, nan}
use borrow.Author.Tests.{ltb-true, ltb-false, lt-ltb, le-ltb, leb-true, leb-false, lt-leb, le-leb, eqb-true, eqb-false, eq-eqb, ne_eqb}
use Rattle.limits.specs.Limits.{width, capacity_limit, branch_limit, point_limit}
use Rattle.readings.specs.Number.{nought}
use Rattle.boundingbox.specs.declared.BoundingBox.{BoundingBox}
use Rattle.cuttree.specs.Setting.{Cut}
use Rattle.cuttree.specs.Tree.{Tree, branch}
use Rattle.cuttree.specs.Sound.{Sound}
use Rattle.cuttree.specs.Run.{World, look_in, copies_found, branch_found, box_found}
use Rattle.cuttree.proofs.Tests.{by-test}
use Rattle.wholetree.specs.Reading.{Reading}
use Rattle.wholetree.specs.Whole.{whole, tab}
use Rattle.layout.specs.Slots.{uses, slot, row_of, cut_of}
use Rattle.layout.specs.Layout.{no_row, slot_in, count_in}
use Rattle.layout.specs.Stands.{Once}
use Rattle.layout.proofs.Tabs.{entry_of}
use Rattle.layout.proofs.Slots.{Branch, branch_of_lem, slot_in_lem}
use Rattle.boxstore.specs.Boxed.{Boxed}
use Rattle.boxstore.specs.Grown.{SomeSides, SidesBox}
use Rattle.boxstore.proofs.Parts.{left_boxed, right_boxed}
use Rattle.boxstore.proofs.Standing.{once_in, boxed_in}
use Rattle.rowboxes.specs.Rows.{PaddedTable, PaddedBoxes}
use Rattle.treestore.specs.Arrays.{NodeStore}
use Rattle.randomcuttree.specs.declared.RCFTree.{RCFTree}
use Rattle.randomcuttree.specs.declared.BranchRow.{BranchRow}
use Rattle.randomcuttree.specs.State.{cached_by, State}
use Rattle.randomcuttree.specs.Queries.{copies_say, branch_says, box_says, copies_read, row_read, branch_read, CopiesTold, BranchTold, BoxTold, BoxRead, SomeBoxRead, CopiesAreTold, BranchesAreTold}
use Rattle.randomcuttree.proofs.Lookups.{once, no_leaf, a_leaf, branch_below, branch_found_lem, with_mass, without_mass, no_branch}
use Rattle.randomcuttree.proofs.Parts.{cached_few, dimensions_are, capacity_is, cached_is, nodes_are, cuts_are, copies_are}
use Rattle.randomcuttree.proofs.Given.{sound, table_padded, boxes_padded, boxed}

-- ---- copies
module _ (tree : RCFTree) (copies : List ℕ) (x : ℕ) where
  no_copies : (tree.capacity ≤ x → x - tree.capacity < point_limit → get_or copies (x - tree.capacity) 0 ≡ 0) → CopiesTold tree copies x (Err Why.NoSuchNode)
  no_copies h d c s W a points marks S e = go W.tree S.reachable.sound (sym e ∙ copies_are S)
    where
      go : (o : Option (Tree (whole d))) → Sound (whole d) c (record { table = W.table; tree = o; free = W.free }) → copies ≡ tab point_limit (count_in d c (cached_by s c) o) → Err Why.NoSuchNode ≡ copies_say d (copies_found (whole d) (look_in (whole d) c o x))
      go none H E = refl
      go (some t) H E =
          let m = rw (capacity_is S) at h in
          rw (no_leaf d c W.table t W.free H x (λ p q. sym (entry_of point_limit (count_in d c (cached_by s c) (some t)) copies E 0 (x - c) q) ∙ m p q)) refl

  copies_told : tree.capacity ≤ x → x - tree.capacity < point_limit → (get_or copies (x - tree.capacity) 0 ≡ 0 → ⊥) → (n : ℕ) → n ≡ get_or copies (x - tree.capacity) 0 → CopiesTold tree copies x (Ok n)
  copies_told p q r n z d c s W a points marks S e = go W.tree S.reachable.sound
      (z ∙ ap (λ (m : ℕ). get_or copies (x - m) 0) (capacity_is S) ∙ entry_of point_limit (count_in d c (cached_by s c) W.tree) copies (sym e ∙ copies_are S) 0 (x - c) (omega (arith, capacity_is S)))
    where
      go : (o : Option (Tree (whole d))) → Sound (whole d) c (record { table = W.table; tree = o; free = W.free }) → n ≡ count_in d c (cached_by s c) o (x - c) → Ok n ≡ copies_say d (copies_found (whole d) (look_in (whole d) c o x))
      go none H y = absurd (r (sym z ∙ y))
      go (some t) H y =
          let w : n ≡ 0 → ⊥ = λ v. r (sym z ∙ v) in
          rw (a_leaf d c W.table t W.free H x (omega (arith, capacity_is S)) (omega arith)) (ap (λ (m : ℕ). Ok m) y)

  -- what is read, place by place
  pub below_read : x < tree.capacity → copies_read tree copies x ≡ Err Why.NoSuchNode
  unfolding copies_read
  below_read h = rw (lt-ltb x tree.capacity h)

  module _ (p : tree.capacity ≤ x) where
    pub beyond_read : point_limit ≤ x - tree.capacity → copies_read tree copies x ≡ Err Why.NoSuchNode
    unfolding copies_read
    beyond_read h = rw (le-ltb x tree.capacity p, le-leb point_limit (x - tree.capacity) h)

    pub none_read : x - tree.capacity < point_limit → get_or copies (x - tree.capacity) 0 ≡ 0 → copies_read tree copies x ≡ Err Why.NoSuchNode
    unfolding copies_read
    none_read h z = rw (le-ltb x tree.capacity p, lt-leb point_limit (x - tree.capacity) h, eq-eqb (get_or copies (x - tree.capacity) 0) 0 z)

    pub some_read : x - tree.capacity < point_limit → (get_or copies (x - tree.capacity) 0 ≡ 0 → ⊥) → copies_read tree copies x ≡ Ok (get_or copies (x - tree.capacity) 0)
    unfolding copies_read
    some_read h z = rw (le-ltb x tree.capacity p, lt-leb point_limit (x - tree.capacity) h, ne_eqb (get_or copies (x - tree.capacity) 0) 0 z)

pub copies_are_told : CopiesAreTold
copies_are_told tree copies x = by-test (ltb x tree.capacity)
    (λ e. let l = ltb-true x tree.capacity e in subst Told (sym (below_read tree copies x l)) (no_copies tree copies x (λ p q. absurd (omega arith))))
    (λ e. let p = ltb-false x tree.capacity e in by-test (leb point_limit (x - tree.capacity))
    (λ f. let l = leb-true point_limit (x - tree.capacity) f in subst Told (sym (beyond_read tree copies x p l)) (no_copies tree copies x (λ p q. absurd (omega arith))))
    (λ f. let q = leb-false point_limit (x - tree.capacity) f in by-test (eqb n 0)
    (λ g. let z = eqb-true n 0 g in subst Told (sym (none_read tree copies x p q z)) (no_copies tree copies x (λ _ _. z)))
    (λ g. let z = eqb-false n 0 g in subst Told (sym (some_read tree copies x p q z)) (copies_told tree copies x p q z n refl))))
  where
    Told : Result ℕ Refusal → Type 0
    Told = CopiesTold tree copies x

    n : ℕ
    n = get_or copies (x - tree.capacity) 0

-- ---- branches
module _ (nodes : List (List ℕ)) (x : ℕ) where
  -- the mass read, 0 where there is no branch
  abbrev mass_read : ℕ
  mass_read = get_or (get_or nodes x []) 2 0

  module _ (d c : ℕ) (f : ℕ → Option Reading) (t : Tree (whole d)) (u : List (ℕ × ℕ)) (H : Sound (whole d) c (record { table = f; tree = some t; free = u })) (C : c ≤ capacity_limit) (E : nodes ≡ tab branch_limit (slot d c (row_of d c) no_row t)) where
    row_is : x < branch_limit → get_or nodes x [] ≡ slot d c (row_of d c) no_row t x
    row_is h = entry_of branch_limit (slot d c (row_of d c) no_row t) nodes E [] x h

    unused : (x < branch_limit → mass_read ≡ 0) → uses d c t x ≡ 0
    unused h = by-test (ltb x branch_limit)
        (λ e. let l = ltb-true x branch_limit e in without_mass d c f t u H x (ap (λ (r : List ℕ). get_or r 2 0) (sym (row_is l)) ∙ h l))
        (λ e. by-test (ltb 0 (uses d c t x))
        (λ w. absurd (omega (arith, branch_below d c f t u H x (ltb-true 0 (uses d c t x) w), ltb-false x branch_limit e)))
        (λ w. omega (arith, ltb-false 0 (uses d c t x) w)))

    used : x < branch_limit → (mass_read ≡ 0 → ⊥) → Branch d c t x
    used l h = branch_of_lem d c t x (with_mass d c f t u H x (λ e. h (ap (λ (r : List ℕ). get_or r 2 0) (row_is l) ∙ e)))

  -- in an empty tree there is none
  none_there : (d c k : ℕ) → nodes ≡ tab branch_limit (slot_in d c k (row_of d c) no_row none) → x < branch_limit → mass_read ≡ 0
  none_there d c k E l = ap (λ (r : List ℕ). get_or r 2 0) (entry_of branch_limit (slot_in d c k (row_of d c) no_row none) nodes E [] x l)

module _ (tree : RCFTree) (nodes : List (List ℕ)) (cuts : List Float) (x : ℕ) where
  no_row_lem : (x < branch_limit → mass_read nodes x ≡ 0) → BranchTold tree nodes cuts x (Err Why.NoSuchNode)
  no_row_lem h d c s W a points marks S e e' = go W.tree S.reachable.sound (sym e ∙ nodes_are S)
    where
      go : (o : Option (Tree (whole d))) → Sound (whole d) c (record { table = W.table; tree = o; free = W.free }) → nodes ≡ tab branch_limit (slot_in d c (cached_by s c) (row_of d c) no_row o) → Err Why.NoSuchNode ≡ branch_says d (branch_found (whole d) c (look_in (whole d) c o x))
      go none H E = refl
      go (some t) H E = rw (no_branch d c W.table t W.free H x (unused nodes x d c W.table t W.free H S.limits.3 E h)).0 refl

  row_told : x < branch_limit → (mass_read nodes x ≡ 0 → ⊥) → (r : BranchRow) → r ≡ row_read nodes cuts x → BranchTold tree nodes cuts x (Ok r)
  row_told l h r z d c s W a points marks S e e' = go W.tree S.reachable.sound (sym e ∙ nodes_are S) (sym e' ∙ cuts_are S)
    where
      go : (o : Option (Tree (whole d))) → Sound (whole d) c (record { table = W.table; tree = o; free = W.free }) → nodes ≡ tab branch_limit (slot_in d c (cached_by s c) (row_of d c) no_row o) → cuts ≡ tab branch_limit (slot_in d c (cached_by s c) (cut_of d c) nought o)
          → Ok r ≡ branch_says d (branch_found (whole d) c (look_in (whole d) c o x))
      go none H E F = absurd (h (none_there nodes x d c (cached_by s c) E l))
      go (some t) H E F = by (used nodes x d c W.table t W.free H S.limits.3 E l h)
        where
          by : Branch d c t x → Ok r ≡ branch_says d (branch_found (whole d) c (look_in (whole d) c (some t) x))
          by B =
              let o = once d c W.table t W.free H in
              let row = row_is nodes x d c W.table t W.free H S.limits.3 E l ∙ slot_in_lem d c (row_of d c) no_row o B.inside in
              let value = entry_of branch_limit (slot d c (cut_of d c) nought t) cuts F nan x l ∙ slot_in_lem d c (cut_of d c) nought o B.inside in
              rw (branch_found_lem d c W.table t W.free H x B, z, row, value) refl

  -- what is read, place by place
  pub beyond_rows : branch_limit ≤ x → branch_read nodes cuts x ≡ Err Why.NoSuchNode
  unfolding branch_read
  beyond_rows h = rw (le-leb branch_limit x h)

  pub empty_row : x < branch_limit → mass_read nodes x ≡ 0 → branch_read nodes cuts x ≡ Err Why.NoSuchNode
  unfolding branch_read
  empty_row h z = rw (lt-leb branch_limit x h, eq-eqb (mass_read nodes x) 0 z)

  pub a_row : x < branch_limit → (mass_read nodes x ≡ 0 → ⊥) → branch_read nodes cuts x ≡ Ok (row_read nodes cuts x)
  unfolding branch_read
  a_row h z = rw (lt-leb branch_limit x h, ne_eqb (mass_read nodes x) 0 z)

pub branches_are_told : BranchesAreTold
branches_are_told tree nodes cuts x = by-test (leb branch_limit x)
    (λ e. let l = leb-true branch_limit x e in subst Told (sym (beyond_rows tree nodes cuts x l)) (no_row_lem tree nodes cuts x (λ h. absurd (omega arith))))
    (λ e. let l = leb-false branch_limit x e in by-test (eqb (mass_read nodes x) 0)
    (λ g. let z = eqb-true (mass_read nodes x) 0 g in subst Told (sym (empty_row tree nodes cuts x l z)) (no_row_lem tree nodes cuts x (λ _. z)))
    (λ g. let z = eqb-false (mass_read nodes x) 0 g in subst Told (sym (a_row tree nodes cuts x l z)) (row_told tree nodes cuts x l z (row_read nodes cuts x) refl)))
  where
    Told : Result BranchRow Refusal → Type 0
    Told = BranchTold tree nodes cuts x

-- ---- boxes
module _ (tree : RCFTree) (nodes : List (List ℕ)) (points : List (List Float)) (boxes : List (List (List Float))) (x : ℕ) where
  pub box_refused : (x < branch_limit → mass_read nodes x ≡ 0) → BoxTold tree nodes points boxes x (Err Why.NoSuchNode)
  box_refused h d c s W a marks S e = go W.tree S.reachable.sound (sym e.nodes_are ∙ nodes_are S)
    where
      go : (o : Option (Tree (whole d))) → Sound (whole d) c (record { table = W.table; tree = o; free = W.free }) → nodes ≡ tab branch_limit (slot_in d c (cached_by s c) (row_of d c) no_row o) → Err Why.NoSuchNode ≡ box_says d (box_found (whole d) (look_in (whole d) c o x))
      go none H E = refl
      go (some t) H E = rw (no_branch d c W.table t W.free H x (unused nodes x d c W.table t W.free H S.limits.3 E h)).1 refl

  module _ (l : x < branch_limit) (h : mass_read nodes x ≡ 0 → ⊥) where
    -- the branch of the id, whose box stands in the arrays
    record BoxAt (d c k : ℕ) (o : Option (Tree (whole d))) : Type 0 where
      pub node : Cut (whole d) × Tree (whole d) × Tree (whole d)
      pub found : look_in (whole d) c o x ≡ some (branch x node.0 node.1 node.2)
      pub singly : Once d c (branch x node.0 node.1 node.2)
      pub boxed_there : Boxed d c k nodes points boxes (branch x node.0 node.1 node.2)
      pub padded_there : PaddedBoxes d boxes

    box_at_lem : (d c : ℕ) (s : Float) (W : World (whole d)) (a : NodeStore) (marks : List ℕ) → State d c s W tree a points marks → BoxRead a nodes boxes → BoxAt d c (cached_by s c) W.tree
    box_at_lem d c s W a marks S e = go W.tree refl
      where
        rows : nodes ≡ tab branch_limit (slot_in d c (cached_by s c) (row_of d c) no_row W.tree)
        rows = sym e.nodes_are ∙ nodes_are S

        go : (o : Option (Tree (whole d))) → W.tree ≡ o → BoxAt d c (cached_by s c) o
        go none T = absurd (h (none_there nodes x d c (cached_by s c) (rw T at rows) l))
        go (some t) T =
            let H = sound S.reachable T in
            let B = used nodes x d c W.table t W.free H S.limits.3 (rw T at rows) l h in
            let b : Boxed d c (cached_by s c) nodes points boxes t = rw (e.nodes_are, e.boxes_are) at (boxed S T) in
            record {
              node = (B.cut, B.low, B.high);
              found = branch_found_lem d c W.table t W.free H x B;
              singly = once_in d c B.inside (once d c W.table t W.free H);
              boxed_there = boxed_in d c B.inside b;
              padded_there = subst (PaddedBoxes d) e.boxes_are (boxes_padded S T);
            }

    -- its sides stand there, and the arrays are padded
    pub record SidesRead (c k e : ℕ) : Type 0 where
      pub few : (c ≤ capacity_limit) × (k ≤ branch_limit) × (e ≤ width)
      pub sides : SomeSides c k x nodes points boxes
      pub table : PaddedTable e points
      pub slots : PaddedBoxes e boxes

    pub some_sides : SomeBoxRead tree nodes points boxes → SidesRead tree.capacity tree.cached tree.dimensions
    some_sides w =
        let S = w.state.state in
        let B = box_at_lem w.state.channels w.state.capacity w.state.share w.state.world w.lent w.marks S w.read in
        let links = B.boxed_there.links in
        rw (capacity_is S, cached_is S, dimensions_are S) (record {
          few = (S.limits.3, omega (arith, cached_few w.state.share w.state.capacity, S.limits.3), S.limits.1);
          sides = record {
            small = l;
            left_some = record { channels = w.state.channels; tree = B.node.1; at_node = sym links.0; once = λ j. omega (arith, B.singly j); boxed = left_boxed _ _ _ _ _ _ B.boxed_there };
            right_some = record { channels = w.state.channels; tree = B.node.2; at_node = sym links.1; once = λ j. omega (arith, B.singly j); boxed = right_boxed _ _ _ _ _ _ B.boxed_there };
          };
          table = table_padded S;
          slots = B.padded_there;
        })

    pub box_told : (b : BoundingBox) → SidesBox tree.capacity tree.cached x nodes points boxes b → BoxTold tree nodes points boxes x (Ok b)
    box_told b F d c s W a marks S e =
        let B = box_at_lem d c s W a marks S e in
        let links = B.boxed_there.links in
        let w = (rw (capacity_is S, cached_is S) at F) d B.node.1 B.node.2 (sym links.0) (sym links.1) (left_boxed _ _ _ _ _ _ B.boxed_there) (right_boxed _ _ _ _ _ _ B.boxed_there) in
        rw B.found (answered _ _ w.0 w.1)
      where
        answered : (p q : List Float) → b.min_values ≡ p → b.max_values ≡ q → ◌≡◌ {A = Result BoundingBox Refusal} (Ok b) (Ok (record { min_values = p; max_values = q }))
        answered p q y z = rw (← y, ← z) refl
