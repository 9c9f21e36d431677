-- An add and a delete that are never refused, from what the tree's functions answer. Assumes nothing.
use mathlib.Core.Bool.{true≢false}
use Rattle.std.specs.Prelude.{is_ok}
use Rattle.refusals.specs.declared.Refusal.{Refusal}
use Rattle.std.specs.Prelude.{Result, Ok, Err}
use mathlib.Core.Path.{◌≡◌, refl, sym, ap, ◌∙◌, subst}
use mathlib.Core.Option.{Option, none, some}
use mathlib.Core.List.{List}
use Prim.Native.Nat.{ℕ, ◌<◌}
use native.Mathlib.Omega.{arith}
use lib.ListN.{length, get_or}
use lib.Ieee.{Float}
use Rattle.limits.specs.Limits.{point_limit, total_limit}
use Rattle.cuttree.specs.Tree.{Tree}
use Rattle.cuttree.specs.Run.{World, Answer, added, add, delete, call}
use Rattle.cuttree.specs.Sound.{Sound}
use Rattle.cuttree.proofs.Tests.{nonsense}
use Rattle.cuttree.proofs.Refused.{by_add, by_delete}
use Rattle.cuttree.proofs.Intervals.{is_same}
use Rattle.wholetree.specs.Reading.{Reading}
use Rattle.wholetree.specs.Whole.{whole}
use Rattle.wholetree.proofs.Laws.{whole_laws}
use Rattle.sampledtree.proofs.Admits.{Adds, held, add_admits, evicted_leaf, delete_admits}
use Rattle.layout.specs.Layout.{count_in}
use Rattle.layout.proofs.Tabs.{entry_of}
use Rattle.treestore.specs.declared.Found.{Found}
use Rattle.treestore.specs.Arrays.{NodeStore}
use Rattle.randomcuttree.specs.declared.RCFTree.{RCFTree}
use Rattle.randomcuttree.specs.declared.Added.{Added}
use Rattle.randomcuttree.specs.declared.Deleted.{Deleted}
use Rattle.randomcuttree.specs.State.{cached_by, State, header_of}
use Rattle.randomcuttree.specs.Finds.{SomeSeen}
use Rattle.randomcuttree.specs.Answers.{added_by, deleted_by, add_says, delete_says, SeenAdded, SeenDeleted}
use Rattle.randomcuttree.proofs.Parts.{total_is, copies_are}
use Rattle.randomcuttree.proofs.Calls.{some_seen}
use Rattle.samplerplustree.specs.Leaves.{SomeAdmits, AddsLeaf, SomeCopy, DeletesLeaf}

-- an index that has a copy is one of the table's
in_table : (d c : ℕ) (f : ℕ → Option Reading) (o : Option (Tree (whole d))) (u : List (ℕ × ℕ)) (j : ℕ) → Sound (whole d) c (record { table = f; tree = o; free = u })
    → 0 < held (whole d) (whole_laws d) c o j → (q : Reading) × (f j ≡ some q)
in_table d c f none u j H h = absurd (omega arith)
in_table d c f (some t) u j H h = let (q, n, at, e, m) = evicted_leaf (whole d) (whole_laws d) c f t u j H h in (q, at)

abbrev leaf_of : Result Added Refusal → ℕ
leaf_of (Ok t) = t.leaf
leaf_of (Err n) = 0

-- ---- THE ADD
module _ (d c : ℕ) (s : Float) (t : Added) where
  abbrev OnlyAdded : Answer (whole d) × World (whole d) → Type 0
  OnlyAdded x = ◌≡◌ {A = Result Added Refusal} (Ok t) (add_says d (header_of d c s x.1) x.0) → (x.0 ≡ added t.leaf t.words) × (t.tree ≡ header_of d c s x.1)

  parts : (h : RCFTree) (k m : ℕ) → ◌≡◌ {A = Result Added Refusal} (Ok t) (added_by h k m) → ◌≡◌ {A = Answer (whole d)} (added k m) (added t.leaf t.words) × (t.tree ≡ h)
  parts h k m e =
      let same : t ≡ record { tree = h; leaf = k; words = m } = cc in
      (sym (ap (λ (y : Added). added y.leaf y.words) same), ap (λ (y : Added). y.tree) same)

  only_added : (W : World (whole d)) (i : ℕ) (ws : List ℕ) → OnlyAdded (call (whole d) c W (add i ws))
  only_added W i ws = by_add (whole d) c OnlyAdded W (λ m e. nonsense (cc)) i ws (λ k m U _ e. parts _ _ _ e)

module _ (tree : RCFTree) (a : NodeStore) (points : List (List Float)) (i : ℕ) (ws : List ℕ) (r : Result Added Refusal) (b : NodeStore) (D : SeenAdded tree a points i ws r b) where
  pub leaf_added : (t : Added) → r ≡ Ok t → AddsLeaf tree a points i ws (record { tree = t.tree; leaf = t.leaf }) b
  leaf_added t e d c s W marks p S P =
      let C = D d c s W marks p S P in
      let A = only_added d c s t W i ws (sym e ∙ C.answer) in
      record { words = t.words; answer = A.0; tree_is = A.1; state = C.state }

  module _ {path : List (List ℕ)} {f : Found} (A : SomeAdmits tree a points i path f (length ws)) where
    abbrev x : Answer (whole A.channels) × World (whole A.channels)
    x = call (whole A.channels) A.capacity A.world (add i ws)

    admits : Adds (whole A.channels) (whole_laws A.channels) A.capacity A.world x
    admits = let S = A.state in add_admits (whole A.channels) (whole_laws A.channels) A.capacity A.world i A.point ws S.reachable.sound A.is_written A.room (omega (arith, S.limits.3)) A.enough

    answered : r ≡ added_by (header_of A.channels A.capacity A.share x.1) admits.leaf_index admits.words
    answered = (D A.channels A.capacity A.share A.world A.marks A.point A.state A.is_written).answer ∙ ap (add_says A.channels (header_of A.channels A.capacity A.share x.1)) admits.answer

    pub never_refused : (n : Refusal) → r ≡ Err n → ⊥
    never_refused n e = true≢false (ap is_ok (sym answered ∙ e))

    -- the leaf has a copy, so its index is one of the table's
    pub leaf_small : (t : Added) → r ≡ Ok t → t.leaf < point_limit
    leaf_small t e =
        let j = t.leaf in
        let at : admits.leaf_index ≡ j = ap leaf_of (sym answered ∙ e) in
        let C = D A.channels A.capacity A.share A.world A.marks A.point A.state A.is_written in
        let (q, w) = in_table A.channels A.capacity x.1.table x.1.tree x.1.free j C.state.reachable.sound (omega (arith, rw at at (admits.one_more j), is_same j)) in
        C.state.reachable.sound.inside j q w

-- what the tree's add asks: a tree with fewer copies than its capacity is below its total
pub seen_room : (tree : RCFTree) (a : NodeStore) (points : List (List Float)) (i n : ℕ) (path : List (List ℕ)) (f : Found) → SomeAdmits tree a points i path f n → SomeSeen tree a points i path f × (tree.total ≡ total_limit → ⊥)
seen_room tree a points i n path f A = (some_seen A.state A.is_written A.seen, λ e. omega (arith, e, total_is A.state, A.room, A.state.limits.3))

-- ---- THE DELETE
module _ (d c : ℕ) (s : Float) (t : Deleted) where
  abbrev OnlyDeleted : Answer (whole d) × World (whole d) → Type 0
  OnlyDeleted x = ◌≡◌ {A = Result Deleted Refusal} (Ok t) (delete_says d (header_of d c s x.1) x.0) → t.tree ≡ header_of d c s x.1

  tree_deleted : (h : RCFTree) (k : ℕ) → ◌≡◌ {A = Result Deleted Refusal} (Ok t) (deleted_by h k) → t.tree ≡ h
  tree_deleted h k e = let same : t ≡ record { tree = h; leaf = k } = cc in ap (λ (y : Deleted). y.tree) same

  only_deleted : (W : World (whole d)) (i : ℕ) → OnlyDeleted (call (whole d) c W (delete i))
  only_deleted W i = by_delete (whole d) c OnlyDeleted W (λ m e. nonsense (cc)) i (λ k U _ e. tree_deleted _ _ e)

-- the copies of an index, read from the arrays
copies_at : {d c : ℕ} {s : Float} {W : World (whole d)} {tree : RCFTree} {a : NodeStore} {points : List (List Float)} {marks : List ℕ} → State d c s W tree a points marks → (j : ℕ) → j < point_limit
    → get_or a.copies j 0 ≡ held (whole d) (whole_laws d) c W.tree j
copies_at {d} {c} {s} {W} H j l = entry_of point_limit (count_in d c (cached_by s c) W.tree) _ (copies_are H) 0 j l ∙ go W.tree
  where
    go : (o : Option (Tree (whole d))) → count_in d c (cached_by s c) o j ≡ held (whole d) (whole_laws d) c o j
    go none = refl
    go (some t) = refl

module _ {tree : RCFTree} {a : NodeStore} {points : List (List Float)} {i : ℕ} (A : SomeCopy tree a points i) where
  -- the index that has a copy is written
  pub copy_written : (q : Reading) × (A.world.table i ≡ some q)
  copy_written = in_table A.channels A.capacity A.world.table A.world.tree A.world.free i A.state.reachable.sound A.copy

  -- so it is in every world that these arrays stand for: they have its copies
  pub written_there : {d c : ℕ} {s : Float} {W : World (whole d)} {marks : List ℕ} → State d c s W tree a points marks → (q : Reading) × (W.table i ≡ some q)
  written_there {d} {c} {s} {W} S =
      let inside = A.state.reachable.sound.inside i copy_written.0 copy_written.1 in
      in_table d c W.table W.tree W.free i S.reachable.sound (subst (λ (n : ℕ). 0 < n) (sym (copies_at A.state i inside) ∙ copies_at S i inside) A.copy)

module _ (tree : RCFTree) (a : NodeStore) (points : List (List Float)) (i : ℕ) (r : Result Deleted Refusal) (b : NodeStore) (D : SeenDeleted tree a points i r b) (A : SomeCopy tree a points i) where
  pub leaf_deleted : (t : Deleted) → r ≡ Ok t → DeletesLeaf tree a points i t.tree b
  leaf_deleted t e d c s W marks S =
      let C = D d c s W marks _ S (written_there A S).1 in
      record { tree_is = only_deleted d c s t W i (sym e ∙ C.answer); state = C.state }

  pub always_held : (n : Refusal) → r ≡ Err n → ⊥
  always_held n e =
      let C = D A.channels A.capacity A.share A.world A.marks _ A.state (copy_written A).1 in
      let E = delete_admits (whole A.channels) (whole_laws A.channels) A.capacity A.world.table A.world.tree A.world.free i A.state.reachable.sound A.copy in
      let y : r ≡ deleted_by _ i = C.answer ∙ ap (delete_says A.channels _) E.answer in
      true≢false (ap is_ok (sym y ∙ e))
