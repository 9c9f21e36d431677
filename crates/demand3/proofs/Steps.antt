-- A step of the code is the call on the world: its answer, and a state of the world after it. Assumes nothing.
use mathlib.Core.Path.{◌≡◌, sym, ap, ◌∙◌, subst}
use Prim.Native.Nat.{ℕ}
use lib.Ieee.{Float}
use Rattle.cuttree.specs.Run.{World, Call, put, add, delete, query, Query, copies_of, branch_of, box_of, Answer, call}
use Rattle.wholetree.specs.Whole.{whole}
use Rattle.pointstore.specs.declared.PointStore.{PointStore}
use Rattle.pointstore.specs.Puts.{Puts}
use Rattle.pointstore.proofs.Puts.{puts_are_calls}
use Rattle.treestore.specs.Arrays.{NodeStore}
use Rattle.randomcuttree.specs.declared.RCFTree.{RCFTree}
use Rattle.randomcuttree.specs.State.{State, header_of}
use Rattle.randomcuttree.specs.Answers.{header_added, header_deleted}
use Rattle.randomcuttree.proofs.Parts.{dimensions_are}
use Rattle.randomcuttree.proofs.Headers.{add_header, delete_header}
use Rattle.randomcuttree.proofs.Standing.{puts_keep}
use Rattle.demand3.specs.Heard.{heard_put, heard_add, heard_delete}
use Rattle.demand3.specs.Steps.{Kept, CallStep}
use Rattle.demand3.proofs.Heard.{heard_put_lem, heard_add_lem, heard_delete_lem}
use Rattle.demand3.proofs.Asked.{asked_is}
use Rattle.demand3.proofs.Sampled.{OfWorld, put_keeps}

-- d channels, capacity c, cached share s
module _ (d c : ℕ) (s : Float) where
  -- what is kept is a state of the world
  abbrev pub StateOf : World (whole d) → Kept → Type 0
  StateOf W x = State d c s W x.tree x.arrays x.table.points x.table.written

  -- what is kept may be told by equal parts
  with_parts : (W : World (whole d)) (tree tree' : RCFTree) (a : NodeStore) (table table' : PointStore) → tree' ≡ tree → table' ≡ table
      → State d c s W tree a table.points table.written → State d c s W tree' a table'.points table'.written
  with_parts W tree tree' a table table' e f S = rw (e, f) S

  -- what is kept is a state of the world, and its sample too
  abbrev pub Stands : World (whole d) → Kept → Type 0
  Stands W x = StateOf W x × OfWorld d c s W x x.sample

  query_leaves : (W : World (whole d)) (x : Kept) (q : Query) (a : Answer (whole d)) (y : Kept) → Stands W x → CallStep d x (query q) a y → Stands W y
  query_leaves W x (copies_of n) a y S e = subst (Stands W) (sym e.1) S
  query_leaves W x (branch_of n) a y S e = subst (Stands W) (sym e.1) S
  query_leaves W x (box_of n) a y S (r, e, told, same) = subst (Stands W) (sym same) S

  pub call_is : (W : World (whole d)) (x : Kept) (e : Call (whole d)) (a : Answer (whole d)) (y : Kept) → Stands W x → CallStep d x e a y → (a ≡ (call (whole d) c W e).0) × Stands (call (whole d) c W e).1 y
  call_is W x (put i xs) a y (S, B) (r, e, P, same) =
      let K = puts_keep d c s W x.tree x.arrays x.table.points x.table.written S in
      let D = puts_are_calls d c W i xs x.table.points x.table.written x.arrays.copies y.table.points y.table.written r K.0 (subst (λ (n : ℕ). Puts n x.arrays.copies i xs x.table.points x.table.written y.table.points y.table.written r) (dimensions_are S) P) in
      let after : StateOf (call (whole d) c W (put i xs)).1 y = rw (same.tree, same.arrays) (K.1 i xs y.table.points y.table.written r D) in
      (e ∙ ap (heard_put d) D.answer ∙ heard_put_lem d c W i xs, (after, put_keeps d c s W x y i xs r same D B))
  call_is W x (add i ws) a y (S, B) (r, e, D, header, same, bare, still) =
      let C = D d c s W S in
      let next : y.tree ≡ header_of d c s (call (whole d) c W (add i ws)).1 = header ∙ ap (λ t. header_added t r) S.header_is ∙ ap (header_added (header_of d c s W)) C.answer ∙ add_header d c s W i ws in
      (e ∙ ap (heard_add d) C.answer ∙ heard_add_lem d c W (header_of d c s) i ws, (with_parts _ _ _ _ _ _ next same C.state, subst (OfWorld d c s (call (whole d) c W (add i ws)).1 y) (sym still) tt))
  call_is W x (delete i) a y (S, B) (r, e, D, header, same, bare, still) =
      let C = D d c s W S in
      let next : y.tree ≡ header_of d c s (call (whole d) c W (delete i)).1 = header ∙ ap (λ t. header_deleted t r) S.header_is ∙ ap (header_deleted (header_of d c s W)) C.answer ∙ delete_header d c s W i in
      (e ∙ ap (heard_delete d) C.answer ∙ heard_delete_lem d c W (header_of d c s) i, (with_parts _ _ _ _ _ _ next same C.state, subst (OfWorld d c s (call (whole d) c W (delete i)).1 y) (sym still) tt))
  call_is W x (query q) a y S e = (asked_is d c s W x S.0 q a y e, query_leaves W x q a y S e)
