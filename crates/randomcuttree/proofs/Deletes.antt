-- A delete by its steps: each refusal, and one copy less. Assumes nothing.
use Rattle.refusals.specs.declared.Refusal.{Refusal}
use Rattle.refusals.specs.declared.Refusal.TheVariants as Why
use Rattle.std.specs.Prelude.{Result, Err}
use mathlib.Core.Path.{◌≡◌, refl, sym, ap, ◌∙◌, subst}
use mathlib.Core.Bool.{true, false, not}
use mathlib.Core.Option.{Option, none, some}
use mathlib.Core.List.{List, []}
use Prim.Native.Nat.{ℕ, ◌+◌, ◌-◌, ◌≤◌, ◌<◌}
use native.Mathlib.Omega.{arith}
use lib.ListN.{get_or}
use lib.Ieee.{Float}
use borrow.Author.Tests.{le-leb, lt-leb}
use Rattle.limits.specs.Limits.{point_limit}
use Rattle.cuttree.specs.Tree.{Tree, ending, forget}
use Rattle.cuttree.specs.Run.{World, Answer, refused, deleted, index_above, never_written, tree_empty, not_held, delete, call, with_point, leave, total_of}
use Rattle.cuttree.proofs.Tests.{cond_true, cond_false}
use Rattle.cuttree.proofs.Copies.{mass_forget}
use Rattle.wholetree.specs.Reading.{Reading}
use Rattle.wholetree.specs.Whole.{whole}
use Rattle.treestore.specs.declared.Edited.{Edited}
use Rattle.treestore.specs.declared.Found.{Found}
use Rattle.treestore.specs.Arrays.{NodeStore}
use Rattle.treestore.specs.Finds.{Finds, FoundIn}
use Rattle.treestore.specs.Edits.{Walking, SomeHeld, Forgets}
use Rattle.randomcuttree.specs.declared.RCFTree.{RCFTree}
use Rattle.randomcuttree.specs.declared.Deleted.{Deleted}
use Rattle.randomcuttree.specs.State.{store_header, cached_by, State, header_of, headed}
use Rattle.randomcuttree.specs.Answers.{Called, deleted_by, delete_says}
use Rattle.randomcuttree.proofs.Reaches.{reachable_call}
use Rattle.randomcuttree.proofs.Parts.{total_is}
use Rattle.randomcuttree.proofs.Calls as Calls

module _ {d c : ℕ} {s : Float} {W : World (whole d)} {tree : RCFTree} {a : NodeStore} {points : List (List Float)} {marks : List ℕ} (H : State d c s W tree a points marks) (i : ℕ) where
  -- the call has this answer and leaves these arrays
  abbrev Done : Result Deleted Refusal → NodeStore → Type 0
  Done r b = Called d c s (delete_says d) (call (whole d) c W (delete i)) r b points marks

  refusing : (y : Answer (whole d)) (r : Result Deleted Refusal) → call (whole d) c W (delete i) ≡ (y, W) → r ≡ delete_says d (header_of d c s W) y → Done r a
  refusing = Calls.unchanged H (delete_says d) (call (whole d) c W (delete i))

  pub above : point_limit ≤ i → Done (Err Why.IndexAbove) a
  above l = refusing (refused index_above) _ (cond_true _ _ _ (le-leb point_limit i l)) refl

  module _ (l : i < point_limit) where
    -- what is asked of a written index
    asked : (o : Option Reading) → W.table i ≡ o → call (whole d) c W (delete i) ≡ with_point (whole d) W o (λ p. leave (whole d) W W.tree p)
    asked o e = cond_false _ _ _ (lt-leb point_limit i l) ∙ ap (λ (x : Option Reading). with_point (whole d) W x (λ p. leave (whole d) W W.tree p)) e

    pub blank : get_or marks i 0 ≡ 0 → Done (Err Why.NeverWritten) a
    blank m = refusing (refused never_written) _ (asked none (Calls.unwritten H i l m)) refl

  -- ---- an index that is written
  module _ {p : Reading} (P : W.table i ≡ some p) where
    m : i < point_limit
    m = H.reachable.sound.inside i p P

    leaving : (o : Option (Tree (whole d))) → W.tree ≡ o → call (whole d) c W (delete i) ≡ leave (whole d) W o p
    leaving o T = asked m (some p) P ∙ ap (λ x. leave (whole d) W x p) T

    pub empty : tree.total ≡ 0 → Done (Err Why.TreeEmpty) a
    empty n = refusing (refused tree_empty) _ (leaving none (Calls.no_tree H n)) refl

    -- ---- the walk, in a tree that holds something
    module _ (some_held : tree.total ≡ 0 → ⊥) where
      abbrev t : Tree (whole d)
      t = (Calls.a_tree H some_held).0

      T : W.tree ≡ some t
      T = (Calls.a_tree H some_held).1

      module _ {before path : List (List ℕ)} {f : Found} (F : Finds (store_header tree) a.nodes a.cuts points i before f path) where
        found_in : FoundIn d c t p before f path
        found_in = Calls.found_in H T m P F

        walking : Walking d c (cached_by s c) t W.free p (header_of d c s W).root (header_of d c s W).manager a points path f.walk f.leaf (get_or points i [])
        walking = Calls.walking H T m P F

        fewer : tree.total ≡ total_of (whole d) (forget (whole d) p t) + 1
        fewer = omega (arith, total_is H ∙ ap (total_of (whole d)) T, mass_forget (whole d) p t walking.stored.filled)

        pub not_held_lem : f.held ≡ false → Done (Err Why.NotHeld) a
        not_held_lem g = refusing (refused not_held) _ (leaving (some t) T ∙ cond_true _ _ _ (ap not (sym found_in.held_is ∙ g))) refl

        module _ (g : f.held ≡ true) where
          pub held : SomeHeld (store_header tree) a points path f.walk f.leaf (get_or points i [])
          held = subst (λ (x : RCFTree). SomeHeld (store_header x) a points path f.walk f.leaf (get_or points i [])) (sym H.header_is)
              (record { tree = t; free = W.free; reading = p; walking = walking; held = sym found_in.held_is ∙ g })

          pub one_less : (e : Edited) (b : NodeStore) → Forgets (store_header tree) a points path f.walk f.leaf (get_or points i []) e b
              → (header : RCFTree) → header ≡ headed tree e.root (tree.total - 1) e.manager → Done (deleted_by header f.leaf) b
          one_less e b G header h =
              let left = subst (λ (x : RCFTree). Forgets (store_header x) a points path f.walk f.leaf (get_or points i []) e b) H.header_is G t W.free p walking (sym found_in.held_is ∙ g) in
              Calls.changed H (delete_says d) (call (whole d) c W (delete i)) (deleted (ending (whole d) t p).index) _ e (tree.total - 1) header b (deleted_by header f.leaf)
              (leaving (some t) T ∙ cond_false _ _ _ (ap not (sym found_in.held_is ∙ g))) (ap (deleted_by header) found_in.leaf_is) h (omega (arith, fewer)) left refl (reachable_call d c H.limits.0 H.limits.1 W (delete i) H.reachable)
