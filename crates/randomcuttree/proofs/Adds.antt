-- An add by its steps: each refusal, the first leaf, a copy more, and a new value. Assumes nothing.
use Rattle.refusals.specs.declared.Refusal.{Refusal}
use Rattle.refusals.specs.declared.Refusal.TheVariants as Why
use Rattle.std.specs.Prelude.{Result, Err}
use mathlib.Core.Path.{◌≡◌, refl, sym, ap, ◌∙◌, subst}
use mathlib.Core.Bool.{Bool, true, false}
use mathlib.Core.Option.{Option, none, some}
use mathlib.Core.List.{List, []}
use Prim.Native.Nat.{ℕ, ◌+◌, ◌-◌, ◌≤◌, ◌<◌}
use native.Mathlib.Omega.{arith}
use lib.Dec.{eqb, leb}
use lib.ListN.{length, get_or}
use lib.Ieee.{Float}
use borrow.Author.Tests.{le-leb, lt-leb, eq-eqb, ne_eqb, lt-ltb, le-ltb, leb-false, eqb-false}
use Rattle.limits.specs.Limits.{point_limit, total_limit}
use Rattle.intervalstoremanager.specs.Stack.{next}
use Rattle.cuttree.specs.Tree.{Tree, leaf, branch, id, ending, found, walk, leaves, mass, add_copy}
use Rattle.cuttree.specs.Setting.{below}
use Rattle.cuttree.specs.Run.{World, add, call, refuse, with_point, enter, with_tree, total_of, Answer, refused, added, index_above, never_written, full, few_words}
use Rattle.cuttree.proofs.Tests.{by_cond, cond_true, cond_false}
use Rattle.cuttree.proofs.Copies.{mass_copy, mass_insert}
use Rattle.cuttree.proofs.Room.{full_is, next_free, index_absent, at_none}
use Rattle.wholetree.specs.Reading.{Reading}
use Rattle.wholetree.specs.Whole.{whole}
use Rattle.wholetree.proofs.Laws.{whole_laws}
use Rattle.nodestore.specs.Stored.{Arrays, Reached, SomeReached}
use Rattle.boxstore.proofs.Copies.{copy_boxes}
use Rattle.treestore.specs.declared.Edited.{Edited}
use Rattle.treestore.specs.declared.Entered.{Entered}
use Rattle.treestore.specs.declared.Found.{Found}
use Rattle.treestore.specs.Arrays.{NodeStore, lent, arrays_of, EditDone}
use Rattle.treestore.specs.Finds.{Finds, FoundIn}
use Rattle.treestore.specs.Edits.{Walking}
use Rattle.treestore.specs.Enters.{Entering, SomeEntering, Enters}
use Rattle.treestore.proofs.Parts.{edit_done, no_boxes}
use Rattle.treestore.proofs.Removes.{reached, free_are, boxes_are}
use Rattle.randomcuttree.specs.declared.RCFTree.{RCFTree}
use Rattle.randomcuttree.specs.declared.Added.{Added}
use Rattle.randomcuttree.specs.State.{store_header, cached_by, State, header_of, headed}
use Rattle.randomcuttree.specs.Answers.{Called, added_by, add_says}
use Rattle.randomcuttree.proofs.Reaches.{reachable_call}
use Rattle.randomcuttree.proofs.Parts as Parts
use Rattle.randomcuttree.proofs.Given.{sound}
use Rattle.randomcuttree.proofs.Calls as Calls

-- a copy more leaves the root's id
copy_root : (d c : ℕ) (p : Reading) (t : Tree (whole d)) → id (whole d) c (add_copy (whole d) p t) ≡ id (whole d) c t
copy_root d c p (leaf i q n) = refl
copy_root d c p (branch b x l r) = by_cond (λ s. id (whole d) c s ≡ b) (below (whole d) x p) _ _ (λ _. refl) (λ _. refl)

module _ {d c : ℕ} {s : Float} {W : World (whole d)} {tree : RCFTree} {a : NodeStore} {points : List (List Float)} {marks : List ℕ} (H : State d c s W tree a points marks) (i : ℕ) where
  abbrev k : ℕ
  k = cached_by s c

  -- the call with these words has this answer and leaves these arrays
  abbrev Done : List ℕ → Result Added Refusal → NodeStore → Type 0
  Done ws r b = Called d c s (add_says d) (call (whole d) c W (add i ws)) r b points marks

  not_done : (ws : List ℕ) (y : Answer (whole d)) (r : Result Added Refusal) → call (whole d) c W (add i ws) ≡ (y, W) → r ≡ add_says d (header_of d c s W) y → Done ws r a
  not_done ws = Calls.unchanged H (add_says d) (call (whole d) c W (add i ws))

  done : (ws : List ℕ) (y : Answer (whole d)) (o : Option (Tree (whole d))) (v : List (ℕ × ℕ)) (e : Edited) (n : ℕ) (header : RCFTree) (b : NodeStore) (r : Result Added Refusal) → call (whole d) c W (add i ws) ≡ (y, with_tree (whole d) W o v) → r ≡ add_says d header y
      → header ≡ headed tree e.root n e.manager → n ≡ total_of (whole d) o → EditDone d c k o v e b → Done ws r b
  done ws y o v e n header b r f g h N L = Calls.changed H (add_says d) (call (whole d) c W (add i ws)) y (with_tree (whole d) W o v) e n header b r f g h N L refl (reachable_call d c H.limits.0 H.limits.1 W (add i ws) H.reachable)

  pub above : (ws : List ℕ) → point_limit ≤ i → Done ws (Err Why.IndexAbove) a
  above ws m = not_done ws (refused index_above) (Err Why.IndexAbove) (cond_true _ _ _ (le-leb point_limit i m)) refl

  module _ (m : i < point_limit) where
    abbrev then : List ℕ → Reading → Answer (whole d) × World (whole d)
    then ws p = refuse (whole d) W full (eqb (total_of (whole d) W.tree) total_limit) (enter (whole d) c W W.tree i p ws)

    pointed : (ws : List ℕ) (o : Option Reading) → W.table i ≡ o → call (whole d) c W (add i ws) ≡ with_point (whole d) W o (then ws)
    pointed ws o e = cond_false _ _ _ (lt-leb point_limit i m) ∙ ap (λ (x : Option Reading). with_point (whole d) W x (then ws)) e

    pub blank : (ws : List ℕ) → get_or marks i 0 ≡ 0 → Done ws (Err Why.NeverWritten) a
    blank ws e = not_done ws (refused never_written) (Err Why.NeverWritten) (pointed ws none (Calls.unwritten H i m e)) refl

  -- ---- an index that is written
  module _ {p : Reading} (P : W.table i ≡ some p) where
    m : i < point_limit
    m = H.reachable.sound.inside i p P

    pub at_limit : (ws : List ℕ) → tree.total ≡ total_limit → Done ws (Err Why.Full) a
    at_limit ws e = not_done ws (refused full) (Err Why.Full) (pointed m ws (some p) P ∙ cond_true _ _ _ (eq-eqb (total_of (whole d) W.tree) total_limit (sym (Parts.total_is H) ∙ e))) refl

    module _ (room : tree.total ≡ total_limit → ⊥) where
      entered : (ws : List ℕ) (o : Option (Tree (whole d))) → W.tree ≡ o → call (whole d) c W (add i ws) ≡ enter (whole d) c W o i p ws
      entered ws o e = pointed m ws (some p) P ∙ cond_false _ _ _ (ne_eqb (total_of (whole d) W.tree) total_limit (λ f. room (Parts.total_is H ∙ f))) ∙ ap (λ (x : Option (Tree (whole d))). enter (whole d) c W x i p ws) e

      -- ---- the first leaf
      pub first : (ws : List ℕ) → tree.total ≡ 0 → (header : RCFTree) (root : ℕ) (K : List ℕ) → header ≡ headed tree root 1 tree.manager → root ≡ i + tree.capacity
          → ((d c : ℕ) (nodes : List (List ℕ)) (cuts : List Float) (p : Reading) → Arrays d c nodes cuts a.copies none → Arrays d c nodes cuts K (some (leaf i p 1)))
          → Done ws (added_by header i 0) (lent a.nodes a.cuts K a.free a.boxes)
      first ws z header root K e f h =
          let N : W.tree ≡ none = Calls.no_tree H z in
          let A : a ≡ arrays_of d c k none W.free = subst (λ o. a ≡ arrays_of d c k o W.free) N H.arrays_are in
          done ws (added i 0) (some (leaf i p 1)) W.free (record { root = root; manager = tree.manager }) 1 header _ (added_by header i 0) (entered ws none N) refl e refl
          (edit_done d c k (some (leaf i p 1)) W.free root tree.manager _ (f ∙ ap (λ x. i + x) (Parts.capacity_is H)) (ap (λ (x : RCFTree). x.manager) H.header_is)
          (h d c a.nodes a.cuts p (record { rows = ap (λ (x : NodeStore). x.nodes) A; values = ap (λ (x : NodeStore). x.cuts) A; counts = ap (λ (x : NodeStore). x.copies) A })) (ap (λ (x : NodeStore). x.free) A)
          (ap (λ (x : NodeStore). x.boxes) A ∙ sym (no_boxes d c k p (leaf i p 1) refl)))

      -- ---- a tree that holds something
      module _ (some_held : tree.total ≡ 0 → ⊥) where
        abbrev t : Tree (whole d)
        t = (Calls.a_tree H some_held).0

        T : W.tree ≡ some t
        T = (Calls.a_tree H some_held).1

        module _ {before path : List (List ℕ)} {f : Found} (F : Finds (store_header tree) a.nodes a.cuts points i before f path) where
          found_in : FoundIn d c t p before f path
          found_in = Calls.found_in H T m P F

          walking : Walking d c k t W.free p (header_of d c s W).root (header_of d c s W).manager a points path f.walk f.leaf (get_or points i [])
          walking = Calls.walking H T m P F

          total_of_lem : tree.total ≡ mass (whole d) t
          total_of_lem = Parts.total_is H ∙ ap (total_of (whole d)) T

          light : mass (whole d) t ≤ total_limit - 1
          light = omega (arith, walking.stored.light, total_of_lem, room)

          pub total_low : tree.total ≤ total_limit - 1
          total_low = omega (arith, light, total_of_lem)

          -- ---- a copy more
          pub some_copied : SomeReached a.nodes a.copies path f.walk f.leaf (total_limit - 1)
          some_copied = record { channels = d; capacity = c; cuts = a.cuts; tree = t; reading = p; reached = reached walking; room = light }

          pub copied : (ws : List ℕ) → f.held ≡ true → (header : RCFTree) (N : List (List ℕ)) (K : List ℕ) → header ≡ headed tree tree.root (tree.total + 1) tree.manager
              → ((d c : ℕ) (cuts : List Float) (t : Tree (whole d)) (p : Reading) → Reached d c a.nodes cuts a.copies path f.walk f.leaf t p → Arrays d c N cuts K (some (add_copy (whole d) p t)))
              → Done ws (added_by header f.leaf 0) (lent N a.cuts K a.free a.boxes)
          copied ws g header N K e h =
              let boxes = copy_boxes d c k t p walking.once in
              done ws (added (ending (whole d) t p).index 0) (some (add_copy (whole d) p t)) W.free (record { root = tree.root; manager = tree.manager }) (tree.total + 1) header _ (added_by header f.leaf 0)
              (entered ws (some t) T ∙ cond_true _ _ _ (sym found_in.held_is ∙ g)) (ap (λ j. added_by header j 0) found_in.leaf_is) e (omega (arith, total_of_lem, mass_copy (whole d) p t))
              (edit_done d c k (some (add_copy (whole d) p t)) W.free tree.root tree.manager _
              (ap (λ (x : RCFTree). x.root) H.header_is ∙ walking.root_is ∙ sym (copy_root d c p t)) (ap (λ (x : RCFTree). x.manager) H.header_is) (h d c a.cuts t p (reached walking)) (free_are walking)
              (boxes_are walking ∙ sym boxes))

          -- ---- another value's leaf
          module _ (other : f.held ≡ false) where
            absent : found (whole d) t p ≡ false
            absent = sym found_in.held_is ∙ other

            full_as : (e v : Bool) → e ≡ eqb tree.manager.last_in_use 0 → e ≡ v → leb c (leaves (whole d) t) ≡ v
            full_as e v g h = full_is (whole d) c (whole_laws d) W.table t W.free (sound H.reachable T) ∙ ap (λ (x : RCFTree). eqb x.manager.last_in_use 0) (sym H.header_is) ∙ sym g ∙ h

            pub no_number : (ws : List ℕ) (e : Bool) → e ≡ eqb tree.manager.last_in_use 0 → e ≡ true → Done ws (Err Why.Full) a
            no_number ws e g h = not_done ws (refused full) (Err Why.Full) (entered ws (some t) T ∙ cond_false _ _ _ absent ∙ cond_true _ _ _ (full_as e true g h)) refl

            module _ (e : Bool) (empty : e ≡ eqb tree.manager.last_in_use 0) (some_left : e ≡ false) (ws : List ℕ) where
              pub too_few : length ws < f.walk → Done ws (Err Why.FewWords) a
              too_few g = not_done ws (refused few_words) (Err Why.FewWords) (entered ws (some t) T ∙ cond_false _ _ _ absent ∙ cond_false _ _ _ (full_as e false empty some_left)
                  ∙ cond_true _ _ _ (lt-ltb (length ws) (walk (whole d) t p) (omega (arith, g, found_in.walked.count)))) refl

              module _ (enough : f.walk ≤ length ws) where
                not_full : leaves (whole d) t < c
                not_full = leb-false c (leaves (whole d) t) (full_as e false empty some_left)

                entering : Entering d c k t W.free p (header_of d c s W).root (header_of d c s W).manager a points path f.walk f.leaf i ws (get_or points i [])
                entering =
                    let S = sound H.reachable T in
                    let fresh = next_free (whole d) c (whole_laws d) W.table t W.free S not_full in
                    let left : length W.free ≡ 0 → ⊥ = λ z. eqb-false tree.manager.last_in_use 0 (sym empty ∙ some_left) (ap (λ (x : RCFTree). x.manager.last_in_use) H.header_is ∙ z) in
                    record {
                      walking = walking;
                      absent = absent;
                      room = light;
                      some_free = omega (arith, left);
                      number_below = omega (arith, fresh.0);
                      number_fresh = fresh.1;
                      index_fresh = at_none (whole d) (λ n. n) t i (index_absent (whole d) c (whole_laws d) W.table t W.free S i p P absent);
                      index_small = m;
                      index_row = walking.row;
                      enough = enough;
                    }

                pub some_entering : SomeEntering (store_header tree) a points path f.walk f.leaf i ws (get_or points i [])
                some_entering = subst (λ (x : RCFTree). SomeEntering (store_header x) a points path f.walk f.leaf i ws (get_or points i [])) (sym H.header_is)
                    (record { tree = t; free = W.free; reading = p; entering = entering })

                pub inserted : (r : Entered) (b : NodeStore) → Enters (store_header tree) a points path f.walk f.leaf i ws (get_or points i []) r b
                    → (header : RCFTree) → header ≡ headed tree r.root (tree.total + 1) r.manager → Done ws (added_by header i r.words) b
                inserted r b h header g =
                    let left = subst (λ (x : RCFTree). Enters (store_header x) a points path f.walk f.leaf i ws (get_or points i []) r b) H.header_is h t W.free p entering in
                    done ws (added i (walk (whole d) t p)) _ _ (record { root = r.root; manager = r.manager }) (tree.total + 1) header b (added_by header i r.words)
                    (entered ws (some t) T ∙ cond_false _ _ _ absent ∙ cond_false _ _ _ (full_as e false empty some_left) ∙ cond_false _ _ _ (le-ltb (length ws) (walk (whole d) t p) (omega (arith, enough, found_in.walked.count))))
                    (ap (λ x. added_by header i x) left.1) g (omega (arith, total_of_lem, mass_insert (whole d) (next W.free) i p (λ m. get_or ws m 0) t)) left.0
