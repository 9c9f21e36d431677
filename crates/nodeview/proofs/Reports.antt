-- A report by its steps: each refusal, what the walk and the rows are told of a state, what the walk leaves, and the rows as the report's. Assumes nothing.
use mathlib.Core.Path.{◌≡◌, refl, sym, ap, ◌∙◌}
use mathlib.Core.Bool.{true, false, true≢false}
use mathlib.Core.Option.{Option, none, some}
use mathlib.Core.List.{List, ◌++◌, map}
use Prim.Native.Nat.{ℕ, ◌≤◌, ◌<◌}
use native.Mathlib.Omega.{arith}
use lib.Dec.{eqb}
use lib.ListN.{length, drop, take-append-drop}
use lib.Ieee.{Float}
use borrow.Author.Tests.{lt-ltb, le-ltb}
use Rattle.limits.specs.Limits.{width, capacity_limit}
use Rattle.readings.proofs.Tests.{yes}
use Rattle.cuttree.specs.Tree.{Tree, walk}
use Rattle.cuttree.specs.Run.{World}
use Rattle.cuttree.proofs.Tests.{by-test, cond_true, cond_false}
use Rattle.wholetree.specs.Reading.{Reading, padded, reading}
use Rattle.wholetree.specs.Whole.{whole, all_coordinates}
use Rattle.wholetree.proofs.Readings.{tab_length, padded_length, reading_row}
use Rattle.layout.specs.Stands.{trail}
use Rattle.pointstore.specs.Puts.{point_checked}
use Rattle.refusals.specs.declared.Refusal.{Refusal}
use Rattle.refusals.specs.declared.Refusal.TheVariants as Why
use Rattle.std.specs.Prelude.{Result, Ok, Err, is_ok}
use Rattle.walk.specs.Walks.{Walks, Walked}
use Rattle.boxstore.specs.Boxed.{Boxed}
use Rattle.rowboxes.specs.Rows.{PaddedRow, PaddedBoxes}
use Rattle.treestore.specs.Arrays.{NodeStore}
use Rattle.randomcuttree.specs.declared.RCFTree.{RCFTree}
use Rattle.randomcuttree.specs.State.{State}
use Rattle.randomcuttree.proofs.Parts.{dimensions_are, capacity_is, cached_is, cached_few}
use Rattle.randomcuttree.proofs.Given.{stored, walks_of, boxed, table_padded, boxes_padded as slots-padded}
use Rattle.randomcuttree.proofs.Calls.{no_tree}
use Rattle.nodeview.specs.Report.{ReportRefusal, few_rows, tree_empty, coordinate_count, bad_coordinate, refused, rows, row_at, rows_of, report_in, report_of}
use Rattle.nodeview.specs.Told.{refusal_told, numbers_of, report_says, rows_after, ReportRead, Reported}
use Rattle.nodeview.specs.Walking.{Chanced, Unchanced, tree_walked, Left, SomeWalking}
use Rattle.nodeview.specs.Writing.{Writing, SomeWriting, Writes}
use Rattle.nodeview.proofs.Chances.{narrow_point}

-- what is wrong with a given point, or nothing
abbrev bad : Refusal → Result ℕ Refusal
bad n = Err n

abbrev told_rows : ℕ → Result ℕ Refusal
told_rows n = Ok n

by_point : {P : Type 0} (d : ℕ) (xs : List Float) → (eqb (length xs) d ≡ false → point_checked d xs ≡ Err Why.CoordinateCount → P) → (eqb (length xs) d ≡ true → all_coordinates xs ≡ false → point_checked d xs ≡ Err Why.BadCoordinate → P)
    → (eqb (length xs) d ≡ true → all_coordinates xs ≡ true → point_checked d xs ≡ Ok tt → P) → P
unfolding point_checked
by_point d xs f g h = by-test (eqb (length xs) d) (λ a. by-test (all_coordinates xs) (λ b. h a b (rw (a, b))) (λ b. g a b (rw (a, b)))) (λ a. f a (rw a))

module _ {d c : ℕ} {s : Float} {W : World (whole d)} {tree : RCFTree} {a : NodeStore} {points : List (List Float)} {marks : List ℕ} {nodes : List (List ℕ)} {cuts : List Float} {copies : List ℕ} {boxes : List (List (List Float))}
    (H : State d c s W tree a points marks) (E : ReportRead a nodes cuts copies boxes) (xs : List Float) where
  abbrev Done : List (List ℕ) → Result ℕ Refusal → List (List ℕ) → Type 0
  Done lent r lent' = Reported (report_of d c W (length lent) xs) lent r lent'

  not_done : (lent : List (List ℕ)) (r : ReportRefusal) (n : Refusal) → report_of d c W (length lent) xs ≡ refused r → n ≡ refusal_told r → Done lent (Err n) lent
  not_done lent r n e f = record { answer = ap bad f ∙ sym (ap report_says e); after = sym (ap (λ x. rows_after x lent) e) }

  -- the path and the chances after it
  abbrev After : List (List ℕ) → List Float → List (List ℕ) → List Float → Type 0
  After path chances path' chances' = Left d c tree.cached boxes (tree_walked d W xs) (reading xs) path chances path' chances'

  not_walked : (path : List (List ℕ)) (chances : List Float) → tree_walked d W xs ≡ none → After path chances path chances
  not_walked path chances e = rw e (refl, refl)

  -- ---- the given coordinates
  module _ (r : Result Unit Refusal) (e : r ≡ point_checked tree.dimensions xs) where
    is : r ≡ point_checked d xs
    is = e ∙ ap (λ x. point_checked x xs) (dimensions_are H)

    module _ (x : Refusal) (h : r ≡ Err x) where
      given : (y : Refusal) → point_checked d xs ≡ Err y → x ≡ y
      given y f = let z : ◌≡◌ {A = Result Unit Refusal} (Err x) (Err y) = sym h ∙ is ∙ f in cc

      pub no_point : (lent : List (List ℕ)) → Done lent (Err x) lent
      no_point lent = by_point d xs
          (λ a f. not_done lent coordinate_count x (rw a refl) (given _ f))
          (λ a b f. not_done lent bad_coordinate x (rw (a, b) refl) (given _ f))
          (λ a b f. absurd (true≢false (ap is_ok (sym (is ∙ f) ∙ h))))

      pub unwalked : (path : List (List ℕ)) (chances : List Float) → After path chances path chances
      unwalked path chances = not_walked path chances (by_point d xs (λ a f. rw a refl) (λ a b f. rw (a, b) refl) (λ a b f. absurd (true≢false (ap is_ok (sym (is ∙ f) ∙ h)))))

    module _ (z : r ≡ Ok tt) where
      taken : (eqb (length xs) d ≡ true) × (all_coordinates xs ≡ true)
      taken = by_point d xs (λ a f. absurd (true≢false (ap is_ok (sym z ∙ is ∙ f)))) (λ a b f. absurd (true≢false (ap is_ok (sym z ∙ is ∙ f)))) (λ a b f. (a, b))

      -- the report is that of the tree, and its walk the tree's
      in_tree : (n : ℕ) (o : Option (Tree (whole d))) → W.tree ≡ o → report_of d c W n xs ≡ report_in d c o n (reading xs)
      in_tree n o T = rw (taken.0, taken.1, T) refl

      walked_tree : (o : Option (Tree (whole d))) → W.tree ≡ o → tree_walked d W xs ≡ o
      walked_tree o T = rw (taken.0, taken.1, T) refl

      module _ (h : tree.total ≡ 0) where
        pub empty : (lent : List (List ℕ)) → Done lent (Err Why.TreeEmpty) lent
        empty lent = not_done lent tree_empty _ (in_tree (length lent) none (no_tree H h)) refl

        pub empty_unwalked : (path : List (List ℕ)) (chances : List Float) → After path chances path chances
        empty_unwalked path chances = not_walked path chances (walked_tree none (no_tree H h))

      -- ---- a tree that holds something, and the query as a row
      module _ {t : Tree (whole d)} (T : W.tree ≡ some t) (point : List Float) (row : point ≡ padded width xs) where
        abbrev p : Reading
        p = reading xs

        point_is : point ≡ p.row
        point_is = row ∙ sym (reading_row xs (yes taken.1))

        walks : Walks d tree.capacity nodes cuts point tree.root t p
        walks = rw (capacity_is H, ← E.nodes_are, ← E.cuts_are) (walks_of H T p point point_is)

        boxes_stand : Boxed d tree.capacity tree.cached nodes points boxes t
        boxes_stand = rw (capacity_is H, cached_is H, ← E.nodes_are, ← E.boxes_are) (boxed H T)

        row_padded : PaddedRow d point
        row_padded = record { whole_row = ap length row ∙ padded_length width xs; rest = rw point_is (narrow_point d xs taken.0 taken.1) }

        boxes_padded : PaddedBoxes d boxes
        boxes_padded = rw E.boxes_are at (slots-padded H T)

        pub some_walking : (tree.capacity ≤ capacity_limit) × SomeWalking tree.dimensions tree.capacity tree.cached nodes cuts boxes point tree.root
        some_walking = (
          rw (capacity_is H) H.limits.3,
          rw (dimensions_are H) (record {
            tree = t;
            reading = p;
            points = points;
            walks = walks;
            boxed = boxes_stand;
            narrow = H.limits.1;
            point_padded = row_padded;
            boxes_padded = boxes_padded;
          }),
        )

        -- ---- its walk
        module _ (path : List (List ℕ)) (n : ℕ) (w : (d : ℕ) (t : Tree (whole d)) (p : Reading) → Walks d tree.capacity nodes cuts point tree.root t p → Walked d tree.capacity path n t p) where
          walked : Walked d c path n t p
          walked = rw (capacity_is H) at (w d t p walks)

          pub walk_left : (before : List (List ℕ)) (chances chances' : List Float) → drop n path ≡ drop n before → Chanced tree.cached boxes point path n chances' → Unchanced tree.cached path n chances chances' → After before chances path chances'
          walk_left before chances chances' e f g = rw (walked_tree (some t) T) (record {
            path_is = sym (take-append-drop n path) ∙ ap (λ (l : List (List ℕ)). l ++ drop n path) walked.is_trail ∙ ap (λ (l : List (List ℕ)). trail d c t p ++ l) e ∙ ap (λ (m : ℕ). trail d c t p ++ drop m before) walked.count;
            chanced = rw (point_is, walked.count) at f;
            unchanced = rw walked.count at g;
          })

          pub too_few : (lent : List (List ℕ)) → length lent < n → Done lent (Err Why.FewRows) lent
          too_few lent h = not_done lent few_rows _ (in_tree (length lent) (some t) T ∙ cond_true _ _ _ (lt-ltb (length lent) (walk (whole d) t p) (omega (arith, walked.count)))) refl

          module _ (lent : List (List ℕ)) (room : n ≤ length lent) where
            writing : Writing d tree.capacity tree.cached nodes copies points boxes path n point t p
            writing = rw (capacity_is H, cached_is H) (record {
              cuts = cuts;
              few = omega (arith, cached_few s c, H.limits.2);
              stored = rw (E.nodes_are, E.cuts_are, E.copies_are) at (stored H T);
              boxed = rw (capacity_is H, cached_is H) at boxes_stand;
              walked = walked;
              row = point_is;
            })

            pub some_writing : SomeWriting tree.dimensions tree.capacity tree.cached nodes copies points boxes path n point lent
            some_writing = rw (dimensions_are H) (record {
              tree = t;
              reading = p;
              writing = writing;
              narrow = H.limits.1;
              point_padded = row_padded;
              table_padded = table_padded H;
              boxes_padded = boxes_padded;
              room = room;
            })

            pub told : (lent' : List (List ℕ)) → Writes tree.capacity tree.cached nodes copies points boxes path n point lent lent' → Done lent (Ok n) lent'
            told lent' g =
                let e : report_of d c W (length lent) xs ≡ rows (rows_of d c t p) = in_tree (length lent) (some t) T ∙ cond_false _ _ _ (le-ltb (length lent) (walk (whole d) t p) (omega (arith, walked.count))) in
                let l : length (rows_of d c t p) ≡ n = tab_length (walk (whole d) t p) (row_at d c t p) ∙ sym walked.count in
                record {
                  answer = ap told_rows (sym l) ∙ sym (ap report_says e);
                  after = rw (capacity_is H) at (g d t p writing) ∙ sym (ap (λ x. rows_after x lent) e ∙ ap (λ x. map numbers_of (rows_of d c t p) ++ drop x lent) l);
                }
