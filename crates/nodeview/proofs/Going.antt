-- The loop when m rows are written: those rows, and the box of the node that it comes from unless that is at hand, whichever tree stands in the arrays; where it starts, the way on, and its end. Assumes nothing.
use mathlib.Core.Path.{◌≡◌, refl, sym, ap, ◌∙◌}
use mathlib.Core.Bool.{false, cond, ◌||◌}
use mathlib.Core.List.{List, [], ◌∷◌, ◌++◌}
use Prim.Native.Nat.{ℕ, ◌+◌, ◌-◌, ◌≤◌, ◌<◌}
use native.Mathlib.Numerals.{add-one}
use native.Mathlib.Omega.{arith}
use lib.Dec.{leb, ltb, ltb→lt, nltb→le}
use lib.ListN.{length, get_or, set, drop, length-set}
use lib.Seq.{drop-set-lt}
use lib.Ieee.{Float, nan, binary64, to_bits}
use Rattle.limits.specs.Limits.{width}
use Rattle.readings.specs.Number.{nought}
use Rattle.readings.proofs.Tests.{yes, no}
use Rattle.cut.specs.Laws.{Readings}
use Rattle.cut.specs.Sums.{one}
use Rattle.boundingbox.specs.declared.BoundingBox.{BoundingBox}
use Rattle.probability.specs.Probability.{probability}
use Rattle.cuttree.specs.Tree.{Tree, walk, ending}
use Rattle.cuttree.proofs.Tests.{by-test, cond_true, cond_false}
use Rattle.cuttree.specs.Walk.{sub}
use Rattle.wholetree.specs.Reading.{Reading, same_row}
use Rattle.wholetree.specs.Whole.{whole, tab}
use Rattle.wholetree.proofs.Boxes.{tree_box}
use Rattle.wholetree.proofs.Draws.{are_readings_lem}
use Rattle.layout.specs.Slots.{field}
use Rattle.layout.proofs.Rows.{apart_once}
use Rattle.walk.specs.Walks.{Walked}
use Rattle.nodestore.specs.Rows.{mass_at}
use Rattle.boxstore.specs.Boxed.{SomeBoxed}
use Rattle.boxstore.specs.Grown.{BoxOf}
use Rattle.boxstore.specs.Written.{low_in, high_in}
use Rattle.branchboxes.specs.Pairs.{PairBox}
use Rattle.branchboxes.proofs.Walks as Walks
use Rattle.nodeview.specs.Report.{chance, row_at}
use Rattle.nodeview.specs.Told.{numbers_of}
use Rattle.nodeview.specs.Walking.{Chanced}
use Rattle.nodeview.specs.Writing.{Writing, Writes}
use Rattle.nodeview.proofs.Fronts.{map_tab, front, front_next}
use Rattle.nodeview.proofs.Nodes as Nodes

module _ (c k : ℕ) (nodes : List (List ℕ)) (copies : List ℕ) (points : List (List Float)) (boxes : List (List (List Float))) (path : List (List ℕ)) (len : ℕ) (point : List Float) where
  abbrev In : (d : ℕ) → Tree (whole d) → Reading → Type 0
  In d t p = Writing d c k nodes copies points boxes path len point t p

  -- the numbers of the row of height m
  abbrev numbers : (d : ℕ) → Tree (whole d) → Reading → ℕ → List ℕ
  numbers d t p m = numbers_of (row_at d c t p m)

  pub record Going (m : ℕ) (b : BoundingBox) (lent rows : List (List ℕ)) : Type 0 where
    pub some : 0 < m
    pub within : m ≤ len
    pub room : len ≤ length lent
    pub long : length rows ≡ length lent
    pub box : k ≤ field path (len - m) 0 → field path (len - m) 0 < c → BoxOf c k (field path (len - m) 0) nodes points boxes b
    pub written : (d : ℕ) (t : Tree (whole d)) (p : Reading) → In d t p → rows ≡ front (numbers d t p) m lent

  -- at the branch of height m, the node below it on the walk and that one's sibling; c' is the capacity too
  module _ {d : ℕ} {t : Tree (whole d)} {p : Reading} (w : In d t p) (m : ℕ) (z : 0 < m) (h : m < len) (c' : ℕ) (e : c' ≡ c) (below : ℕ) (f : below ≡ field path (len - m) 0) (side : ℕ) (g : side ≡ field path (len - m) 1) where
    pub both_stand : SomeBoxed c' k below nodes points boxes × SomeBoxed c' k side nodes points boxes
    both_stand = rw e (Walks.both_stand path p w.boxed (apart_once d c t w.stored.apart) w.walked.count w.walked.is_trail m z h below f side g)

    -- the box of the node below, where it is not at hand
    pub below_box : (b : BoundingBox) → (k ≤ field path (len - m) 0 → field path (len - m) 0 < c → BoxOf c k (field path (len - m) 0) nodes points boxes b)
        → (leb c' below || ltb below k) ≡ false → BoxOf c' k below nodes points boxes b
    below_box b B = rw e (Walks.under_box path p w.boxed (apart_once d c t w.stored.apart) w.walked.count w.walked.is_trail m z h below f side g b B)

    -- the branch's own
    pub branch_box : (o : ℕ) → o ≡ field path (len - 1 - m) 0 → (b : BoundingBox) → PairBox c' k below side nodes points boxes b → BoxOf c k o nodes points boxes b
    branch_box o n b F = Walks.branch_box path p w.boxed (apart_once d c t w.stored.apart) w.walked.count w.walked.is_trail m z h below f side g o n b (rw e at F)

  -- box and query are coordinates
  pub box_readings : (i m : ℕ) → i + m + 1 ≡ len → (o : ℕ) → o ≡ field path i 0 → (b : BoundingBox) → BoxOf c k o nodes points boxes b → {d : ℕ} {t : Tree (whole d)} {p : Reading} → In d t p → Readings b.min_values b.max_values point width
  box_readings i m e o f b B {d} {t} {p} w = let a = Nodes.node_box w i m e o f b B in rw (a.low, a.high, w.row) (are_readings_lem (tree_box d (sub (whole d) t m p)) p)

  -- THE LOOP: its start, when the row of the leaf is written, whose point index is j and whose id is o
  module _ (lent : List (List ℕ)) (room : len ≤ length lent) (some : 0 < len) (x : List ℕ) where
    pub going_starts : (i : ℕ) → i + 0 + 1 ≡ len → (o : ℕ) → o ≡ field path i 0 → (j : ℕ) → ((d : ℕ) (t : Tree (whole d)) (p : Reading) → Walked d c path len t p → j ≡ (ending (whole d) t p).index)
        → (y : ℕ) → y ≡ mass_at c nodes copies o → x ≡ o ∷ i ∷ y ∷ to_bits binary64 (cond (same_row (get_or points j []) point) nought one) ∷ []
        → (b : BoundingBox) → {d : ℕ} {t : Tree (whole d)} {p : Reading} → In d t p → Going 1 b (set lent 0 x) (set lent 0 x)
    unfolding tab
    going_starts i e o f j l y g r b u = record {
      some = omega arith;
      within = some;
      room = omega (arith, length-set lent 0 x);
      long = refl;
      box = λ _ n. absurd (omega (arith, Nodes.leaf_large u (len - 1) 0 (omega arith) _ refl refl));
      written = λ d t p w.
          ap (set lent 0) (r ∙ Nodes.row_is w i 0 e o f y _ g (Nodes.leaf_chance w j (l d t p w.walked))) ∙ front_next [] (numbers d t p) 0 lent (omega arith)
          ∙ ap (λ y. numbers d t p 0 ∷ y) (sym (drop-set-lt 1 lent 0 x (omega arith)));
    }

    pub going_ends : (m : ℕ) (b : BoundingBox) (rows : List (List ℕ)) → Going m b (set lent 0 x) rows → len ≤ m → Writes c k nodes copies points boxes path len point lent rows
    going_ends m b rows G h d t p w =
        let e : m ≡ walk (whole d) t p = omega (arith, G.within, w.walked.count) in
        let l : m ≡ len = omega (arith, G.within) in
        G.written d t p w
        ∙ ap (λ y. tab m (numbers d t p) ++ y) (ap (λ n. drop n (set lent 0 x)) l ∙ drop-set-lt len lent 0 x some)
        ∙ ap (λ y. y ++ drop len lent) (ap (λ n. tab n (numbers d t p)) e ∙ sym (map_tab numbers_of (walk (whole d) t p) (row_at d c t p)))

  -- the way on by the row of the branch of height m, whose id is o, o' too, and whose box is b' unless it is cached
  module _ (chances : List Float) (K : Chanced k boxes point path len chances) (m : ℕ) (b : BoundingBox) (lent rows : List (List ℕ)) (G : Going m b lent rows) (h : m < len) (i : ℕ) (e : i + m + 1 ≡ len) (o' : ℕ) (f' : o' ≡ field path i 0) (b' : BoundingBox) (B : k ≤ o' → BoxOf c k o' nodes points boxes b') where
    chance_is : (v : Float) → v ≡ cond (ltb o' k) (get_or chances i nan) (probability b'.min_values b'.max_values point width) → {d : ℕ} {t : Tree (whole d)} {p : Reading} → In d t p → v ≡ chance d c (sub (whole d) t m p) p
    chance_is v r {d} {t} {p} w = r ∙ by-test (ltb o' k)
        (λ x.
        let l = ltb→lt o' k (yes x) in
        cond_true _ _ _ x ∙ rw (← f') at (K i (omega (arith, G.some)) (omega (arith, f'))) ∙ Nodes.chance_at_lem w i m e G.some (record { min_values = low_in boxes o'; max_values = high_in boxes o' }) (Nodes.cached_at w i m e o' f' l _ refl refl))
        (λ x. cond_false _ _ _ x ∙ Nodes.chance_at_lem w i m e G.some b' (Nodes.node_box w i m e o' f' b' (B (nltb→le o' k (no x)))))

    pub going_on : (o : ℕ) → o ≡ field path i 0 → (y : ℕ) → y ≡ mass_at c nodes copies o → (v : Float) → v ≡ cond (ltb o' k) (get_or chances i nan) (probability b'.min_values b'.max_values point width)
        → (x : List ℕ) → x ≡ o ∷ i ∷ y ∷ to_bits binary64 v ∷ [] → Going (m + 1) b' lent (set rows m x)
    going_on o f y g v q x r =
        let row : len - (m + 1) ≡ i = omega arith in
        record {
          some = omega arith;
          within = omega arith;
          room = G.room;
          long = length-set rows m x ∙ G.long;
          box = rw (row, ← f') (λ l _. B l);
          written = λ d t p w. rw (add-one m, G.written d t p w, r ∙ Nodes.row_is w i m e o f y v g (chance_is v q w)) (front_next [] (numbers d t p) m lent (omega (arith, G.room)));
        }
