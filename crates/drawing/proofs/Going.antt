-- The loop before the node of height m: the cut that it has chosen, whichever tree stands in the arrays, and the ends of the node below unless its box is at hand; the node's own ends; and each way on or out. Assumes nothing.
use mathlib.Core.Path.{◌≡◌, refl, sym, ap, ◌∙◌, subst}
use mathlib.Core.Bool.{true, false, not}
use mathlib.Core.Logic.{◌⊎◌, ⊎_elim}
use mathlib.Core.List.{List, [], ◌∷◌}
use Prim.Native.Nat.{ℕ, ◌+◌, ◌-◌, ◌^◌, ◌≤◌, ◌<◌}
use native.Mathlib.Numerals.{add-one}
use native.Mathlib.Omega.{arith}
use lib.Dec.{T, leb, ltb}
use borrow.Author.Tests.{ltb-true, ltb-false, leb-false}
use lib.ListN.{get_or, take}
use lib.Ieee.{Float, binary32, nan_bits}
use Rattle.limits.specs.Limits.{width, capacity_limit, branch_limit}
use Rattle.boundingbox.specs.declared.BoundingBox.{BoundingBox}
use Rattle.cut.specs.declared.Separation.{Separation}
use Rattle.std.specs.Prelude.{Option, None}
use Rattle.std.specs.Prelude.{Some as Drawn}
use Rattle.cut.specs.Draw.{separation}
use Rattle.cut.specs.Laws.{Readings, Padded}
use Rattle.cuttree.specs.Tree.{Tree, id, ending}
use Rattle.cuttree.specs.Walk.{sub}
use Rattle.cuttree.proofs.Heights.{sub_leaf}
use Rattle.cuttree.proofs.Tests.{by-test}
use Rattle.wholetree.specs.Reading.{Reading}
use Rattle.wholetree.specs.Whole.{whole}
use Rattle.wholetree.proofs.Boxes.{tree_box}
use Rattle.wholetree.proofs.Draws.{ends_leaf, are_readings_lem}
use Rattle.layout.specs.Slots.{low_of, high_of, field}
use Rattle.layout.specs.Stands.{trail}
use Rattle.layout.proofs.Replaced.{in_sub}
use Rattle.layout.proofs.Trails.{path_node}
use Rattle.boxstore.specs.Grown.{BoxOf}
use Rattle.boxstore.specs.Above.{At}
use Rattle.boxstore.proofs.Standing.{boxed_in}
use Rattle.boxstore.proofs.Above.{cached_box, above_leaf}
use Rattle.rowboxes.specs.Rows.{PaddedRow, PaddedEnds, PaddedTable, PaddedBoxes, box_of}
use Rattle.drawing.specs.declared.Chosen.{Chosen}
use Rattle.drawing.specs.Choice.{ends_for, Numbered, none_chosen, chosen_at, chosen_by, highest_of}
use Rattle.drawing.specs.Drawing.{Drawing, SomeDrawing, Kept, holds_at}
use Rattle.drawing.proofs.Holding.{drawn_outside, held_above}
use Rattle.drawing.proofs.Choosing.{bits_back, bits_number, numbers_of, none_is, kept_to, numbered, chosen_on, kept_held}

module _ (c k channels : ℕ) (nodes : List (List ℕ)) (points : List (List Float)) (boxes : List (List (List Float))) (path : List (List ℕ)) (len leaf : ℕ) (words : List ℕ) (point : List Float) where
  abbrev In : (d : ℕ) → Tree (whole d) → Reading → Type 0
  In d t p = Drawing d c t p k nodes points boxes path len leaf words point

  abbrev Some : Type 0
  Some = SomeDrawing c k nodes points boxes path len leaf words point

  -- E is the box of the node of height m
  pub record BoxAt (m : ℕ) (E : List (List Float)) : Type 0 where
    pub padded : PaddedEnds channels E
    pub at_node : (d : ℕ) (t : Tree (whole d)) (p : Reading) → In d t p → At d c p t m (box_of E)

  pub leaf_box : Some → PaddedTable channels points → BoxAt 0 (get_or points leaf [] ∷ get_or points leaf [] ∷ [])
  leaf_box S P = let row = P leaf S.drawing.leaf_small in record {
    padded = record { two = refl; low = row; high = row };
    at_node = λ d t p D. record {
      low = D.leaf_row ∙ sym (ap (λ (x : Tree (whole d)). low_of d c x) (sub_leaf (whole d) p t) ∙ ends_leaf (ending (whole d) t p).value);
      high = D.leaf_row ∙ sym (ap (λ (x : Tree (whole d)). high_of d c x) (sub_leaf (whole d) p t) ∙ ends_leaf (ending (whole d) t p).value);
    };
  }

  -- what its draw asks and tells
  module _ (m : ℕ) (E : List (List Float)) (B : BoxAt m E) where
    pub readings : Some → Readings (get_or E 0 []) (get_or E 1 []) point width
    readings S =
        let D = S.drawing in
        let A = B.at_node S.channels S.tree S.reading D in
        rw (A.low, A.high, D.row) (are_readings_lem (tree_box S.channels (sub (whole S.channels) S.tree m S.reading)) S.reading)

    pub padded_rows : channels ≤ width → PaddedRow channels point → Padded (get_or E 0 []) (get_or E 1 []) point channels width
    padded_rows h R = record { fewer = h; low = B.padded.low.rest; high = B.padded.high.rest; point = R.rest }

    module _ (s : Option Separation) (X : s ≡ separation width (get_or E 0 []) (get_or E 1 []) point (get_or words m 0)) where
      pub drawn_in : (d : ℕ) (t : Tree (whole d)) (p : Reading) → In d t p → separation width (low_of d c (sub (whole d) t m p)) (high_of d c (sub (whole d) t m p)) p.row (get_or words m 0) ≡ s
      drawn_in d t p D = rw (← (B.at_node d t p D).low, ← (B.at_node d t p D).high, ← D.row) (sym X)

      pub is_numbered : Some → get_or words m 0 < 2 ^ 64 → Numbered s
      is_numbered S W = numbered S.channels c S.tree S.reading words m W s (drawn_in S.channels S.tree S.reading S.drawing)

  -- before the node of height m, which is no leaf
  pub record Turn (m : ℕ) (s : Chosen) (d : ℕ) (t : Tree (whole d)) (p : Reading) : Type 0 where
    pub chosen_is : s ≡ numbers_of (kept_to d c t p words m)
    pub outside : (j : ℕ) → 0 < j → j < m → holds_at d c t p j ≡ false

  pub record Going (m : ℕ) (X : List (List Float)) (s : Chosen) : Type 0 where
    pub some : 0 < m
    pub within : m ≤ len
    pub padded : PaddedEnds channels X
    pub box : k ≤ field path (len - m) 0 → field path (len - m) 0 < c → BoxOf c k (field path (len - m) 0) nodes points boxes (box_of X)
    pub turn : (d : ℕ) (t : Tree (whole d)) (p : Reading) → In d t p → Turn m s d t p

  -- the ends that are drawn from at the node of height m, whose number is node, where X' are kept on
  abbrev drawn_from : ℕ → List (List Float) → List (List Float)
  drawn_from node X' = ends_for (leb k node) node X' boxes

  pub record Ends (m node : ℕ) (X' : List (List Float)) : Type 0 where
    pub here : BoxAt m (drawn_from node X')
    pub padded : PaddedEnds channels X'
    pub own : k ≤ node → BoxOf c k node nodes points boxes (box_of X')

  node_in : (i m : ℕ) → i + m + 1 ≡ len → (node : ℕ) → node ≡ field path i 0 → {d : ℕ} {t : Tree (whole d)} {p : Reading} → In d t p → node ≡ id (whole d) c (sub (whole d) t m p)
  node_in i m e node N {d} {t} {p} D = N ∙ path_node d c p path t (subst (λ (n : ℕ). take n path ≡ trail d c t p) D.count D.is_trail) i m (omega (arith, D.count))

  -- the leaf's id is from the capacity on
  leaf_large : {d : ℕ} {t : Tree (whole d)} {p : Reading} → In d t p → c ≤ field path (len - 1) 0
  leaf_large {d} {t} {p} D = rw (node_in (len - 1) 0 (omega (arith, D.count)) _ refl D, sub_leaf (whole d) p t) (omega arith)

  pub going_starts : Some → PaddedRow channels point → PaddedTable channels points → get_or words 0 0 < 2 ^ 64 → (s : Chosen) → s ≡ chosen_by none_chosen 0 (separation width (get_or points leaf []) (get_or points leaf []) point (get_or words 0 0))
      → Going 1 (point ∷ point ∷ []) s
  going_starts S R P W s e =
      let B = leaf_box S P in
      record {
        some = omega arith;
        within = omega (arith, S.drawing.count);
        padded = record { two = refl; low = R; high = R };
        box = λ _ n. absurd (omega (arith, leaf_large S.drawing));
        turn = λ d t p D. record {
          chosen_is = e ∙ ap (λ (x : Chosen). chosen_by x 0 (separation width (get_or points leaf []) (get_or points leaf []) point (get_or words 0 0))) (none_is d) ∙ chosen_on d c t p words 0 W _ (drawn_in 0 _ B _ refl d t p D);
          outside = λ j a b. absurd (omega arith);
        };
      }

  module _ (m : ℕ) (X : List (List Float)) (s : Chosen) (G : Going m X s) where
    pub chosen_number : Some → T (not (nan_bits binary32 s.bits))
    chosen_number S = rw (G.turn S.channels S.tree S.reading S.drawing).chosen_is (bits_number (kept_to S.channels c S.tree S.reading words m).1.value)

    -- past the root
    pub kept_end : len ≤ m → (d : ℕ) (t : Tree (whole d)) (p : Reading) → In d t p → Kept d c t p words len (highest_of s len)
    kept_end h d t p D =
        let g = G.turn d t p D in
        let z : m ≡ len = omega (arith, G.within) in
        rw (g.chosen_is, z) (record {
          height_is = refl;
          channel_is = refl;
          value_is = bits_back (kept_to d c t p words len).1.value;
          above_leaf = omega (arith, G.some);
          top_most = omega arith;
          hold = λ j a b. absurd (omega arith);
          hold_not = λ j a b. g.outside j a (omega arith);
        })

    -- the node's own ends are its slot where it is cached, else those worked out
    module _ (l : m < len) (node : ℕ) (N : node ≡ field path (len - 1 - m) 0) where
      module _ {d : ℕ} {t : Tree (whole d)} {p : Reading} (D : In d t p) where
        is_node : node ≡ id (whole d) c (sub (whole d) t m p)
        is_node = node_in (len - 1 - m) m (omega arith) node N D

        node_low : node + 1 < c
        node_low = above_leaf p D.boxed m (omega (arith, D.count)) node is_node G.some

        own_box : node < k → At d c p t m (box_of (get_or boxes node []))
        own_box f = cached_box p D.boxed m (omega (arith, D.count)) node is_node (omega (arith, node_low)) f (box_of (get_or boxes node [])) refl refl

        told_box : (b : BoundingBox) → BoxOf c k node nodes points boxes b → At d c p t m b
        told_box b B = let x = B d (sub (whole d) t m p) (sym is_node) (boxed_in d c (in_sub d c m p t (omega (arith, D.count))) D.boxed) in record { low = x.0; high = x.1 }

      pub in_slots : Some → c ≤ capacity_limit → node < branch_limit
      in_slots S h = omega (arith, node_low S.drawing)

      pub next_ends : Some → c ≤ capacity_limit → PaddedBoxes channels boxes → (X' : List (List Float))
          → ((leb k node ≡ true) × BoxOf c k node nodes points boxes (box_of X') × PaddedEnds channels X') ⊎ ((leb k node ≡ false) × (X' ≡ X)) → Ends m node X'
      next_ends S h P X' = ⊎_elim
          (λ w. record { here = rw w.0 (record { padded = w.2; at_node = λ d t p D. told_box D (box_of X') w.1 }); padded = w.2; own = λ _. w.1 })
          (λ w.
          let f = leb-false k node w.0 in
          record { here = rw w.0 (record { padded = P.slots node (in_slots S h); at_node = λ d t p D. own_box D f }); padded = rw w.1 G.padded; own = λ n. absurd (omega arith) })

      module _ (X' : List (List Float)) (K : Ends m node X') (W : get_or words m 0 < 2 ^ 64) (v : Option Separation) (Y : v ≡ separation width (get_or (drawn_from node X') 0 []) (get_or (drawn_from node X') 1 []) point (get_or words m 0)) where
        pub kept_there : v ≡ None → (d : ℕ) (t : Tree (whole d)) (p : Reading) → In d t p → Kept d c t p words len (highest_of s m)
        kept_there e d t p D =
            let g = G.turn d t p D in
            let is = drawn_in m _ K.here v Y d t p D in
            let z : kept_to d c t p words len ≡ kept_to d c t p words m = rw D.count (kept_held d c t p words m W v is (omega (arith, D.count)) e) in
            rw g.chosen_is (record {
              height_is = ap (λ x. x.0) (sym z);
              channel_is = ap (λ x. x.1.channel) (sym z);
              value_is = bits_back (kept_to d c t p words m).1.value ∙ ap (λ x. x.1.value.value) (sym z);
              above_leaf = G.some;
              top_most = G.within;
              hold = λ j a b. held_above d c t p m (get_or words m 0) W j (is ∙ e) a (omega (arith, D.count));
              hold_not = g.outside;
            })

        pub going_on : (q : Separation) → v ≡ Drawn q → (y : Chosen) → y ≡ chosen_at s m q.cut q.parts → Going (m + 1) X' y
        going_on q e y Z = record {
          some = omega arith;
          within = omega arith;
          padded = K.padded;
          box = let row : len - (m + 1) ≡ len - 1 - m = omega arith in rw (row, ← N) (λ n _. K.own n);
          turn = λ d t p D.
              let g = G.turn d t p D in
              let is = drawn_in m _ K.here v Y d t p D ∙ e in
              record {
                chosen_is = Z ∙ ap (λ (x : Chosen). chosen_at x m q.cut q.parts) g.chosen_is ∙ rw (add-one m) (chosen_on d c t p words m W (Drawn q) is);
                outside = λ j f l. by-test (ltb j m) (λ h. g.outside j f (omega (arith, ltb-true))) (λ h. let z : j ≡ m = omega (arith, ltb-false) in rw z (drawn_outside d c t p m (get_or words m 0) W q is));
              };
        }
