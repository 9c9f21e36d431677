-- The walk down at the row n of its path: the walk so far, the chance of each cached branch above, and what else stays; where it starts, the way on, and its end. Assumes nothing.
use mathlib.Core.Path.{◌≡◌, refl, sym, ap, ◌∙◌}
use mathlib.Core.Bool.{cond}
use mathlib.Core.List.{List, [], ◌∷◌}
use Prim.Native.Nat.{ℕ, ◌+◌, ◌-◌, ◌≤◌, ◌<◌}
use native.Mathlib.Omega.{arith}
use lib.Dec.{ltb, ltb→lt, nltb→le}
use lib.ListN.{length, get_or, drop, set, length-set}
use lib.Seq.{get_or-set_same, get_or-set_other, drop-set-lt}
use lib.Ieee.{Float, nan}
use borrow.Author.Tests.{lt-ltb}
use Rattle.limits.specs.Limits.{width, capacity_limit}
use Rattle.readings.proofs.Tests.{yes, no}
use Rattle.cut.specs.Laws.{Readings, Padded}
use Rattle.cuttree.specs.Tree.{Tree, id}
use Rattle.cuttree.proofs.Nodes.{In}
use Rattle.cuttree.proofs.Tests.{by-test, by_cond, cond_true}
use Rattle.wholetree.specs.Reading.{Reading}
use Rattle.wholetree.specs.Whole.{whole}
use Rattle.wholetree.proofs.Boxes.{tree_box}
use Rattle.wholetree.proofs.Draws.{are_readings_lem}
use Rattle.layout.specs.Slots.{field}
use Rattle.layout.specs.Stands.{no_sibling}
use Rattle.walk.specs.Walks.{step_of, node_of, Walks, Walked}
use Rattle.walk.proofs.Paths.{Reaching, Turn, start, turn, arrived, drop_next}
use Rattle.boxstore.specs.Boxed.{Boxed}
use Rattle.boxstore.specs.Written.{low_in, high_in}
use Rattle.boxstore.proofs.Parts.{at_cached}
use Rattle.boxstore.proofs.Standing.{boxed_in}
use Rattle.nodeview.specs.Walking.{kept_chance, Chanced, Unchanced, SomeWalking}
use Rattle.nodeview.proofs.Nodes.{all_padded}

-- the box kept for a node of a tree and the point are coordinates
kept_readings : {d c k node : ℕ} {nodes : List (List ℕ)} {points : List (List Float)} {boxes : List (List (List Float))} {point : List Float} {u t : Tree (whole d)} (p : Reading) → node < c → node < k → node ≡ id (whole d) c u → In (whole d) u t → Boxed d c k nodes points boxes t → point ≡ p.row
    → Readings (low_in boxes node) (high_in boxes node) point width
kept_readings {d} {c} {k} {node} {nodes} {points} {boxes} {point} {u} p h l e i B q =
    let v = (at_cached c k node nodes points boxes h l).whole_box (record { min_values = low_in boxes node; max_values = high_in boxes node }) refl refl d u (sym e) (boxed_in d c i B) in
    rw (v.0, v.1, q) (are_readings_lem (tree_box d u) p)

-- path₀ and chances₀ are those that the loop starts with
module _ (channels c k : ℕ) (nodes : List (List ℕ)) (cuts : List Float) (boxes : List (List (List Float))) (point : List Float) (root : ℕ) (path₀ : List (List ℕ)) (chances₀ : List Float) where
  pub record Walking (path : List (List ℕ)) (n node : ℕ) (chances : List Float) : Type 0 where
    pub few : c ≤ capacity_limit
    pub some : 1 ≤ n
    pub stands : SomeWalking channels c k nodes cuts boxes point root
    pub reaching : (d : ℕ) (t : Tree (whole d)) (p : Reading) → Walks d c nodes cuts point root t p → Reaching c nodes cuts point d p t path n node
    pub top : field path (n - 1) 0 ≡ node
    pub rest : drop n path ≡ drop n path₀
    pub chanced : Chanced k boxes point path n chances
    pub unchanced : Unchanced k path n chances₀ chances

  pub walking_starts : c ≤ capacity_limit → SomeWalking channels c k nodes cuts boxes point root → (path : List (List ℕ)) → length path ≡ capacity_limit → path₀ ≡ set path 0 (root ∷ no_sibling ∷ []) → Walking path₀ 1 root chances₀
  walking_starts m s path l e = record {
    few = m;
    some = omega arith;
    stands = s;
    reaching = λ d t p w. rw e (start c nodes cuts point d p root path t l w);
    top = ap (λ (x : List (List ℕ)). field x 0 0) e ∙ ap (λ (x : List ℕ). get_or x 0 0) (get_or-set_same path 0 (root ∷ no_sibling ∷ []) [] (omega (arith, l)));
    rest = refl;
    chanced = λ i h. absurd (omega arith);
    unchanced = record { as_many = refl; others = λ i h. refl };
  }

  module _ (path : List (List ℕ)) (n node : ℕ) (chances : List Float) (G : Walking path n node chances) where
    pub walking_ends : c ≤ node → (before : List (List ℕ)) → path₀ ≡ set before 0 (root ∷ no_sibling ∷ [])
        → ((d : ℕ) (t : Tree (whole d)) (p : Reading) → Walks d c nodes cuts point root t p → Walked d c path n t p) × ((drop n path ≡ drop n before) × (Chanced k boxes point path n chances × Unchanced k path n chances₀ chances))
    walking_ends h before e = ((λ d t p w. arrived c nodes cuts point d p t path n node G.few (G.reaching d t p w) h), (G.rest ∙ ap (drop n) e ∙ drop-set-lt n before 0 _ G.some, (G.chanced, G.unchanced)))

    -- at a branch
    module _ (h : node < c) where
      abbrev here : Reaching c nodes cuts point channels G.stands.reading G.stands.tree path n node
      here = G.reaching _ _ _ G.stands.walks

      pub this : Turn c nodes cuts point channels G.stands.reading G.stands.tree path n node
      this = turn c nodes cuts point _ _ _ path n node G.few G.stands.walks.point_is here h

      pub node_readings : node < k → Readings (low_in boxes node) (high_in boxes node) point width
      node_readings l = kept_readings G.stands.reading h l here.node_is here.inside G.stands.boxed G.stands.walks.point_is

      pub node_padded : node < k → Padded (low_in boxes node) (high_in boxes node) point channels width
      node_padded l = all_padded channels _ point G.stands.narrow (G.stands.boxes_padded.slots node (omega (arith, this.small, G.few))) G.stands.point_padded

      -- the next row is written, and the chance of this branch is kept
      module _ (s : List ℕ) (e : s ≡ step_of nodes cuts point node) (chances' : List Float) (l : length chances ≡ capacity_limit) (f : chances' ≡ cond (ltb node k) (set chances (n - 1) (kept_chance boxes node point)) chances) where
        above : (i : ℕ) → i < n → field (set path n s) i 0 ≡ field path i 0
        above i m = ap (λ (x : List ℕ). get_or x 0 0) (get_or-set_other path n i s [] (λ q. absurd (omega arith)))

        before : (i : ℕ) → i + 1 < n → get_or chances' i nan ≡ get_or chances i nan
        before i m = ap (λ (x : List Float). get_or x i nan) f ∙ by_cond (λ (x : List Float). get_or x i nan ≡ get_or chances i nan) (ltb node k) _ chances (λ _. get_or-set_other chances (n - 1) i _ nan (λ q. absurd (omega arith))) (λ _. refl)

        now : node < k → get_or chances' (n - 1) nan ≡ kept_chance boxes node point
        now m = ap (λ (x : List Float). get_or x (n - 1) nan) (f ∙ cond_true _ _ _ (lt-ltb node k m)) ∙ get_or-set_same chances (n - 1) _ nan (omega (arith, l, this.room, G.few, G.some))

        kept : Chanced k boxes point (set path n s) (n + 1) chances'
        kept i m q = by-test (ltb (i + 1) n)
            (λ x.
            let z = above i (omega arith) in
            let y = ltb→lt (i + 1) n (yes x) in
            rw z (before i y ∙ G.chanced i y (rw z at q)))
            (λ x.
            let y : i ≡ n - 1 = omega (arith, nltb→le (i + 1) n (no x)) in
            let z : field (set path n s) i 0 ≡ node = above i (omega arith) ∙ ap (λ (j : ℕ). field path j 0) y ∙ G.top in
            rw (z, y) (now (rw z at q)))

        other : (i : ℕ) → (i + 1 < n + 1 → field (set path n s) i 0 < k → ⊥) → get_or chances' i nan ≡ get_or chances i nan
        other i m = ap (λ (x : List Float). get_or x i nan) f ∙ by_cond (λ (x : List Float). get_or x i nan ≡ get_or chances i nan) (ltb node k) _ chances
            (λ t. get_or-set_other chances (n - 1) i _ nan (λ q. m (omega (arith, G.some)) (rw (above i (omega (arith, G.some)), q, G.top) (ltb→lt node k (yes t)))))
            (λ _. refl)

        stay : Unchanced k (set path n s) (n + 1) chances₀ chances'
        stay = record {
          as_many = ap length f ∙ by_cond (λ (x : List Float). length x ≡ length chances) (ltb node k) _ chances (λ _. length-set chances (n - 1) _) (λ _. refl) ∙ G.unchanced.as_many;
          others = λ i m. other i m ∙ G.unchanced.others i (λ x y. m (omega arith) (rw (above i (omega arith)) y));
        }

        pub walking_on : Walking (set path n s) (n + 1) (node_of s) chances'
        walking_on =
            let back : n + 1 - 1 ≡ n = omega arith in
            record {
              few = G.few;
              some = omega arith;
              stands = G.stands;
              reaching = λ d t p w. rw e (turn c nodes cuts point d p t path n node G.few w.point_is (G.reaching d t p w) h).next;
              top = rw back (ap (λ (x : List ℕ). get_or x 0 0) (get_or-set_same path n s [] (omega (arith, here.long, this.room, G.few))));
              rest = drop_next path n s path₀ G.rest;
              chanced = kept;
              unchanced = stay;
            }
