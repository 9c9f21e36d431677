-- The branch of height m on a walk, from the node below it and that node's sibling: both stand in the arrays, and the box around the two is the branch's, whichever of them is its left side. Assumes nothing.
use mathlib.Core.Path.{◌≡◌, sym, ap, ◌∙◌, subst}
use mathlib.Core.Bool.{false, ◌||◌}
use mathlib.Core.List.{List}
use Prim.Native.Nat.{ℕ, suc, ◌+◌, ◌-◌, ◌≤◌, ◌<◌}
use native.Mathlib.Omega.{arith}
use lib.Dec.{leb, ltb}
use lib.ListN.{take}
use lib.Ieee.{Float}
use Rattle.boundingbox.specs.declared.BoundingBox.{BoundingBox}
use Rattle.cuttree.specs.Setting.{Cut, below}
use Rattle.cuttree.specs.Tree.{Tree, branch, id, height, walk}
use Rattle.cuttree.specs.Walk.{sub, sibling}
use Rattle.cuttree.proofs.Tests.{by-test, by_cond}
use Rattle.cuttree.proofs.Steps.{toward, aside, along, height_step}
use Rattle.cuttree.proofs.Heights.{by_height, sub_top, sub_down, sibling_top, sibling_down}
use Rattle.wholetree.specs.Reading.{Reading}
use Rattle.wholetree.specs.Whole.{whole}
use Rattle.layout.specs.Slots.{field}
use Rattle.layout.specs.Stands.{Once, trail}
use Rattle.layout.proofs.Replaced.{in_sub}
use Rattle.layout.proofs.Trails.{path_node}
use Rattle.boxstore.specs.Boxed.{Linked, Boxed, SomeBoxed}
use Rattle.boxstore.specs.Grown.{SidesBox, BoxOf}
use Rattle.boxstore.proofs.Above.{above_leaf}
use Rattle.boxstore.proofs.Parts.{sides_box}
use Rattle.boxstore.proofs.Siblings.{sibling_is, some_sibling}
use Rattle.boxstore.proofs.Standing.{once_in, boxed_in}
use Rattle.rowboxes.proofs.Rows.{hand_false, hand_uncached}
use Rattle.branchboxes.specs.Pairs.{PairBox}
use Rattle.branchboxes.proofs.Pairs.{turned}

module _ (d c k : ℕ) (nodes : List (List ℕ)) (points : List (List Float)) (boxes : List (List (List Float))) (r : BoundingBox) where
  walk_sides : (h : ℕ) (p : Reading) (t : Tree (whole d)) → Linked d c nodes t → suc h ≤ height (whole d) t p
      → PairBox c k (id (whole d) c (sub (whole d) t h p)) (id (whole d) c (sibling (whole d) t h p)) nodes points boxes r → SidesBox c k (id (whole d) c (sub (whole d) t (suc h) p)) nodes points boxes r
  walk_sides h p = along (whole d)
      (λ t. Linked d c nodes t → suc h ≤ height (whole d) t p → PairBox c k (id (whole d) c (sub (whole d) t h p)) (id (whole d) c (sibling (whole d) t h p)) nodes points boxes r → SidesBox c k (id (whole d) c (sub (whole d) t (suc h) p)) nodes points boxes r) p
      (λ i q n L m. absurd (omega arith))
      (λ b x l u ih L m F. let t = branch b x l u in let v = toward (whole d) x p l u in by_height (whole d) b x l u p (suc h) m
      (λ e.
      let z : h ≡ height (whole d) v p = omega (arith, height_step (whole d) b x l u p) in
      let own : sub (whole d) t (suc h) p ≡ t = ap (λ y. sub (whole d) t y p) e ∙ sub_top (whole d) t p in
      let down : sub (whole d) t h p ≡ v = sub_down (whole d) b x l u p h (omega arith) ∙ ap (λ y. sub (whole d) v y p) z ∙ sub_top (whole d) v p in
      let other : sibling (whole d) t h p ≡ aside (whole d) x p l u = ap (λ y. sibling (whole d) t y p) z ∙ sibling_top (whole d) b x l u p in
      rw own (sides b x l u L (rw (down, other) at F)))
      (λ n. rw (sub_down (whole d) b x l u p (suc h) n) (ih (by_cond (Linked d c nodes) (below (whole d) x p) l u (λ _. L.2) (λ _. L.3)) n (rw (sub_down (whole d) b x l u p h (omega arith), sibling_down (whole d) b x l u p h n) at F))))
    where
      sides : (b : ℕ) (x : Cut (whole d)) (l u : Tree (whole d)) → Linked d c nodes (branch b x l u) → PairBox c k (id (whole d) c (toward (whole d) x p l u)) (id (whole d) c (aside (whole d) x p l u)) nodes points boxes r → SidesBox c k b nodes points boxes r
      sides b x l u L F = by-test (below (whole d) x p)
          (λ y. let G : PairBox c k (id (whole d) c l) (id (whole d) c u) nodes points boxes r = rw y at F in rw (L.0, L.1) G)
          (λ y. let G : PairBox c k (id (whole d) c u) (id (whole d) c l) nodes points boxes r = rw y at F in rw (L.0, L.1) (turned c k nodes points boxes _ _ r G))

module _ {d c k : ℕ} {nodes : List (List ℕ)} {points : List (List Float)} {boxes : List (List (List Float))} {len : ℕ} {t : Tree (whole d)} (path : List (List ℕ)) (p : Reading) (w : Boxed d c k nodes points boxes t) (once : Once d c t) (count : len ≡ walk (whole d) t p) (rows : take len path ≡ trail d c t p)
    (m : ℕ) (z : 0 < m) (h : m < len) (under : ℕ) (f : under ≡ field path (len - m) 0) (side : ℕ) (g : side ≡ field path (len - m) 1) where
  row_is_row : (i j o : ℕ) → i + j + 1 ≡ len → o ≡ field path i 0 → o ≡ id (whole d) c (sub (whole d) t j p)
  row_is_row i j o e n = n ∙ path_node d c p path t (subst (λ (y : ℕ). take y path ≡ trail d c t p) count rows) i j (omega (arith, count))

  under_is : under ≡ id (whole d) c (sub (whole d) t (m - 1) p)
  under_is = row_is_row (len - m) (m - 1) under (omega arith) f

  side_is : side ≡ id (whole d) c (sibling (whole d) t (m - 1) p)
  side_is = let e : len - m ≡ len - 1 - (m - 1) = omega arith in
      g ∙ ap (λ (y : ℕ). field path y 1) e ∙ sibling_is d c p t path len (m - 1) count rows (omega arith)

  pub both_stand : SomeBoxed c k under nodes points boxes × SomeBoxed c k side nodes points boxes
  both_stand =
      let inside = in_sub d c (m - 1) p t (omega (arith, count)) in (
        record { channels = d; tree = sub (whole d) t (m - 1) p; at_node = sym under_is; once = once_in d c inside once; boxed = boxed_in d c inside w },
        some_sibling d c p k nodes points boxes (m - 1) t (omega (arith, count)) w side side_is once,
      )

  -- the box of the node below, where it is not at hand
  pub under_box : (b : BoundingBox) → (k ≤ field path (len - m) 0 → field path (len - m) 0 < c → BoxOf c k (field path (len - m) 0) nodes points boxes b)
      → (leb c under || ltb under k) ≡ false → BoxOf c k under nodes points boxes b
  under_box b B = rw f (λ x. B (hand_uncached c k (field path (len - m) 0) x) (hand_false c k (field path (len - m) 0) x))

  -- the branch's own
  pub branch_box : (o : ℕ) → o ≡ field path (len - 1 - m) 0 → (b : BoundingBox) → PairBox c k under side nodes points boxes b → BoxOf c k o nodes points boxes b
  branch_box o n b F =
      let up : suc (m - 1) ≡ m = omega arith in
      let F' = rw (under_is, side_is) at F in
      let is = row_is_row (len - 1 - m) m o (omega arith) n in
      let own : o ≡ id (whole d) c (sub (whole d) t (suc (m - 1)) p) = is ∙ ap (λ y. id (whole d) c (sub (whole d) t y p)) (sym up) in
      let low = above_leaf p w m (omega (arith, count)) o is z in
      sides_box c k o nodes points boxes (omega (arith, low)) b (rw own (walk_sides d c k nodes points boxes b (m - 1) p t w.links (omega (arith, count)) F'))
