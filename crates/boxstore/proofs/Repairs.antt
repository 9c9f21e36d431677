-- Working the boxes above a lost leaf out again row by row, as a loop over the path does it. Assumes nothing.
use mathlib.Core.Path.{◌≡◌, refl, sym, ap, ◌∙◌, subst}
use mathlib.Core.Bool.{Bool, true, false, ◌&&◌}
use mathlib.Core.List.{List, [], ◌∷◌}
use Prim.Native.Nat.{ℕ, suc, ◌+◌, ◌-◌, ◌≤◌, ◌<◌, min}
use native.Mathlib.Omega.{arith}
use lib.Dec.{T, ltb}
use lib.ListN.{get_or}
use lib.Ieee.{Float, nan, lt}
use lib.Ieee.Fits.{and_l, and_r}
use lib.Ieee.Bits.{is_true, is_false}
use borrow.Author.Tests.{lt-ltb, ltb-true, ltb-false}
use Rattle.limits.specs.Limits.{width, capacity_limit, branch_limit}
use Rattle.readings.proofs.Tests.{yes}
use Rattle.boundingbox.specs.Ends.{channel}
use Rattle.boundingbox.specs.Contained.{strictly_contains}
use Rattle.boundingbox.specs.Padding.{Padded}
use Rattle.boundingbox.proofs.Held.{strictly_between}
use Rattle.cuttree.specs.Setting.{Cut}
use Rattle.cuttree.specs.Tree.{Tree, leaf, branch, id, height, end, lo, hi, All, OfTree}
use Rattle.cuttree.specs.Walk.{sub, sibling, replace}
use Rattle.cuttree.proofs.Tests.{by-test, cond_true}
use Rattle.cuttree.proofs.Leaves.{all_map, all_forget}
use Rattle.cuttree.proofs.Orders.{End, end_same}
use Rattle.cuttree.proofs.Heights.{height_sub, sub_sub}
use Rattle.cuttree.proofs.Edits.{last_lifted}
use Rattle.cuttree.proofs.Nodes.{In, here, left, right, in_trans, all_in}
use Rattle.readings.specs.Number.{Number, zero}
use Rattle.wholetree.specs.Reading.{Reading, coordinate}
use Rattle.wholetree.specs.Whole.{whole}
use Rattle.readings.proofs.Ordered.{same_number, not_le}
use Rattle.wholetree.proofs.Readings.{tab_at, coordinate_is}
use Rattle.layout.specs.Slots.{low_of, high_of, box_ends, uses, slot}
use Rattle.layout.specs.Layout.{no_box_ends}
use Rattle.layout.specs.Stands.{Once}
use Rattle.layout.proofs.Slots.{slot_in_lem, laid_below_by}
use Rattle.layout.proofs.Replaced.{in_sub, in_replace, id_replace, slot_above}
use Rattle.layout.proofs.Ranges.{range_node}
use Rattle.boxstore.specs.Boxed.{side_in, Boxed}
use Rattle.boxstore.specs.Grown.{low_with, high_with, SomeSides, Rebuilt}
use Rattle.boxstore.specs.Written.{low_in, high_in}
use Rattle.boxstore.specs.Edited.{Walked, lifted, Forgotten, SomeForgotten, RepairedAbove}
use Rattle.boxstore.proofs.Ends.{least_end, most_end}
use Rattle.boxstore.proofs.Depths.{depth}
use Rattle.boxstore.proofs.Standing.{depth_in, once_in, links_in}
use Rattle.boxstore.proofs.Partly.{at, Partly, partly_all}
use Rattle.boxstore.proofs.Changes.{old_box, partly_turn}
use Rattle.boxstore.proofs.Forgets.{forget_once, forget_start, Same, end_stays, forget_stop}
use Rattle.boxstore.proofs.Climbs.{index_is}

-- ---- ends that no leaf moves
module _ (d c : ℕ) where
  -- where every leaf has the same coordinate, so have the ends
  end_all : {m : Number → Number → Number} {to : Number → Number → Bool} → End (whole d) m to → (i : ℕ) (z : Number) (t : Tree (whole d)) → All (whole d) (λ j q n. coordinate q i ≡ z) t → end (whole d) m t i ≡ z
  end_all E i z (leaf j q n) h = h
  end_all E i z (branch b x l r) h = rw (end_all E i z l h.0, end_all E i z r h.1) (end_same (whole d) E z)

-- ---- a point strictly inside
module _ (d c k n dimensions : ℕ) (path : List (List ℕ)) (point : List Float) (nodes : List (List ℕ)) (points : List (List Float)) (boxes : List (List (List Float))) (t : Tree (whole d)) (p : Reading)
    (W : Walked d c path point t p) (G : Forgotten d c k n dimensions nodes points boxes t p) where
  -- the walk's node of height g in the tree after
  abbrev without : ℕ → Tree (whole d)
  without g = replace (whole d) (sub (whole d) t g p) 1 p (sibling (whole d) t 0 p)

  above_one : 1 ≤ height (whole d) t p
  above_one = omega (arith, G.above_it)

  beyond : (i : ℕ) → dimensions ≤ i → i < width → All (whole d) (λ j q n. coordinate q i ≡ zero) t × All (whole d) (λ j q n. coordinate q i ≡ zero) (lifted d t p)
  unfolding zero
  beyond i a l =
      let before = all_map (whole d) (λ j q n. Padded q.row dimensions width) (λ j q n. coordinate q i ≡ zero) t (λ j q n h. same_number (coordinate q i) zero (coordinate_is q i l ∙ h i a l)) G.narrow in
      (before, subst (λ o. OfTree (whole d) (All (whole d) (λ j q n. coordinate q i ≡ zero)) o) (last_lifted (whole d) c p t above_one G.last).0 (all_forget (whole d) (λ j q n. coordinate q i ≡ zero) p (λ j q n _ h. h) t before))

  -- ends that the point does not reach, in the channels that are no padding
  same_by : {m : Number → Number → Number} {to : Number → Number → Bool} (E : End (whole d) m to) (g : ℕ) → 1 ≤ g → g ≤ height (whole d) t p
      → ((i : ℕ) → i < width → ltb i dimensions ≡ true → to (coordinate p i) (end (whole d) m (sub (whole d) t g p) i) ≡ false) → Same d c t p W.once above_one E g
  same_by E g a l h i q = by-test (ltb i dimensions)
      (λ x. end_stays d c t p W.once above_one E G.held g i a l (h i q x))
      (λ x. let z = beyond i (ltb-false i dimensions x) q in
      end_all d c E i zero (without g) (all_in (whole d) _ (in_replace d c 1 g p (sibling (whole d) t 0 p) a t l) z.1) ∙ sym (end_all d c E i zero (sub (whole d) t g p) (all_in (whole d) _ (in_sub d c g p t l) z.0)))

  strictly_same : (g : ℕ) → 1 ≤ g → g ≤ height (whole d) t p → strictly_contains (low_of d c (sub (whole d) t g p)) (high_of d c (sub (whole d) t g p)) p.row (min dimensions width) ≡ true
      → Same d c t p W.once above_one (least_end d) g × Same d c t p W.once above_one (most_end d) g
  strictly_same g a l h = (
    same_by (least_end d) g a l (λ i q x. is_false _ (subst T (sym (not_le (coordinate p i) (lo (whole d) u i) ∙ below i q x)) tt)),
    same_by (most_end d) g a l (λ i q x. is_false _ (subst T (sym (not_le (hi (whole d) u i) (coordinate p i) ∙ above i q x)) tt)),
  )
    where
      u : Tree (whole d)
      u = sub (whole d) t g p

      low_at : (i : ℕ) → i < width → channel (low_of d c u) i ≡ (lo (whole d) u i).value
      low_at i q = tab_at width (λ (j : ℕ). (lo (whole d) u j).value) i nan q

      high_at : (i : ℕ) → i < width → channel (high_of d c u) i ≡ (hi (whole d) u i).value
      high_at i q = tab_at width (λ (j : ℕ). (hi (whole d) u j).value) i nan q

      below : (i : ℕ) → i < width → ltb i dimensions ≡ true → lt (lo (whole d) u i).value (coordinate p i).value ≡ true
      below i q x = rw (← low_at i q, coordinate_is p i q) (strictly_between (low_of d c u) (high_of d c u) p.row (min dimensions width) (yes h) i (omega (arith, ltb-true i dimensions x))).0

      above : (i : ℕ) → i < width → ltb i dimensions ≡ true → lt (coordinate p i).value (hi (whole d) u i).value ≡ true
      above i q x = rw (← high_at i q, coordinate_is p i q) (strictly_between (low_of d c u) (high_of d c u) p.row (min dimensions width) (yes h) i (omega (arith, ltb-true i dimensions x))).1

  -- ---- a turn: the branch of height g + 1 in the tree after, its two sides' boxes done
  pub record Turn (B : List (List (List Float))) (g : ℕ) : Type 0 where
    pub l : Tree (whole d)
    pub u : Tree (whole d)
    pub small : at d c t p (suc g) + 1 < c
    pub left_id : id (whole d) c l ≡ side_in nodes (at d c t p (suc g)) 0
    pub right_id : id (whole d) c u ≡ side_in nodes (at d c t p (suc g)) 1
    pub left_boxed : Boxed d c k nodes points B l
    pub right_boxed : Boxed d c k nodes points B u
    pub left_once : Once d c l
    pub right_once : Once d c u
    pub box_is_lem : low_with d (lo (whole d) l) u ∷ high_with d (hi (whole d) l) u ∷ [] ≡ box_ends d c (without (suc g))

  module _ (few : k ≤ branch_limit) (B : List (List (List Float))) (g : ℕ) (a : 1 ≤ g) (e : suc g ≤ height (whole d) t p) (P : Partly d c k t (lifted d t p) p B g) where
    once : Once d c (lifted d t p)
    once = forget_once d c t p W.once above_one

    -- what stands below that branch has another number than it and those above it
    module _ {v l r : Tree (whole d)} {b : ℕ} {x : Cut (whole d)} (i : In (whole d) (branch b x l r) v) (j : In (whole d) v (lifted d t p)) (less : depth d c v < depth d c (without (suc g))) where
      apart : (n : ℕ) → g < n → n ≤ height (whole d) t p → at d c t p n ≡ b → ⊥
      apart n m z q =
          let above = slot_above d c (depth d c) 0 1 n p (sibling (whole d) t 0 p) t once (omega arith) z in
          let own = slot_in_lem d c (depth d c) 0 once (in_trans (whole d) i j) in
          let up : In (whole d) (without (suc g)) (without n) =
          subst (λ s. In (whole d) (replace (whole d) s 1 p (sibling (whole d) t 0 p)) (without n)) (sub_sub (whole d) (suc g) n p m t z)
          (in_replace d c 1 (suc g) p (sibling (whole d) t 0 p) (omega arith) (sub (whole d) t n p) (omega (arith, height_sub (whole d) n p t z))) in
          omega (arith, above, own, ap (slot d c (depth d c) 0 (lifted d t p)) q, depth_in d c up, depth_in d c i)

      box_at_lem : b < k → get_or B b [] ≡ box_ends d c (branch b x l r)
      box_at_lem h = P.done b (omega arith) apart ∙ cond_true _ _ _ (lt-ltb b k h) ∙ slot_in_lem d c (box_ends d c) no_box_ends once (in_trans (whole d) i j)

    boxed : (v : Tree (whole d)) → In (whole d) v (lifted d t p) → depth d c v < depth d c (without (suc g)) → Boxed d c k nodes points B v
    boxed v j less = record {
      links = links_in d c nodes j G.links;
      leaves = all_in (whole d) _ j G.leaves;
      in_range = range_node d c j G.in_range;
      cached = laid_below_by d c (box_ends d c) (λ n. get_or B n []) k v (λ b x l r i. box_at_lem i j less);
    }

    pub turn : Turn B g
    turn = go (without (suc g)) refl r.0 r.1 (in_replace d c 1 (suc g) p (sibling (whole d) t 0 p) (omega arith) t e)
      where
        r : (id (whole d) c (without (suc g)) ≡ at d c t p (suc g)) × (0 < uses d c (without (suc g)) (at d c t p (suc g)))
        r = id_replace d c 1 p (sibling (whole d) t 0 p) (sub (whole d) t (suc g) p) (omega (arith, height_sub (whole d) (suc g) p t e))

        go : (v : Tree (whole d)) → without (suc g) ≡ v → id (whole d) c v ≡ at d c t p (suc g) → 0 < uses d c v (at d c t p (suc g)) → In (whole d) v (lifted d t p) → Turn B g
        go (leaf i q n) z y b j = absurd (omega arith)
        go (branch x cut l u) z y b j =
            let links = links_in d c nodes j G.links in
            let range = range_node d c j G.in_range in
            let jl : In (whole d) l (lifted d t p) = in_trans (whole d) (left here) j in
            let jr : In (whole d) u (lifted d t p) = in_trans (whole d) (right here) j in
            record {
              l = l;
              u = u;
              small = subst (λ n. n + 1 < c) y range.0;
              left_id = sym links.0 ∙ ap (λ n. side_in nodes n 0) y;
              right_id = sym links.1 ∙ ap (λ n. side_in nodes n 1) y;
              left_boxed = boxed l jl (rw z (omega arith));
              right_boxed = boxed u jr (rw z (omega arith));
              left_once = once_in d c jl once;
              right_once = once_in d c jr once;
              box_is_lem = ap (box_ends d c) (sym z);
            }

-- ---- the loop
module _ (c k n dimensions : ℕ) (path : List (List ℕ)) (point : List Float) (nodes : List (List ℕ)) (points : List (List Float)) (boxes : List (List (List Float))) where
  -- the boxes of the rows from r on are done
  abbrev pub Repaired : List (List (List Float)) → ℕ → Type 0
  Repaired B r = (d : ℕ) (t : Tree (whole d)) (p : Reading) → Walked d c path point t p → Forgotten d c k n dimensions nodes points boxes t p
      → Partly d c k t (lifted d t p) p B (height (whole d) t p - r)

  pub repair_start : k ≤ branch_limit → Repaired boxes n
  repair_start few d t p W G =
      let z : height (whole d) t p - n ≡ 1 = omega (arith, G.above_it) in
      rw (z, G.boxes_are) (forget_start d c t p W.once (omega (arith, G.above_it)) k few)

  module _ (few : k ≤ branch_limit) (r : ℕ) (some-row : 0 < r) (below : r ≤ n) (B : List (List (List Float))) (index : ℕ) (is : index ≡ get_or (get_or path (r - 1) []) 0 0) (C : Repaired B r) where
    module _ (d : ℕ) (t : Tree (whole d)) (p : Reading) (W : Walked d c path point t p) (G : Forgotten d c k n dimensions nodes points boxes t p) where
      up : height (whole d) t p - (r - 1) ≡ suc (height (whole d) t p - r)
      up = omega (arith, G.above_it)

      inside : suc (height (whole d) t p - r) ≤ height (whole d) t p
      inside = omega (arith, G.above_it)

      low_enough : 1 ≤ height (whole d) t p - r
      low_enough = omega (arith, G.above_it)

      index_at : index ≡ at d c t p (suc (height (whole d) t p - r))
      index_at = is ∙ index_is path point (r - 1) d c t p W (omega (arith, G.above_it)) ∙ ap (at d c t p) up

      this_turn : Turn d c k n dimensions path point nodes points boxes t p W G B (height (whole d) t p - r)
      this_turn = turn d c k n dimensions path point nodes points boxes t p W G few B (height (whole d) t p - r) low_enough inside (C d t p W G)

    pub repair_sides : c ≤ capacity_limit → SomeForgotten c k n dimensions path point nodes points boxes → SomeSides c k index nodes points B
    repair_sides most s =
        let w = this_turn s.channels s.tree s.reading s.walked s.forgotten in
        rw (index_at s.channels s.tree s.reading s.walked s.forgotten)
        (record {
          small = omega (arith, w.small);
          left_some = record { channels = s.channels; tree = w.l; at_node = w.left_id; once = w.left_once; boxed = w.left_boxed };
          right_some = record { channels = s.channels; tree = w.u; at_node = w.right_id; once = w.right_once; boxed = w.right_boxed };
        })

    module _ (B' : List (List (List Float))) (b : Bool) (R : Rebuilt c k index dimensions point nodes points B B' b) where
      pub repair_turn : b ≡ false → Repaired B' (r - 1)
      repair_turn moved d t p W G = go (this_turn d t p W G) (index_at d t p W G)
        where
          g : ℕ
          g = height (whole d) t p - r

          o : Once d c (lifted d t p)
          o = forget_once d c t p W.once (omega (arith, G.above_it))

          go : Turn d c k n dimensions path point nodes points boxes t p W G B g → index ≡ at d c t p (suc g)
              → Partly d c k t (lifted d t p) p B' (height (whole d) t p - (r - 1))
          go w z =
              let v = R.moved moved d w.l w.u (w.left_id ∙ ap (λ n. side_in nodes n 0) (sym z)) (w.right_id ∙ ap (λ n. side_in nodes n 1) (sym z)) w.left_boxed w.right_boxed in
              rw (v, z, up d t p W G) (partly_turn d c p k t W.once 1 (sibling (whole d) t 0 p) o few B _ g (low_enough d t p W G) (inside d t p W G) (C d t p W G) (λ _. w.box_is_lem))

      pub repair_stop : b ≡ true → RepairedAbove c k n dimensions path point nodes points boxes B'
      repair_stop stopped d t p W G =
          let g = height (whole d) t p - r in
          let z = index_at d t p W G in
          let l = inside d t p W G in
          let test = ltb index k in
          let strict = strictly_contains (low_in B index) (high_in B index) point (min dimensions width) in
          let held : (test && strict) ≡ true = sym R.answer ∙ stopped in
          let cached : ltb (at d c t p (suc g)) k ≡ true = subst (λ n. ltb n k ≡ true) z (is_true test (and_l test strict (yes held))) in
          let box : get_or B index [] ≡ box_ends d c (sub (whole d) t (suc g) p) = ap (λ n. get_or B n []) z ∙ old_box d c p k t W.once few B g (C d t p W G) (suc g) (omega arith) l cached in
          R.kept stopped ∙ forget_stop d c t p W.once (omega (arith, G.above_it)) k B g (low_enough d t p W G) l (C d t p W G)
          (strictly_same d c k n dimensions path point nodes points boxes t p W G (suc g) (omega arith) l (rw (box, W.row) at (is_true strict (and_r test strict (yes held)))))

  pub repair_end : (B : List (List (List Float))) (r : ℕ) → r ≡ 0 → Repaired B r → RepairedAbove c k n dimensions path point nodes points boxes B
  repair_end B r z C d t p W G = partly_all d c k t (lifted d t p) p W.once B (height (whole d) t p - r) (omega arith) (C d t p W G)
