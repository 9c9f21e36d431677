-- The loop that writes a walk down: what holds at a node that it has reached, and of the step to the next.
use mathlib.Core.Path.{◌≡◌, refl, sym, ap, ◌∙◌}
use mathlib.Core.List.{List, [], ◌∷◌, ◌++◌, append-nil}
use Prim.Native.Nat.{ℕ, ◌+◌, ◌≤◌, ◌<◌}
use native.Mathlib.Omega.{arith}
use native.Mathlib.Numerals.{add-one}
use lib.ListN.{length, get_or, take, drop, set, length-set}
use lib.Seq.{take-suc-set, append_snoc, drop-set-lt, drop-drop}
use lib.Ieee.{Float, nan}
use Rattle.limits.specs.Limits.{width, capacity_limit}
use Rattle.boundingbox.specs.Ends.{channel}
use Rattle.cuttree.specs.Setting.{Cut, below}
use Rattle.cuttree.specs.Tree.{Tree, leaf, branch, id, height, walk}
use Rattle.cuttree.proofs.Tests.{by_cond, by-test}
use Rattle.cuttree.proofs.Steps.{toward, aside, height_step}
use Rattle.cuttree.proofs.Leaves.{walk_leaves}
use Rattle.cuttree.proofs.Nodes.{In, here, left, right, in_trans}
use Rattle.wholetree.specs.Reading.{Reading, coordinate}
use Rattle.wholetree.specs.Whole.{whole}
use Rattle.wholetree.proofs.Readings.{coordinate_is}
use Rattle.layout.specs.Slots.{row_of, cut_of, field}
use Rattle.layout.specs.Stands.{Laid, InRange, trail_from, trail, no_sibling}
use Rattle.layout.proofs.Trails.{trail_step}
use Rattle.walk.specs.Walks.{step_of, node_of, Walks, Walked}

write_next : (path : List (List ℕ)) (n : ℕ) (v : List ℕ) (more all : List (List ℕ)) → n < length path → take n path ++ (v ∷ more) ≡ all → take (n + 1) (set path n v) ++ more ≡ all
write_next path n v more all lt e = rw (add-one, take-suc-set path n v, append_snoc) e

pub drop_next : (path : List (List ℕ)) (n : ℕ) (v : List ℕ) (old : List (List ℕ)) → drop n path ≡ drop n old → drop (n + 1) (set path n v) ≡ drop (n + 1) old
drop_next path n v old e = drop-set-lt (n + 1) path n v (omega arith) ∙ sym (drop-drop 1 n path) ∙ ap (drop 1) e ∙ drop-drop 1 n old

module _ (c : ℕ) (N : List (List ℕ)) (C P : List Float) where
  module _ (d : ℕ) (p : Reading) where
    -- the rows after that of the node itself
    abbrev rest : Tree (whole d) → List (List ℕ)
    rest (leaf i q n) = []
    rest (branch b k l r) = trail_from d c (id (whole d) c (aside (whole d) k p l r)) (toward (whole d) k p l r) p

    trail_rest : (s : ℕ) (t : Tree (whole d)) → trail_from d c s t p ≡ (id (whole d) c t ∷ s ∷ []) ∷ rest t
    trail_rest s (leaf i q n) = refl
    trail_rest s (branch b k l r) = trail_step d c p s b k l r

    -- n rows are written, and the walk stands at the node `at`
    pub record Reaching (t : Tree (whole d)) (path : List (List ℕ)) (n node : ℕ) : Type 0 where
      pub long : length path ≡ capacity_limit
      pub at : Tree (whole d)
      pub inside : In (whole d) at t
      pub rows : Laid d c (row_of d c) (λ (j : ℕ). get_or N j []) at
      pub values : Laid d c (cut_of d c) (λ (j : ℕ). get_or C j nan) at
      pub in_range : InRange d c at
      pub node_is : node ≡ id (whole d) c at
      pub count : n + height (whole d) at p ≡ walk (whole d) t p
      pub written : take n path ++ rest at ≡ trail d c t p
      pub low : walk (whole d) t p ≤ c

    pub start : (root : ℕ) (path : List (List ℕ)) (t : Tree (whole d)) → length path ≡ capacity_limit → Walks d c N C P root t p → Reaching t (set path 0 (root ∷ no_sibling ∷ [])) 1 root
    start root path t n w = record {
      long = length-set path 0 _ ∙ n;
      at = t;
      inside = here;
      rows = w.rows;
      values = w.values;
      in_range = w.in_range;
      node_is = w.root_is;
      count = omega arith;
      written = ap (λ y. y ++ rest t) (take-suc-set path 0 (root ∷ no_sibling ∷ []) (omega arith)) ∙ ap (λ x. (x ∷ no_sibling ∷ []) ∷ rest t) w.root_is ∙ sym (trail_rest no_sibling t);
      low = omega (arith, walk_leaves (whole d) t p, w.few);
    }

    step_is : (b : ℕ) (k : Cut (whole d)) (l r : Tree (whole d)) (x : ℕ) → x ≡ b → P ≡ p.row → Laid d c (row_of d c) (λ (j : ℕ). get_or N j []) (branch b k l r) → Laid d c (cut_of d c) (λ (j : ℕ). get_or C j nan) (branch b k l r) → k.channel < width →
        step_of N C P x ≡ id (whole d) c (toward (whole d) k p l r) ∷ id (whole d) c (aside (whole d) k p l r) ∷ []
    step_is b k l r x a e h v m =
        let row : get_or N x [] ≡ row_of d c (branch b k l r) = rw a h.0 in
        let value : get_or C x nan ≡ k.value.value = rw a v.0 in
        let coord : channel P k.channel ≡ (coordinate p k.channel).value = rw e (sym (coordinate_is p k.channel m)) in
        rw (row, value, coord) (by-test (below (whole d) k p) (λ f. rw f) (λ f. rw f))

    -- what a turn of the loop needs, and where it comes to
    pub record Turn (t : Tree (whole d)) (path : List (List ℕ)) (n node : ℕ) : Type 0 where
      pub small : node + 1 < c
      pub chan : field N node 3 < width
      pub room : n < c
      pub next : Reaching t (set path n (step_of N C P node)) (n + 1) (node_of (step_of N C P node))

    pub turn : (t : Tree (whole d)) (path : List (List ℕ)) (n node : ℕ) → c ≤ capacity_limit → P ≡ p.row → Reaching t path n node → node < c → Turn t path n node
    turn t path n node m e w lt = go w.at w.inside w.rows w.values w.in_range w.node_is w.count w.written
      where
        go : (u : Tree (whole d)) → In (whole d) u t → Laid d c (row_of d c) (λ (j : ℕ). get_or N j []) u → Laid d c (cut_of d c) (λ (j : ℕ). get_or C j nan) u → InRange d c u → node ≡ id (whole d) c u →
            n + height (whole d) u p ≡ walk (whole d) t p → take n path ++ rest u ≡ trail d c t p → Turn t path n node
        go (leaf i q x) y h v f a k g = absurd (omega arith)
        go (branch b k l r) y h v f a j g =
            let s = step_is b k l r node a e h v f.1 in
            let u = toward (whole d) k p l r in
            let hs = height_step (whole d) b k l r p in
            record {
              small = omega (arith, f.0);
              chan = rw (a, h.0) f.1;
              room = omega (arith, w.low, hs);
              next = rw s (record {
                long = length-set path n _ ∙ w.long;
                at = u;
                inside = in_trans (whole d) (by_cond (λ v. In (whole d) v (branch b k l r)) (below (whole d) k p) l r (λ _. left here) (λ _. right here)) y;
                rows = by_cond (Laid d c (row_of d c) (λ (j : ℕ). get_or N j [])) (below (whole d) k p) l r (λ _. h.1) (λ _. h.2);
                values = by_cond (Laid d c (cut_of d c) (λ (j : ℕ). get_or C j nan)) (below (whole d) k p) l r (λ _. v.1) (λ _. v.2);
                in_range = by_cond (InRange d c) (below (whole d) k p) l r (λ _. f.2) (λ _. f.3);
                node_is = refl;
                count = omega (arith, hs);
                written = write_next path n _ (rest u) _ (omega (arith, w.long, w.low, hs)) (ap (λ y. take n path ++ y) (sym (trail_rest _ u)) ∙ g);
                low = w.low;
              });
            }

    pub arrived : (t : Tree (whole d)) (path : List (List ℕ)) (n node : ℕ) → c ≤ capacity_limit → Reaching t path n node → c ≤ node → Walked d c path n t p
    arrived t path n node m w le = go w.at w.in_range w.node_is w.count w.written
      where
        go : (u : Tree (whole d)) → InRange d c u → node ≡ id (whole d) c u → n + height (whole d) u p ≡ walk (whole d) t p → take n path ++ rest u ≡ trail d c t p → Walked d c path n t p
        go (leaf i q x) f a k g = record { long = w.long; most = omega (arith, w.low); count = omega arith; is_trail = rw append-nil at g }
        go (branch b k l r) f a j g = absurd (omega (arith, f.0))
