-- What a replaced node does to the rows and cuts of the branches above it: their masses change, and the branch next above points to what is
-- put in the node's place.
use mathlib.Core.Path.{◌≡◌, refl, sym, ap, ◌∙◌}
use mathlib.Core.Bool.{false, cond}
use Prim.Native.Nat.{ℕ, suc, ◌+◌, ◌≤◌, ◌<◌}
use native.Mathlib.Omega.{arith}
use lib.Dec.{eqb}
use lib.ListN.{get_or, set}
use borrow.Author.Tests.{eqb-true, eqb-false, eq-eqb}
use Rattle.cuttree.specs.Setting.{Cut, below}
use Rattle.cuttree.specs.Tree.{Tree, leaf, branch, id, height, mass}
use Rattle.cuttree.specs.Walk.{sub, replace}
use Rattle.cuttree.proofs.Tests.{by_cond, by-test}
use Rattle.cuttree.proofs.Steps.{toward, rejoin, height_step}
use Rattle.cuttree.proofs.Copies.{Filled}
use Rattle.cuttree.proofs.Masses.{mass_pos}
use Rattle.cuttree.proofs.Heights.{sub_top, sub_down, replace_top, replace_down, sum_replace}
use Rattle.cuttree.proofs.Nodes.{In, here, left, right, nodes, nodes_in}
use Rattle.wholetree.specs.Reading.{Reading}
use Rattle.wholetree.specs.Whole.{whole}
use Rattle.layout.specs.Slots.{uses, row_of, cut_of}
use Rattle.layout.specs.Stands.{Once}
use Rattle.layout.proofs.Replaced.{id_replace}

module _ (d c : ℕ) where
  -- ids that are one node's each: a branch number is one branch's, and the sides of a branch have different ids
  abbrev pub Apart : Tree (whole d) → Type 0
  Apart t = (x : ℕ) → nodes (whole d) c t x ≤ 1

  uses_nodes : (t : Tree (whole d)) (j : ℕ) → uses d c t j ≤ nodes (whole d) c t j
  uses_nodes (leaf i q n) j = omega arith
  uses_nodes (branch b k l r) j = omega (arith, uses_nodes l j, uses_nodes r j)

  pub apart_once : (t : Tree (whole d)) → Apart t → Once d c t
  apart_once t o j = omega (arith, o j, uses_nodes t j)

  pub apart_in : {u t : Tree (whole d)} → In (whole d) u t → Apart t → Apart u
  apart_in here o = o
  apart_in (left i) o = apart_in i (λ x. omega (arith, o x))
  apart_in (right i) o = apart_in i (λ x. omega (arith, o x))

  sides_apart : (b : ℕ) (k : Cut (whole d)) (l r : Tree (whole d)) → Apart (branch b k l r) → eqb (id (whole d) c l) (id (whole d) c r) ≡ false
  sides_apart b k l r o = by-test (eqb (id (whole d) c l) (id (whole d) c r))
      (λ e. let z : id (whole d) c l ≡ id (whole d) c r = eqb-true (id (whole d) c l) (id (whole d) c r) e in
      let y : 0 < nodes (whole d) c r (id (whole d) c l) = rw z (nodes_in (whole d) c {u = r} here) in
      absurd (omega (arith, o (id (whole d) c l), nodes_in (whole d) c {u = l} here)))
      (λ e. e)

  -- THE CUT stays
  pub cut_replace : (h : ℕ) (p : Reading) (s u : Tree (whole d)) → h < height (whole d) u p → cut_of d c (replace (whole d) u h p s) ≡ cut_of d c u
  cut_replace h p s (leaf i q n) m = absurd (omega arith)
  cut_replace h p s (branch b k l r) m = rw (replace_down (whole d) b k l r p h s (omega (arith, height_step (whole d) b k l r p)))
      (by_cond (λ y. cut_of d c y ≡ cut_of d c (branch b k l r)) (below (whole d) k p) _ _ (λ _. refl) (λ _. refl))

  -- THE ROW but for its mass: where the side keeps its id
  row_rejoin : (b : ℕ) (k : Cut (whole d)) (l r : Tree (whole d)) (p : Reading) (x : Tree (whole d)) → id (whole d) c x ≡ id (whole d) c (toward (whole d) k p l r) →
      row_of d c (rejoin (whole d) b k l r p x) ≡ set (row_of d c (branch b k l r)) 2 (mass (whole d) (rejoin (whole d) b k l r p x))
  row_rejoin b k l r p x e = by-test (below (whole d) k p)
      (λ f. let y : id (whole d) c x ≡ id (whole d) c l = rw f at e in rw (f, y))
      (λ f. let y : id (whole d) c x ≡ id (whole d) c r = rw f at e in rw (f, y))

  module _ (h : ℕ) (p : Reading) (s : Tree (whole d)) where
    pub row_same : (u : Tree (whole d)) → h < height (whole d) u p → (suc h ≡ height (whole d) u p → id (whole d) c s ≡ id (whole d) c (sub (whole d) u h p)) →
        row_of d c (replace (whole d) u h p s) ≡ set (row_of d c u) 2 (mass (whole d) (replace (whole d) u h p s))
    row_same (leaf i q n) m e = absurd (omega arith)
    row_same (branch b k l r) m e =
        let v = toward (whole d) k p l r in
        let n : h ≤ height (whole d) v p = omega (arith, height_step (whole d) b k l r p) in
        rw (replace_down (whole d) b k l r p h s n) (row_rejoin b k l r p (replace (whole d) v h p s) (by-test (eqb h (height (whole d) v p))
        (λ w. let z : h ≡ height (whole d) v p = eqb-true h (height (whole d) v p) w in
        ap (id (whole d) c) (ap (λ y. replace (whole d) v y p s) z ∙ replace_top (whole d) v p s) ∙ e (ap suc z ∙ sym (height_step (whole d) b k l r p))
        ∙ ap (id (whole d) c) (sub_down (whole d) b k l r p h n ∙ ap (λ y. sub (whole d) v y p) z ∙ sub_top (whole d) v p))
        (λ w. (id_replace d c h p s v (omega (arith, eqb-false h (height (whole d) v p) w))).0)))

    -- where the side is s now: the pointer that had its id
    pub row_turned : (u : Tree (whole d)) → Apart u → suc h ≡ height (whole d) u p →
        row_of d c (replace (whole d) u h p s)
        ≡ set (cond (eqb (get_or (row_of d c u) 0 0) (id (whole d) c (sub (whole d) u h p))) (set (row_of d c u) 0 (id (whole d) c s)) (set (row_of d c u) 1 (id (whole d) c s))) 2 (mass (whole d) (replace (whole d) u h p s))
    row_turned (leaf i q n) o e = absurd (omega arith)
    row_turned (branch b k l r) o e =
        let v = toward (whole d) k p l r in
        let z : h ≡ height (whole d) v p = omega (arith, height_step (whole d) b k l r p) in
        let new : replace (whole d) (branch b k l r) h p s ≡ rejoin (whole d) b k l r p s = replace_down (whole d) b k l r p h s (omega arith) ∙ ap (rejoin (whole d) b k l r p) (ap (λ y. replace (whole d) v y p s) z ∙ replace_top (whole d) v p s) in
        let old : sub (whole d) (branch b k l r) h p ≡ v = sub_down (whole d) b k l r p h (omega arith) ∙ ap (λ y. sub (whole d) v y p) z ∙ sub_top (whole d) v p in
        rw (new, old) (by-test (below (whole d) k p)
        (λ f. rw (f, eq-eqb (id (whole d) c l) (id (whole d) c l) refl))
        (λ f. rw (f, sides_apart b k l r o)))

  -- THE MASS: f is what a mass becomes if the place gains and loses so many copies
  pub mass_changed : (f : ℕ → ℕ) (h : ℕ) (p : Reading) (s u : Tree (whole d)) → Filled (whole d) u → h ≤ height (whole d) u p →
      ((x : ℕ) → 0 < x → f x + mass (whole d) (sub (whole d) u h p) ≡ x + mass (whole d) s) → f (mass (whole d) u) ≡ mass (whole d) (replace (whole d) u h p s)
  mass_changed f h p s u fi m e = omega (arith, e (mass (whole d) u) (mass_pos (whole d) u fi), sum_replace (whole d) (λ i q n. n) (λ b. 0) h p s u m)
