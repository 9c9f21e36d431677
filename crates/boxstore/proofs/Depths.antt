-- How deep a tree is: less than its capacity, and as deep as its rows say. What falls with each call that goes down the tree. Assumes nothing.
use mathlib.Core.Path.{◌≡◌, refl}
use mathlib.Core.Bool.{cond}
use mathlib.Core.List.{List}
use Prim.Native.Nat.{ℕ, zero, suc, ◌+◌, ◌≤◌, ◌<◌, max}
use native.Mathlib.Omega.{arith}
use lib.Dec.{eqb, ltb}
use borrow.Author.Tests.{lt-ltb, le-ltb, ltb-true, ltb-false, eqb-true, eqb-false, ne_eqb}
use Rattle.cuttree.specs.Tree.{Tree, leaf, branch, id, is, sum}
use Rattle.cuttree.proofs.Tests.{by-test}
use Rattle.wholetree.specs.Whole.{whole}
use Rattle.layout.specs.Slots.{uses}
use Rattle.layout.specs.Stands.{Once, InRange}
use Rattle.boxstore.specs.Boxed.{side_in, Linked}

-- how deep the rows go below a node, in f steps at most
unfoldable pub deep : List (List ℕ) → ℕ → ℕ → ℕ → ℕ
deep nodes c zero x = 0
deep nodes c (suc f) x = cond (ltb x c) (suc (max (deep nodes c f (side_in nodes x 0)) (deep nodes c f (side_in nodes x 1)))) 0

-- whether b is below n, as a number
abbrev under : ℕ → ℕ → ℕ
under n b = cond (ltb b n) 1 0

under_next : (n b : ℕ) → under (suc n) b ≡ under n b + is b n
under_next n b = by-test (ltb b n)
    (λ e. let l : b < n = ltb-true b n e in rw (e, lt-ltb b (suc n) (omega arith), ne_eqb b n (λ z. omega arith)))
    (λ e. let l : n ≤ b = ltb-false b n e in by-test (eqb b n)
    (λ x. let z : b ≡ n = eqb-true b n x in rw (e, x, lt-ltb b (suc n) (omega arith)))
    (λ x. let z : b ≡ n → ⊥ = eqb-false b n x in rw (e, x, le-ltb b (suc n) (omega arith))))

module _ (d c : ℕ) where
  abbrev pub depth : Tree (whole d) → ℕ
  depth (leaf i q n) = 0
  depth (branch b k l r) = suc (max (depth l) (depth r))

  -- the branches numbered below n
  abbrev below : ℕ → Tree (whole d) → ℕ
  below n t = sum (whole d) (λ i q m. 0) (under n) t

  below_next : (n : ℕ) (t : Tree (whole d)) → below (suc n) t ≡ below n t + uses d c t n
  below_next n (leaf i q m) = refl
  below_next n (branch b k l r) = omega (arith, under_next n b, below_next n l, below_next n r)

  below_none : (t : Tree (whole d)) → below 0 t ≡ 0
  below_none (leaf i q m) = refl
  below_none (branch b k l r) =
      let u : under 0 b ≡ 0 = rw (le-ltb b 0 (omega arith)) in
      omega (arith, u, below_none l, below_none r)

  -- each number is one branch's, so there are no more branches than numbers
  below_few : (n : ℕ) (t : Tree (whole d)) → Once d c t → below n t ≤ n
  below_few zero t o = omega (arith, below_none t)
  below_few (suc n) t o = omega (arith, below_next n t, below_few n t o, o n)

  depth_below : (t : Tree (whole d)) → InRange d c t → depth t ≤ below c t
  depth_below (leaf i q m) h = omega arith
  depth_below (branch b k l r) h =
      let u : under c b ≡ 1 = rw (lt-ltb b c (omega arith)) in
      omega (arith, u, depth_below l h.2, depth_below r h.3)

  pub depth_few : (t : Tree (whole d)) → Once d c t → InRange d c t → depth t ≤ c
  depth_few t o h = omega (arith, depth_below t h, below_few c t o)

  pub deep_is : (nodes : List (List ℕ)) (f : ℕ) (t : Tree (whole d)) → depth t ≤ f → Linked d c nodes t → InRange d c t → deep nodes c f (id (whole d) c t) ≡ depth t
  unfolding deep
  deep_is nodes zero (leaf i q m) h k r = refl
  deep_is nodes (suc f) (leaf i q m) h k r = rw (le-ltb (i + c) c (omega arith))
  deep_is nodes zero (branch b x u v) h k r = absurd (omega arith)
  deep_is nodes (suc f) (branch b x u v) h k r =
      rw (lt-ltb b c (omega arith), k.0, k.1, deep_is nodes f u (omega arith) k.2 r.2, deep_is nodes f v (omega arith) k.3 r.3)
