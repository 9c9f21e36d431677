-- Cached boxes on the way from one tree's to another's: the branches of a walk are done from below, and one more box is done at a time. Assumes nothing.
use mathlib.Core.Path.{◌≡◌, refl, sym, ap, ◌∙◌, subst}
use mathlib.Core.Option.{some}
use mathlib.Core.List.{List, []}
use Prim.Native.Nat.{ℕ, zero, suc, ◌+◌, ◌≤◌, ◌<◌}
use native.Mathlib.Omega.{arith}
use lib.Dec.{eqb}
use lib.ListN.{length, get_or}
use lib.Ieee.{Float}
use borrow.Author.Tests.{eqb-true, eqb-false}
use Rattle.limits.specs.Limits.{branch_limit}
use Rattle.cuttree.specs.Tree.{Tree, id, height}
use Rattle.cuttree.specs.Walk.{sub}
use Rattle.cuttree.proofs.Tests.{by-test}
use Rattle.wholetree.specs.Reading.{Reading}
use Rattle.wholetree.specs.Whole.{whole, tab}
use Rattle.layout.specs.Slots.{uses}
use Rattle.layout.specs.Layout.{box_in}
use Rattle.layout.specs.Stands.{Once}
use Rattle.layout.proofs.Tabs.{is_tab}
use Rattle.layout.proofs.Replaced.{upper_uses, upper_at, uses_sub}

-- the number of the walk's node of height m
abbrev pub at : (d c : ℕ) → Tree (whole d) → Reading → ℕ → ℕ
at d c t p m = id (whole d) c (sub (whole d) t m p)

-- two branches of the walk have two numbers
pub at_apart : (d c m n : ℕ) (t : Tree (whole d)) (p : Reading) → 0 < m → m < n → n ≤ height (whole d) t p → Once d c t → at d c t p m ≡ at d c t p n → ⊥
at_apart d c m n t p a b e o z =
    let own : 0 < uses d c (sub (whole d) t m p) (at d c t p n) = subst (λ j. 0 < uses d c (sub (whole d) t m p) j) z (uses_sub d c m p t a (omega arith)) in
    omega (arith, own, upper_at d c m n p b t e, upper_uses d c m p (at d c t p n) t (omega arith), o (at d c t p n))

-- The boxes of t' in place of t's, but that the branches on p's walk in t of a height above m still have t's.
pub record Partly (d c k : ℕ) (t t' : Tree (whole d)) (p : Reading) (boxes : List (List (List Float))) (m : ℕ) : Type 0 where
  pub size : length boxes ≡ branch_limit
  pub todo : (n : ℕ) → m < n → n ≤ height (whole d) t p → at d c t p n < branch_limit → get_or boxes (at d c t p n) [] ≡ box_in d c k (some t) (at d c t p n)
  pub done : (j : ℕ) → j < branch_limit → ((n : ℕ) → m < n → n ≤ height (whole d) t p → at d c t p n ≡ j → ⊥) → get_or boxes j [] ≡ box_in d c k (some t') j

module _ (d c k : ℕ) (t t' : Tree (whole d)) (p : Reading) (o : Once d c t) where
  -- the box of height m + 1 done
  pub partly_next : (boxes boxes' : List (List (List Float))) (m : ℕ) → suc m ≤ height (whole d) t p → Partly d c k t t' p boxes m → length boxes' ≡ branch_limit
      → (at d c t p (suc m) < branch_limit → get_or boxes' (at d c t p (suc m)) [] ≡ box_in d c k (some t') (at d c t p (suc m)))
      → ((j : ℕ) → (at d c t p (suc m) ≡ j → ⊥) → get_or boxes' j [] ≡ get_or boxes j []) → Partly d c k t t' p boxes' (suc m)
  partly_next boxes boxes' m e P l new old = record {
    size = l;
    todo = λ n a b s. old (at d c t p n) (at_apart d c (suc m) n t p (omega arith) a b o) ∙ P.todo n (omega arith) b s;
    done = λ j s none. by-test (eqb (at d c t p (suc m)) j)
        (λ x. let z : at d c t p (suc m) ≡ j = eqb-true (at d c t p (suc m)) j x in subst (λ i. get_or boxes' i [] ≡ box_in d c k (some t') i) z (new (omega arith)))
        (λ x. let z = eqb-false (at d c t p (suc m)) j x in old j z ∙ P.done j s (λ n a b. other j z none n a b));
  }
    where
      other : (j : ℕ) → (at d c t p (suc m) ≡ j → ⊥) → ((n : ℕ) → suc m < n → n ≤ height (whole d) t p → at d c t p n ≡ j → ⊥) → (n : ℕ) → m < n → n ≤ height (whole d) t p → at d c t p n ≡ j → ⊥
      other j z none n a b = by-test (eqb n (suc m))
          (λ x q. z (ap (at d c t p) (sym (eqb-true n (suc m) x)) ∙ q))
          (λ x. let y = eqb-false n (suc m) x in none n (omega arith) b)

  -- where what is left does not change it is done
  pub partly_rest : (boxes : List (List (List Float))) (e m : ℕ) → e + m ≡ height (whole d) t p → Partly d c k t t' p boxes m
      → ((n : ℕ) → m < n → n ≤ height (whole d) t p → box_in d c k (some t) (at d c t p n) ≡ box_in d c k (some t') (at d c t p n)) → Partly d c k t t' p boxes (height (whole d) t p)
  partly_rest boxes zero m h P same = let z : m ≡ height (whole d) t p = omega arith in subst (λ n. Partly d c k t t' p boxes n) z P
  partly_rest boxes (suc e) m h P same =
      partly_rest boxes e (suc m) (omega arith)
      (partly_next boxes boxes m (omega arith) P P.size (λ s. P.todo (suc m) (omega arith) (omega arith) s ∙ same (suc m) (omega arith) (omega arith)) (λ j _. refl))
      (λ n a b. same n (omega arith) b)

  pub partly_all : (boxes : List (List (List Float))) (m : ℕ) → height (whole d) t p ≤ m → Partly d c k t t' p boxes m → boxes ≡ tab branch_limit (box_in d c k (some t'))
  partly_all boxes m h P = is_tab [] branch_limit (box_in d c k (some t')) boxes P.size (λ i s. P.done i s (λ n a b _. omega arith))
