-- The copies in a tree, of all values and of one, after an add and after a delete.
use mathlib.Core.Path.{◌≡◌, refl, ◌∙◌}
use mathlib.Core.Bool.{true, cond}
use mathlib.Core.Option.{Option, none, some}
use Prim.Native.Nat.{ℕ, suc, ◌+◌, ◌<◌}
use native.Mathlib.Omega.{arith}
use lib.Dec.{ltb}
use borrow.Author.Tests.{ltb-true, ltb-false}
use Rattle.cuttree.specs.Setting.{Setting, Laws}
use Rattle.cuttree.specs.Tree.{Tree, ending, found, sum_of, mass, copies, insert, add_copy, forget, freed, All}
use Rattle.cuttree.specs.Counts.{one}
use Rattle.cuttree.proofs.Tests.{by-test}
use Rattle.cuttree.proofs.Sums.{sum_insert, sum_copy, sum_forget, number_in}
use Rattle.cuttree.proofs.Leaves.{all_ending}

module _ (S : Setting) where
  open S use {Point, Word, same}

  abbrev pub Filled : Tree S → Type 0
  Filled t = All S (λ i q n. 0 < n) t

  zero_in : (z : Option ℕ) → number_in (λ b. 0) z ≡ 0
  zero_in none = refl
  zero_in (some b) = refl

  -- OF ALL VALUES
  pub mass_insert : (b i : ℕ) (p : Point) (w : ℕ → Word) (t : Tree S) → mass S (insert S b i p w t) ≡ suc (mass S t)
  mass_insert b i p w t = omega (arith, sum_insert S (λ i q n. n) (λ b. 0) b i p w t)

  pub mass_copy : (p : Point) (t : Tree S) → mass S (add_copy S p t) ≡ suc (mass S t)
  mass_copy p t = omega (arith, sum_copy S (λ i q n. n) (λ b. 0) p t)

  pub mass_forget : (p : Point) (t : Tree S) → Filled t → suc (sum_of S (λ i q n. n) (λ b. 0) (forget S p t)) ≡ mass S t
  mass_forget p t h = by-test (ltb 1 (ending S t p).copies)
      (λ e. let z = rw e at (sum_forget S (λ i q n. n) (λ b. 0) p t) in omega (arith, z, zero_in (freed S p t), ltb-true 1 (ending S t p).copies e))
      (λ e. let z = rw e at (sum_forget S (λ i q n. n) (λ b. 0) p t) in
      omega (arith, z, zero_in (freed S p t), ltb-false 1 (ending S t p).copies e, all_ending S (λ i q n. 0 < n) p t h))

  -- OF ONE VALUE
  module _ (L : Laws S) where
    open L use {same_cong}

    pub copies_copy : (p : Point) (t : Tree S) (v : Point) → found S t p ≡ true → copies S (add_copy S p t) v ≡ copies S t v + one S p v
    copies_copy p t v h =
        let z = sum_copy S (λ i q n. cond (same q v) n 0) (λ b. 0) p t in
        let e : same (ending S t p).value v ≡ same p v = same_cong (ending S t p).value p h v in
        by-test (same p v)
        (λ f. let y = rw (e ∙ f) at z in rw f (omega (arith, y)))
        (λ f. let y = rw (e ∙ f) at z in rw f (omega (arith, y)))

    pub copies_forget : (p : Point) (t : Tree S) (v : Point) → Filled t → found S t p ≡ true → sum_of S (λ i q n. cond (same q v) n 0) (λ b. 0) (forget S p t) + one S p v ≡ copies S t v
    copies_forget p t v c h =
        let z = sum_forget S (λ i q n. cond (same q v) n 0) (λ b. 0) p t in
        let e : same (ending S t p).value v ≡ same p v = same_cong (ending S t p).value p h v in
        let k : 0 < (ending S t p).copies = all_ending S (λ i q n. 0 < n) p t c in
        by-test (same p v)
        (λ f. let y = rw (e ∙ f) at z in rw f (by-test (ltb 1 (ending S t p).copies)
        (λ g. omega (arith, rw g at y, zero_in (freed S p t), ltb-true 1 (ending S t p).copies g))
        (λ g. omega (arith, rw g at y, zero_in (freed S p t), ltb-false 1 (ending S t p).copies g))))
        (λ f. let y = rw (e ∙ f) at z in rw f (by-test (ltb 1 (ending S t p).copies) (λ g. omega (arith, rw g at y, zero_in (freed S p t))) (λ g. omega (arith, rw g at y, zero_in (freed S p t)))))
