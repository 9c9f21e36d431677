-- The number that goes with a last copy is one of the tree's branches', and so one of those that the tree may use.
use mathlib.Core.Path.{◌≡◌, refl, ap, ◌∙◌}
use mathlib.Core.Bool.{cond}
use mathlib.Core.Option.{some}
use Prim.Native.Nat.{ℕ, ◌+◌, ◌<◌}
use native.Mathlib.Omega.{arith}
use lib.Dec.{ltb}
use borrow.Author.Tests.{ltb-true}
use Rattle.cuttree.specs.Setting.{Setting}
use Rattle.cuttree.specs.Tree.{Tree, is, ending, sum, freed}
use Rattle.cuttree.proofs.Tests.{by_cond, by-test}
use Rattle.cuttree.proofs.Sums.{sum_forget, number_in}
use Rattle.cuttree.proofs.Intervals.{is_same}

module _ (S : Setting) where
  open S use {Point}

  pub freed_used : (p : Point) (t : Tree S) (b : ℕ) → freed S p t ≡ some b → 0 < sum S (λ i q n. 0) (λ x. is x b) t
  freed_used p t b e =
      let z = sum_forget S (λ i q n. 0) (λ x. is x b) p t in
      let y : cond {A = ℕ} (ltb 1 (ending S t p).copies) 0 0 ≡ 0 = by_cond (λ x. x ≡ 0) (ltb 1 (ending S t p).copies) _ _ (λ _. refl) (λ _. refl) in
      let x : number_in (λ x. is x b) (freed S p t) ≡ 1 = ap (number_in (λ x. is x b)) e ∙ is_same b in omega (arith, z)

  -- n numbers may be used, and b is used or free (h) as often as it is one of them
  pub freed_below : (p : Point) (t : Tree S) (b n h : ℕ) → freed S p t ≡ some b → sum S (λ i q n. 0) (λ x. is x b) t + h ≡ cond (ltb b n) 1 0 → b < n
  freed_below p t b n h e s = by-test (ltb b n) (λ y. ltb-true b n y) (λ y. absurd (omega (arith, freed_used p t b e, rw y at s)))
