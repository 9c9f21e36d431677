-- Small facts of a stored tree that every edit of it uses.
use mathlib.Core.Path.{◌≡◌, ap, ◌∙◌}
use mathlib.Core.Bool.{Bool, cond}
use mathlib.Core.List.{List, []}
use Prim.Native.Nat.{ℕ, ◌+◌, ◌-◌, ◌≤◌, ◌<◌}
use native.Mathlib.Omega.{arith}
use lib.Dec.{eqb}
use lib.ListN.{length, get_or, take, set}
use lib.Seq.{get_or-take, length-take-le}
use borrow.Author.Tests.{eqb-true, eqb-false}
use Rattle.limits.specs.Limits.{branch_limit}
use Rattle.cuttree.specs.Setting.{Setting}
use Rattle.cuttree.specs.Tree.{Tree, is, id, height}
use Rattle.cuttree.specs.Walk.{sub, replace}
use Rattle.cuttree.proofs.Tests.{by-test}
use Rattle.cuttree.proofs.Heights.{replace_top, sum_replace}
use Rattle.wholetree.specs.Reading.{Reading}
use Rattle.wholetree.specs.Whole.{whole}
use Rattle.layout.specs.Slots.{uses, field}
use Rattle.layout.proofs.Replaced.{id_replace}
use Rattle.nodestore.specs.Rows.{mass_over, redirect, relink}

-- cell, pointer and masses written one after the other, at a number that is b
pub edited : (f : ℕ → ℕ) (N above : List (List ℕ)) (row : List ℕ) (old new : ℕ) {N₁ N₂ N₃ : List (List ℕ)} {w b : ℕ} → w ≡ b → N₁ ≡ set N w row → N₂ ≡ relink N₁ above (length above) old new → N₃ ≡ mass_over f above N₂ →
    N₃ ≡ mass_over f above (relink (set N b row) above (length above) old new)
edited f N above row old new e g h m = m ∙ ap (mass_over f above) (h ∙ ap (λ n. relink n above (length above) old new) (g ∙ ap (λ x. set N x row) e))

-- the first k rows of a path on their own: what stands below them, and the last of them
module _ (path : List (List ℕ)) (k : ℕ) (long : k ≤ length path) where
  pub relinked : (N : List (List ℕ)) (old new : ℕ) → relink N (take k path) (length (take k path)) old new ≡ relink N path k old new
  relinked N old new = ap (λ n. relink N (take k path) n old new) (length-take-le k path long) ∙ by-test (eqb k 0)
      (λ e. rw e)
      (λ e. ap (λ (r : List ℕ). cond (eqb k 0) N (redirect N (get_or r 0 0) old new)) (let n = eqb-false k 0 e in get_or-take k path (k - 1) [] (omega arith)))

  pub last_taken : (0 < k → field path (k - 1) 0 < branch_limit) → 0 < length (take k path) → field (take k path) (length (take k path) - 1) 0 < branch_limit
  last_taken h = rw (length-take-le k path long) (λ l. rw (get_or-take k path (k - 1) [] (omega arith)) (h l))

pub no_either : (b : Bool) → cond {A = ℕ} b 0 0 ≡ 0
no_either b = by-test b (λ e. rw e) (λ e. rw e)

module _ (d c : ℕ) where
  abbrev S : Setting
  S = whole d

  pub uses_replace : (t s : Tree S) (p : Reading) (h j : ℕ) → h ≤ height S t p → uses d c (replace S t h p s) j + uses d c (sub S t h p) j ≡ uses d c t j + uses d c s j
  uses_replace t s p h j m = sum_replace S (λ i q n. 0) (λ b. is b j) h p s t m

  -- the root's id, with k branches above the node that is replaced
  pub root_replace : (t s : Tree S) (p : Reading) (h k : ℕ) → k + h ≡ height S t p → id S c (replace S t h p s) ≡ cond (eqb k 0) (id S c s) (id S c t)
  root_replace t s p h k e = by-test (eqb k 0)
      (λ x. let z : h ≡ height S t p = omega (arith, eqb-true k 0 x) in rw x (ap (id S c) (ap (λ y. replace S t y p s) z ∙ replace_top S t p s)))
      (λ x. let z = eqb-false k 0 x in rw x (id_replace d c h p s t (omega arith)).0)
