-- Every edit is one node of the walk replaced: the leaf with a copy more or less, the leaf's parent by the sibling, or the node above
-- which the new branch stands (`Loop`).
use mathlib.Core.Path.{◌≡◌, refl, sym, ap, ◌∙◌}
use mathlib.Core.Bool.{true, false}
use mathlib.Core.Option.{Option, none, some}
use Prim.Native.Nat.{ℕ, zero, suc, ◌-◌, ◌<◌}
use native.Mathlib.Omega.{arith}
use lib.Dec.{ltb}
use Rattle.cuttree.specs.Setting.{Setting, Cut}
use Rattle.cuttree.specs.Tree.{Tree, leaf, branch, id, Leaf, ending, height, add_copy, forget, freed, or_lifted, or_parent}
use Rattle.cuttree.specs.Walk.{sub, sibling, replace}
use Rattle.cuttree.proofs.Tests.{cond_true, cond_false}
use Rattle.cuttree.proofs.Steps.{toward, aside, rejoin, along, rejoined, ending_step, height_step, forget_step, freed_step}
use Rattle.cuttree.proofs.Heights.{sub_top, sub_down, replace_top, replace_down, sibling_top, sibling_down}

module _ (S : Setting) where
  open S use {Point}

  -- the walk's leaf with another number of copies
  abbrev pub leaf_with : Tree S → Point → ℕ → Tree S
  leaf_with t p n = leaf (ending S t p).index (ending S t p).value n

  pub copy_replace : (p : Point) (t : Tree S) → add_copy S p t ≡ replace S t 0 p (leaf_with t p (suc (ending S t p).copies))
  copy_replace p = along S (λ t. add_copy S p t ≡ replace S t 0 p (leaf_with t p (suc (ending S t p).copies))) p (λ i q n. refl)
      (λ b k l r ih. rejoined S b k l r p (add_copy S p) ∙ ap (λ x. rejoin S b k l r p x) ih
      ∙ sym (replace_down S b k l r p 0 _ (omega arith) ∙ ap (λ (e : Leaf S). rejoin S b k l r p (replace S (toward S k p l r) 0 p (leaf e.index e.value (suc e.copies)))) (ending_step S b k l r p)))

  -- at a branch, from the side that the point goes to
  forget_branch : (b : ℕ) (k : Cut S) (l r : Tree S) (p : Point) (o : Option (Tree S)) → forget S p (toward S k p l r) ≡ o →
      (forget S p (branch b k l r) ≡ some (or_lifted S o (λ x. rejoin S b k l r p x) (aside S k p l r))) × (freed S p (branch b k l r) ≡ or_parent S o b (freed S p (toward S k p l r)))
  forget_branch b k l r p o e = (
    ap some (forget_step S b k l r p ∙ ap (λ y. or_lifted S y (λ x. rejoin S b k l r p x) (aside S k p l r)) e),
    freed_step S b k l r p ∙ ap (λ y. or_parent S y b (freed S p (toward S k p l r))) e,
  )

  -- copies are left
  abbrev pub Lessened : Tree S → Point → Type 0
  Lessened t p = (forget S p t ≡ some (replace S t 0 p (leaf_with t p ((ending S t p).copies - 1)))) × (freed S p t ≡ none)

  pub less_replace : (p : Point) (t : Tree S) → ltb 1 (ending S t p).copies ≡ true → Lessened t p
  less_replace p = along S (λ t. ltb 1 (ending S t p).copies ≡ true → Lessened t p) p
      (λ i q n e. (cond_true _ _ _ e, refl))
      (λ b k l r ih e.
      let h = ih (rw (ending_step S b k l r p) at e) in
      let x = forget_branch b k l r p _ h.0 in (
        x.0 ∙ ap some (sym (replace_down S b k l r p 0 _ (omega arith)
            ∙ ap (λ (e : Leaf S). rejoin S b k l r p (replace S (toward S k p l r) 0 p (leaf e.index e.value (e.copies - 1)))) (ending_step S b k l r p))),
        x.1 ∙ h.1,
      ))

  -- the last copy: a lone leaf is gone
  pub last_alone : (p : Point) (t : Tree S) → height S t p ≡ 0 → ltb 1 (ending S t p).copies ≡ false → (forget S p t ≡ none) × (freed S p t ≡ none)
  last_alone p (leaf i q n) h e = (cond_false _ _ _ e, refl)
  last_alone p (branch b k l r) h e = absurd (omega arith)

  -- the last copy: the sibling stands in the parent's place, and the parent's number is free
  abbrev pub Lifted : ℕ → Tree S → Point → Type 0
  Lifted c t p = (forget S p t ≡ some (replace S t 1 p (sibling S t 0 p))) × (freed S p t ≡ some (id S c (sub S t 1 p)))

  lift_here : (c b : ℕ) (k : Cut S) (l r : Tree S) (p : Point) → height S (toward S k p l r) p ≡ 0 → ltb 1 (ending S (toward S k p l r) p).copies ≡ false → Lifted c (branch b k l r) p
  lift_here c b k l r p h e =
      let x = forget_branch b k l r p none (last_alone p (toward S k p l r) h e).0 in
      let o : height S (branch b k l r) p ≡ 1 = height_step S b k l r p ∙ ap suc h in (
        x.0 ∙ ap some (sym (ap (λ n. replace S (branch b k l r) n p (sibling S (branch b k l r) 0 p)) (sym o) ∙ replace_top S (branch b k l r) p _
            ∙ ap (λ n. sibling S (branch b k l r) n p) (sym h) ∙ sibling_top S b k l r p)),
        x.1 ∙ ap (λ y. some (id S c y)) (sym (ap (λ n. sub S (branch b k l r) n p) (sym o) ∙ sub_top S (branch b k l r) p)),
      )

  lift_down : (c b : ℕ) (k : Cut S) (l r : Tree S) (p : Point) → 0 < height S (toward S k p l r) p → Lifted c (toward S k p l r) p → Lifted c (branch b k l r) p
  lift_down c b k l r p m h =
      let x = forget_branch b k l r p _ h.0 in (
        x.0 ∙ ap some (sym (replace_down S b k l r p 1 _ m ∙ ap (λ y. rejoin S b k l r p (replace S (toward S k p l r) 1 p y)) (sibling_down S b k l r p 0 m))),
        x.1 ∙ h.1 ∙ ap (λ y. some (id S c y)) (sym (sub_down S b k l r p 1 m)),
      )

  by_zero : {P : Type 0} (n : ℕ) → (n ≡ 0 → P) → (0 < n → P) → P
  by_zero zero f g = f refl
  by_zero (suc n) f g = g (omega arith)

  pub last_lifted : (c : ℕ) (p : Point) (t : Tree S) → 0 < height S t p → ltb 1 (ending S t p).copies ≡ false → Lifted c t p
  last_lifted c p = along S (λ t. 0 < height S t p → ltb 1 (ending S t p).copies ≡ false → Lifted c t p) p
      (λ i q n m e. absurd (omega arith))
      (λ b k l r ih m e.
      let d : ltb 1 (ending S (toward S k p l r) p).copies ≡ false = rw (ending_step S b k l r p) at e in
      by_zero (height S (toward S k p l r) p) (λ h. lift_here c b k l r p h d) (λ h. lift_down c b k l r p h (ih h d)))
