-- Branch numbers handed out and put back, for a tree's stack of free numbers. Assumes nothing.
use mathlib.Core.Path.{◌≡◌, refl, ap, ◌∙◌}
use mathlib.Core.List.{List, [], ◌∷◌}
use Prim.Native.Nat.{ℕ, ◌≤◌, ◌<◌}
use native.Mathlib.Omega.{arith}
use lib.ListN.{length}
use Rattle.limits.specs.Limits.{branch_limit}
use Rattle.intervalstoremanager.specs.declared.IntervalStoreManager.{IntervalStoreManager}
use Rattle.intervalstoremanager.specs.declared.Got.{Got}
use Rattle.std.specs.Prelude.{Option, Some, None}
use Rattle.intervalstoremanager.specs.Rows.{layout, in_use, got_of, got_on, rows_got, released_of, rows_released, Manages}
use Rattle.intervalstoremanager.specs.Stack.{next, after_get, after_release, holds, Proper, Once}
use Rattle.intervalstoremanager.proofs.Sizes.{few_intervals, never_full}
use Rattle.intervalstoremanager.proofs.Layouts.{get_on_stack}
use Rattle.cuttree.proofs.Tests.{nonsense}
use Rattle.treestore.specs.Arrays.{manager_of}

-- a stack that is not empty hands out its next number
got_some : (m : IntervalStoreManager) (u : List (ℕ × ℕ)) → 0 < length u → got_on m u ≡ Some (record { index = next u; manager = in_use m (length (after_get u)) })
unfolding got_on
got_some m [] h = absurd (omega arith)
got_some m (x ∷ xs) h = refl

module _ (m : IntervalStoreManager) (rows : List (List ℕ)) (u : List (ℕ × ℕ)) (M : m ≡ manager_of m.capacity u) (L : rows ≡ layout u) (S : m.capacity ≤ branch_limit) (P : Proper m.capacity u) (O : Once u) where
  manages : Manages m u
  manages = record { used = ap (λ (x : IntervalStoreManager). x.last_in_use) M; room = omega (arith, (few_intervals m.capacity u P O).0, (few_intervals m.capacity u P O).1) }

  module _ (b : ℕ) (B : b < m.capacity) (F : holds u b ≡ 0) where
    back : (released_of m (layout u) b ≡ Some (in_use m (length (after_release u b)))) × (rows_released m (layout u) b ≡ layout (after_release u b))
    back = never_full m.capacity m u b manages S P O B F

    pub put_back_is : (r : Option IntervalStoreManager) (rows' : List (List ℕ)) → r ≡ released_of m rows b → rows' ≡ rows_released m rows b
        → (r ≡ Some (manager_of m.capacity (after_release u b))) × (rows' ≡ layout (after_release u b))
    put_back_is r rows' e f =
        (e ∙ ap (λ (x : List (List ℕ)). released_of m x b) L ∙ back.0, f ∙ ap (λ (x : List (List ℕ)). rows_released m x b) L ∙ back.1)

  module _ (H : 0 < length u) where
    got : got_of m rows ≡ Some (record { index = next u; manager = in_use m (length (after_get u)) })
    got = ap (λ (x : List (List ℕ)). got_of m x) L ∙ (get_on_stack m u manages).0 ∙ got_some m u H

    pub get_done : (v : Got) (r : Option Got) (rows' : List (List ℕ)) → r ≡ got_of m rows → rows' ≡ rows_got m rows → r ≡ Some v
        → (v.index ≡ next u) × (v.manager ≡ manager_of m.capacity (after_get u)) × (rows' ≡ layout (after_get u))
    get_done v r rows' e f g =
        let h : got_of m rows ≡ Some (record { index = next u; manager = in_use m (length (after_get u)) }) = got in
        let z : v ≡ record { index = next u; manager = in_use m (length (after_get u)) } = cc in
        (ap (λ (x : Got). x.index) z, ap (λ (x : Got). x.manager) z, f ∙ ap (λ (x : List (List ℕ)). rows_got m x) L ∙ (get_on_stack m u manages).1)

    pub get_empty : {A : Type 0} (r : Option Got) → r ≡ got_of m rows → r ≡ None → A
    get_empty r e g = nonsense (let h : got_of m rows ≡ Some (record { index = next u; manager = in_use m (length (after_get u)) }) = got in cc)
