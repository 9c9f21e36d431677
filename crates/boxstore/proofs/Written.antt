-- A box written where its branch is cached: what stands at each number after. Assumes nothing.
use mathlib.Core.Path.{◌≡◌, sym, ap, ◌∙◌}
use mathlib.Core.Bool.{cond}
use mathlib.Core.List.{List, []}
use Prim.Native.Nat.{ℕ, ◌≤◌, ◌<◌}
use native.Mathlib.Omega.{arith}
use lib.Dec.{ltb}
use lib.ListN.{length, get_or, set, length-set}
use lib.Seq.{get_or-set_same, get_or-set_other}
use lib.Ieee.{Float}
use borrow.Author.Tests.{lt-ltb, le-ltb, ltb-true, ltb-false}
use Rattle.cuttree.proofs.Tests.{by-test, cond_false}
use Rattle.layout.specs.Layout.{no_box_ends}
use Rattle.boxstore.specs.Written.{written}

module _ (k j : ℕ) (x : List (List Float)) (boxes : List (List (List Float))) where
  pub written_cached : j < k → written k j x boxes ≡ set boxes j x
  unfolding written
  written_cached h = rw (lt-ltb j k h)

  pub written_other : k ≤ j → written k j x boxes ≡ boxes
  unfolding written
  written_other h = rw (le-ltb j k h)

  pub written_length : length (written k j x boxes) ≡ length boxes
  written_length = by-test (ltb j k) (λ e. rw (written_cached (ltb-true j k e)) (length-set boxes j x)) (λ e. rw (written_other (ltb-false j k e)))

  -- at its own number: the box, where it is cached
  pub written_here : k ≤ length boxes → (y : List (List Float)) → get_or boxes j [] ≡ cond (ltb j k) y no_box_ends → get_or (written k j x boxes) j [] ≡ cond (ltb j k) x no_box_ends
  written_here l y e = by-test (ltb j k)
      (λ t. rw (t, written_cached (ltb-true j k t)) (get_or-set_same boxes j x [] (omega (arith, ltb-true j k t))))
      (λ t. ap (λ b. get_or b j []) (written_other (ltb-false j k t)) ∙ e ∙ cond_false _ _ _ t ∙ sym (cond_false _ _ _ t))

  pub written_there : (i : ℕ) → (j ≡ i → ⊥) → get_or (written k j x boxes) i [] ≡ get_or boxes i []
  written_there i n = by-test (ltb j k) (λ e. rw (written_cached (ltb-true j k e)) (get_or-set_other boxes j i x [] (λ z. n (sym z)))) (λ e. rw (written_other (ltb-false j k e)))
