-- Growing the boxes above a new branch ends where all that are left hold the point. Assumes nothing.
use mathlib.Core.Path.{◌≡◌, ap, ◌∙◌}
use mathlib.Core.List.{List, []}
use Prim.Native.Nat.{ℕ, ◌-◌, ◌≤◌}
use native.Mathlib.Omega.{arith}
use lib.ListN.{get_or}
use lib.Ieee.{Float}
use borrow.Author.Tests.{ltb-true}
use Rattle.limits.specs.Limits.{branch_limit}
use Rattle.cuttree.specs.Tree.{height}
use Rattle.cuttree.specs.Walk.{sub}
use Rattle.wholetree.specs.Whole.{whole}
use Rattle.layout.specs.Slots.{box_ends}
use Rattle.boxstore.specs.Edited.{GrownAbove}
use Rattle.boxstore.proofs.Partly.{at}
use Rattle.boxstore.proofs.Changes.{old_box}
use Rattle.boxstore.proofs.Grafts.{graft_held}
use Rattle.boxstore.proofs.Climbs.{held_still, index_is, Climbed, climb_start}
use Rattle.walkboxes.specs.Held.{HoldBefore}

pub climb_held : (k n from : ℕ) (path : List (List ℕ)) (point : List Float) (boxes B : List (List (List Float))) (r : ℕ) → k ≤ branch_limit → r ≤ n → r ≤ from → HoldBefore k from path point boxes → Climbed k n path point boxes B r
    → GrownAbove k n path point boxes B
climb_held k n from path point boxes B r few below done H C d c t p b i h cut W G =
    graft_held d c t p W.once b i h cut (omega (arith, G.above_it)) G.fresh k few B (height (whole d) t p - r) (omega (arith, G.above_it)) (omega arith) (C d c t p b i h cut W G)
    (λ g a l x.
    let j : get_or (get_or path (height (whole d) t p - g) []) 0 0 ≡ at d c t p g = index_is path point (height (whole d) t p - g) d c t p W (omega arith) ∙ ap (at d c t p) (omega arith) in
    let box : get_or boxes (get_or (get_or path (height (whole d) t p - g) []) 0 0) [] ≡ box_ends d c (sub (whole d) t g p) =
    ap (λ y. get_or boxes y []) j ∙ old_box d c p k t W.once few boxes (height (whole d) t p - n) (climb_start k n path point boxes few d c t p b i h cut W G) g (omega (arith, G.above_it)) l x in
    held_still d c p (sub (whole d) t g p) (rw (box, W.row) at (H (height (whole d) t p - g) (omega arith) (rw j (ltb-true _ k x)))))
