-- An empty table: nothing is written. Assumes nothing.
use mathlib.Core.Path.{◌≡◌, refl, ◌∙◌}
use mathlib.Core.Option.{none}
use mathlib.Core.List.{List}
use Prim.Native.Nat.{ℕ}
use lib.ListN.{replicate}
use lib.Ieee.{Float}
use Rattle.limits.specs.Limits.{point_limit}
use Rattle.layout.specs.Layout.{no_ends, table_of}
use Rattle.layout.proofs.Tabs.{constant}

-- a table with nothing written
pub unwritten : (points : List (List Float)) (marks : List ℕ) → points ≡ replicate point_limit no_ends → marks ≡ replicate point_limit 0 → record { points = points; written = marks } ≡ table_of (λ i. none)
unwritten points marks e f =
    let p : points ≡ (table_of (λ i. none)).points = e ∙ constant point_limit no_ends _ (λ i. refl) in
    let m : marks ≡ (table_of (λ i. none)).written = f ∙ constant point_limit 0 _ (λ i. refl) in
    rw (p, m) refl
