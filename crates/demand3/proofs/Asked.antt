-- What the code's queries answer of a state is what its world is asked. Assumes nothing.
use mathlib.Core.Path.{◌≡◌, refl, ap, ◌∙◌}
use Prim.Native.Nat.{ℕ}
use lib.Ieee.{Float}
use Rattle.cuttree.specs.Run.{World, Query, copies_of, branch_of, box_of, query, Answer, ask, look_in}
use Rattle.wholetree.specs.Whole.{whole}
use Rattle.randomcuttree.specs.State.{State}
use Rattle.randomcuttree.proofs.Told.{copies_are_told, branches_are_told}
use Rattle.demand3.specs.Heard.{heard_copies, heard_branch, heard_box}
use Rattle.demand3.specs.Steps.{Kept, CallStep}
use Rattle.demand3.proofs.Heard.{heard_copies_lem, heard_branch_lem, heard_box_lem}

pub asked_is : (d c : ℕ) (s : Float) (W : World (whole d)) (x : Kept) → State d c s W x.tree x.arrays x.table.points x.table.written → (q : Query) (a : Answer (whole d)) (y : Kept) → CallStep d x (query q) a y → a ≡ ask (whole d) c W q
asked_is d c s W x S (copies_of n) a y e =
    e.0 ∙ ap (heard_copies d) (copies_are_told x.tree x.arrays.copies n d c s W x.arrays x.table.points x.table.written S refl) ∙ heard_copies_lem d (look_in (whole d) c W.tree n)
asked_is d c s W x S (branch_of n) a y e =
    e.0 ∙ ap (heard_branch d) (branches_are_told x.tree x.arrays.nodes x.arrays.cuts n d c s W x.arrays x.table.points x.table.written S refl refl) ∙ heard_branch_lem d c (look_in (whole d) c W.tree n)
asked_is d c s W x S (box_of n) a y (r, e, told, same) =
    e ∙ ap (heard_box d) (told d c s W x.arrays x.table.written S (record { nodes_are = refl; boxes_are = refl })) ∙ heard_box_lem d (look_in (whole d) c W.tree n)
