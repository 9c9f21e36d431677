use mathlib.Core.Path.{◌≡◌}
use lib.ListN.{drop}
use Rattle.wholetree.specs.Whole.{all_coordinates}
use Rattle.pointstore.proofs.all_coordinates.Given as goal

-- what is left gives what the whole gives
abbrev pub invariant-loop-x : goal.invariant-loop-x
invariant-loop-x l = all_coordinates (drop l.x-index l.coordinates) ≡ all_coordinates l.coordinates
