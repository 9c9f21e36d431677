-- `drop_copy` meets its contract: it changes the leaf's copies and the masses of the branches above. Assumes nothing.
use native.Mathlib.Omega.{arith}
use Rattle.limits.specs.Limits.{total_limit}
use Rattle.nodestore.proofs.Ends.{index_low, copies_most, copy_climb, less_arrays}
use Rattle.nodestore.proofs.drop_copy.Goals as goal

pub recount-requires : goal.recount-requires
recount-requires c = let s = c.requires in record { index_lt_point_limit = index_low s.some_reached.reached; countable = (omega (arith, s.bound), copies_most s.some_reached.reached total_limit s.some_reached.room) }

pub manage_ancestors-requires : goal.manage_ancestors-requires
manage_ancestors-requires c = let s = c.requires.some_reached in copy_climb s.reached total_limit s.room

pub returns : goal.returns
returns c = λ d x cuts t p w. rw (c.manage_ancestors.ensures, c.recount.ensures) (less_arrays w c.requires.bound)
