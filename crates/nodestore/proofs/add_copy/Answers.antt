-- `add_copy` meets its contract: it changes the leaf's copies and the masses of the branches above. Assumes nothing.
use native.Mathlib.Omega.{arith}
use Prim.Native.Nat.{◌-◌}
use Rattle.limits.specs.Limits.{total_limit}
use Rattle.nodestore.proofs.Masses.{climb_low}
use Rattle.nodestore.proofs.Ends.{index_low, copies_most, copy_climb, more_arrays}
use Rattle.nodestore.proofs.add_copy.Goals as goal

pub recount-requires : goal.recount-requires
recount-requires c = let s = c.requires in record { index_lt_point_limit = index_low s.reached; countable = (omega arith, copies_most s.reached (total_limit - 1) s.room) }

pub manage_ancestors-requires : goal.manage_ancestors-requires
manage_ancestors-requires c = let s = c.requires in climb_low (copy_climb s.reached (total_limit - 1) s.room)

pub returns : goal.returns
returns c = λ d x cuts t p w. rw (c.manage_ancestors.ensures, c.recount.ensures) (more_arrays w)
