-- The masses of the rows from k on are changed.
use mathlib.Core.Path.{◌≡◌}
use Prim.Native.Nat.{◌≤◌}
use lib.ListN.{length, drop}
use denote.Param.{number}
use Rattle.nodestore.specs.Rows.{mass_over, counted}
use Rattle.nodestore.specs.contracts.manage_ancestors.{MORE-type}
use Rattle.nodestore.proofs.manage_ancestors.Given as goal

abbrev pub invariant-loop-k : goal.invariant-loop-k
invariant-loop-k g l = (l.k ≤ length l.above) × (l.nodes ≡ mass_over (counted (MORE-type (number g.row.MORE))) (drop l.k l.above) l.initial.nodes)
