-- `runcalls::put_call` meets its contract. Assumes nothing.
use native.Mathlib.Omega.{arith}
use Rattle.rungiven.proofs.Firsts.{firsts_taken}
use Rattle.runcalls.proofs.Given.{put_given}
use Rattle.runcalls.proofs.put_call.Goals as goal

pub returns : goal.returns
returns c =
    λ a e. put_given c.args.run.now _ _ _ _ _ _ _ _ _ _ _ c.number_at-index.ensures.0 _ _ _ c.number_at.ensures.0 c.at_most-n.ensures (firsts_taken _ _ _ _ c.read_coordinates.ensures (omega arith)) (λ xs. c.put.ensures.does a xs e)
