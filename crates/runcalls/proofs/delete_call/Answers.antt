-- `runcalls::delete_call` meets its contract. Assumes nothing.
use Rattle.runcalls.proofs.Given.{delete_given}
use Rattle.runcalls.proofs.delete_call.Goals as goal

pub returns : goal.returns
returns c = delete_given c.args.run.now _ _ _ _ _ _ _ _ _ _ _ c.number_at-index.ensures.0 c.delete.ensures
