-- `arrivals::put_two` meets its contract. Assumes nothing.
use mathlib.Core.List.{[], ◌∷◌}
use native.Mathlib.Omega.{arith}
use Rattle.answers.proofs.Written.{then_more}
use Rattle.arrivals.proofs.put_two.Goals as goal

pub returns : goal.returns
returns c = let args = c.args in
    then_more args.out args.answers.now _ _ (args.first ∷ []) (args.second ∷ []) _ (omega arith) c.put_u32.ensures c.put_u32-2.ensures
