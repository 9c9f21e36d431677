-- `archivelines::put_arrival` meets its contract. Assumes nothing.
use native.Mathlib.Omega.{arith}
use mathlib.Core.Path.{◌≡◌}
use lib.ListN.{get_or}
use Rattle.archivelines.proofs.Answers.{arrival_passed, arrival_kept, arrival_evicted}
use Rattle.archivelines.proofs.put_arrival.Goals as goal

pub returns-in-0-clause-wrote : goal.returns-in-0-clause-wrote
returns-in-0-clause-wrote c = arrival_passed _ _ c.in-0.is c.put_passed.ensures.wrote

pub returns-in-1-clause-wrote : goal.returns-in-1-clause-wrote
returns-in-1-clause-wrote c = arrival_kept _ _ c.in-1.is c.put_kept.ensures.wrote

pub returns-in_default-clause-wrote : goal.returns-in_default-clause-wrote
returns-in_default-clause-wrote c = arrival_evicted _ _ (λ (n : get_or c.args.numbers 1 0 ≡ 0). omega (arith, n)) (λ (n : get_or c.args.numbers 1 0 ≡ 1). omega (arith, n)) c.put_evicted.ensures.wrote
