-- `runcalls::add_call` meets its contract. Assumes nothing.
use native.Mathlib.Omega.{arith}
use Rattle.rungiven.proofs.Firsts.{firsts_taken}
use Rattle.runcalls.proofs.Given.{add_given, words_given}
use Rattle.runcalls.proofs.add_call.Goals as goal

pub returns : goal.returns
returns c = let m = c.number_at.ensures.0 in
    let n = c.at_most-n.ensures in
    let first = firsts_taken _ _ _ _ c.read_words.ensures (omega arith) in
    record { done = add_given c.args.run.now _ _ _ _ _ _ _ _ _ _ _ c.number_at-index.ensures.0 _ _ _ m n first c.add.ensures; words = words_given c.args.run.now c.args.p _ _ c.args.words.now _ m n first (omega (arith, n)) }
