-- `run::words::sicklephlox_words` meets its contract. Assumes nothing.
use native.Mathlib.Omega.{arith}
use Rattle.run.proofs.Source.{count_few, returns_it}
use Rattle.run.proofs.words.sicklephlox_words.Goals as goal

pub overflow_mul-result : goal.overflow_mul-result
overflow_mul-result c = let few = count_few c.args.key.now c.args.start c.args.words.now _ _ c.fill.ensures _ c.in-Ok.is in
    omega arith

pub returns-in-Ok : goal.returns-in-Ok
returns-in-Ok c = returns_it c.args.key.now c.args.start c.args.words.now _ _ c.fill.ensures _ c.in-Ok.is

pub returns-in-Err : goal.returns-in-Err
returns-in-Err c = rw c.number.ensures (returns_it c.args.key.now c.args.start c.args.words.now _ _ c.fill.ensures _ c.in-Err.is)
