-- `run::run_tree` meets its contract. Assumes nothing.
use native.Mathlib.Omega.{arith}
use Rattle.runsteps.specs.Standing.{kept}
use Rattle.run.proofs.Starts.{start, gives}
use Rattle.run.proofs.run_tree.Goals as goal

pub run_calls-requires : goal.run_calls-requires
run_calls-requires c = let q = c.requires.ready in
    record { making = c.requires.making; ready = record { final = _; count = _; running = start c.args.run.now _ _ (kept c.args.store.now c.args.table.now.points c.args.table.now.written c.args.sample.now.weights c.args.sample.now.held) _ _ q.started c.put_u32.ensures } }

pub overflow_mul-result : goal.overflow_mul-result
overflow_mul-result c = let q = c.requires.ready in
    omega (arith, (c.run_calls.ensures _ _ (start c.args.run.now _ _ (kept c.args.store.now c.args.table.now.points c.args.table.now.written c.args.sample.now.weights c.args.sample.now.held) _ _ q.started c.put_u32.ensures)).0, q.started.room, c.well_formed)

pub returns : goal.returns
returns c = let e = c.put_u32.ensures in
    λ cs S. gives c.args.run.now _ _ (kept c.args.store.now c.args.table.now.points c.args.table.now.written c.args.sample.now.weights c.args.sample.now.held) _ _ S e _ _ (c.run_calls.ensures _ _ (start c.args.run.now _ _ (kept c.args.store.now c.args.table.now.points c.args.table.now.written c.args.sample.now.weights c.args.sample.now.held) _ _ S e))
