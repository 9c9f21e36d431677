-- `run::run_made` meets its contract. Assumes nothing.
use Rattle.pointstore.proofs.Empty.{unwritten}
use Rattle.run.proofs.Makings.{refused, no_room, starts, answers}
use Rattle.run.proofs.run_made.Goals as goal

pub make-requires : goal.make-requires
make-requires c = c.requires.making

pub returns-then-not-enough : goal.returns-then-not-enough
returns-then-not-enough c = λ q. rw c.number.ensures (no_room c.args.run.now c.args.answers.now _ _ _ _ c.make.ensures _ q _ c.in-Ok.is c.if-not-enough.true)

pub run_tree-requires : goal.run_tree-requires
run_tree-requires c = record { making = c.requires.making; ready = record { calls = _; started = starts c.args.run.now c.args.answers.now _ _ _ _ c.make.ensures _ c.requires.calls _ c.in-Ok.is _ _ (unwritten _ _ c.new-table.ensures.points c.new-table.ensures.written) c.if-not-enough.false } }

pub returns-in-Err : goal.returns-in-Err
returns-in-Err c = λ q. refused c.args.run.now c.args.answers.now _ _ _ _ c.make.ensures _ q _ _ c.in-Err.is c.tell_refusal.ensures

pub returns-else-not-enough : goal.returns-else-not-enough
returns-else-not-enough c = let t = c.in-Ok.is in
    λ q. answers c.args.run.now c.args.answers.now _ _ _ _ c.make.ensures _ q _ t _
    (c.run_tree.ensures _ (starts c.args.run.now c.args.answers.now _ _ _ _ c.make.ensures _ q _ t _ _ (unwritten _ _ c.new-table.ensures.points c.new-table.ensures.written) c.if-not-enough.false))
