-- `runsteps::arrival_step` meets its contract. Assumes nothing.
use mathlib.Core.List.{[]}
use Rattle.runsteps.specs.Standing.{kept}
use Rattle.runsteps.specs.Steps.{room}
use Rattle.runsteps.proofs.Arrival.{sampled, few, stepped}
use Rattle.runsteps.proofs.arrival_step.Goals as goal

pub arrival_at-next-requires : goal.arrival_at-next-requires
arrival_at-next-requires c = let q = c.requires.state in
    record { there = c.requires.arrival; state = record { channels = _; share = _; world = q.world; state = q.standing.sample_is (sampled c.args.run.now c.args.p c.requires.arrival.0 c.requires.arrival.1) } }

pub write_reply-requires : goal.write_reply-requires
write_reply-requires c = let q = c.requires.state in
    let r = room c.args.words.now c.args.reply.now [] c.args.answers.now in
    let d = c.arrival_at-next.ensures in
    (few c.args.run.now c.args.p c.requires.arrival.0 c.requires.arrival.1 c.args.out c.args.current (kept c.args.store.now c.args.table.now.points c.args.table.now.written c.args.sample.now.weights c.args.sample.now.held) r _ _ _ _ _ _ [] d.done d.words q.world q.standing, c.requires.room)

pub returns : goal.returns
returns c = let d = c.arrival_at-next.ensures in
    record { done = λ rows X S. stepped c.args.run.now c.args.p c.requires.arrival.0 c.requires.arrival.1 c.args.out c.args.current (kept c.args.store.now c.args.table.now.points c.args.table.now.written c.args.sample.now.weights c.args.sample.now.held) (room c.args.words.now c.args.reply.now rows c.args.answers.now) _ _ _ _ _ _ _ d.done d.words X S c.write_reply.ensures; path = d.path }
