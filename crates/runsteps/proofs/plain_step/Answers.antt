-- `runsteps::plain_step` meets its contract. Assumes nothing.
use mathlib.Core.List.{[]}
use Rattle.runsteps.specs.Standing.{kept}
use Rattle.runsteps.specs.Steps.{room}
use Rattle.runsteps.proofs.Plain.{few, stepped}
use Rattle.runsteps.proofs.plain_step.Goals as goal

pub call_at-tree-requires : goal.call_at-tree-requires
call_at-tree-requires c = let q = c.requires.state.some in
    record { plain = c.requires.plain; state = record { channels = _; capacity = _; share = _; world = _; state = q.standing.tree_is } }

pub write_reply-requires : goal.write_reply-requires
write_reply-requires c = let q = c.requires.state in
    let k = kept c.args.store.now c.args.table.now.points c.args.table.now.written q.weights q.held in
    let r = room c.args.words.now c.args.reply.now [] c.args.answers.now in
    let d = c.call_at-tree.ensures in
    (few c.args.run.now c.args.p c.requires.plain.0 c.requires.plain.1 c.args.out _ c.args.current k r _ _ _ _ _ _ [] c.requires.room.0 d.done d.words q.some.world q.some.standing, c.requires.room.1)

pub returns : goal.returns
returns c = let d = c.call_at-tree.ensures in
    λ weights held rows X S.
    let k = kept c.args.store.now c.args.table.now.points c.args.table.now.written weights held in
    let r = room c.args.words.now c.args.reply.now rows c.args.answers.now in
    stepped c.args.run.now c.args.p c.requires.plain.0 c.requires.plain.1 c.args.out _ c.args.current k r _ _ _ _ _ _ _ c.requires.room.0 d.done d.words X S c.write_reply.ensures
