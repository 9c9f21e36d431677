-- `runsteps::step` meets its contract. Assumes nothing.
use mathlib.Core.Path.{refl, sym, ◌∙◌}
use native.Mathlib.Omega.{arith}
use Rattle.runsteps.specs.Standing.{kept}
use Rattle.runsteps.specs.Steps.{room}
use Rattle.runsteps.proofs.Arrival.{arrival_room}
use Rattle.runsteps.proofs.Asks.{report_inside, report_room, readable, reported, sample_room, sampled_told}
use Rattle.runsteps.proofs.Works.{arrival_works, report_works, other_works}
use Rattle.runsteps.proofs.step.Goals as goal

pub arrival_step-requires : goal.arrival_step-requires
arrival_step-requires c = let six = sym c.requires.stands.1 ∙ c.in-6.is in
    record { arrival = (six, c.requires.stands.0); state = c.requires.state; room = arrival_room c.args.run.now c.args.p six c.args.width c.args.out c.args.answers.now c.requires.room.0 c.requires.room.1 }

pub returns-in-6 : goal.returns-in-6
returns-in-6 c = let six = sym c.requires.stands.1 ∙ c.in-6.is in
    record { told = c.arrival_step.ensures.done c.args.rows.now; memory = arrival_works c.args.run.now c.args.p c.args.current (kept c.args.store.now c.args.table.now.points c.args.table.now.written c.args.sample.now.weights c.args.sample.now.held) c.args.path.now c.args.chances.now _ _ six c.requires.stands.0 c.arrival_step.ensures.path refl }

pub report_at-requires : goal.report_at-requires
report_at-requires c = let seven = sym c.requires.stands.1 ∙ c.in-7.is in
    record { place = report_inside c.args.run.now c.args.p c.requires.stands.0 seven; room = report_room c.args.run.now c.args.p c.requires.stands.0 seven c.args.width c.args.out c.args.answers.now c.requires.room.0 c.requires.room.1; state = readable c.args.run.now c.args.p c.requires.stands.0 seven c.args.current (kept c.args.store.now c.args.table.now.points c.args.table.now.written c.args.sample.now.weights c.args.sample.now.held) c.requires.state }

pub returns-in-7 : goal.returns-in-7
returns-in-7 c = let seven = sym c.requires.stands.1 ∙ c.in-7.is in
    record { told = reported c.args.run.now c.args.p c.requires.stands.0 seven c.args.out c.args.current (kept c.args.store.now c.args.table.now.points c.args.table.now.written c.args.sample.now.weights c.args.sample.now.held) (room c.args.words.now c.args.reply.now c.args.rows.now c.args.answers.now) _ _ c.report_at.ensures.told; memory = report_works c.args.run.now c.args.p c.args.current (kept c.args.store.now c.args.table.now.points c.args.table.now.written c.args.sample.now.weights c.args.sample.now.held) c.args.path.now c.args.chances.now _ _ seven c.report_at.ensures.memory }

pub write_sample-requires : goal.write_sample-requires
write_sample-requires c = let eleven = sym c.requires.stands.1 ∙ c.in-11.is in
    sample_room c.args.run.now c.args.p c.requires.stands.0 eleven c.args.width c.args.out c.args.answers.now c.args.current (kept c.args.store.now c.args.table.now.points c.args.table.now.written c.args.sample.now.weights c.args.sample.now.held) c.requires.state c.requires.room.0 c.requires.room.1

pub returns-in-11 : goal.returns-in-11
returns-in-11 c = let eleven = sym c.requires.stands.1 ∙ c.in-11.is in
    record { told = sampled_told c.args.run.now c.args.p c.requires.stands.0 eleven c.args.out c.args.current (kept c.args.store.now c.args.table.now.points c.args.table.now.written c.args.sample.now.weights c.args.sample.now.held) (room c.args.words.now c.args.reply.now c.args.rows.now c.args.answers.now) _ c.write_sample.ensures; memory = other_works c.args.run.now c.args.p c.args.current (kept c.args.store.now c.args.table.now.points c.args.table.now.written c.args.sample.now.weights c.args.sample.now.held) c.args.path.now c.args.chances.now _ _ (λ x. omega arith) (λ x. omega arith) refl refl }

pub plain_step-requires : goal.plain_step-requires
plain_step-requires c = record { plain = ((λ x. omega arith, λ x. omega arith, λ x. omega arith), c.requires.stands.0); state = record { weights = _; held = _; some = c.requires.state }; room = c.requires.room }

pub returns-in_default : goal.returns-in_default
returns-in_default c = record { told = c.plain_step.ensures c.args.sample.now.weights c.args.sample.now.held c.args.rows.now; memory = other_works c.args.run.now c.args.p c.args.current (kept c.args.store.now c.args.table.now.points c.args.table.now.written c.args.sample.now.weights c.args.sample.now.held) c.args.path.now c.args.chances.now _ _ (λ x. omega arith) (λ x. omega arith) refl refl }
