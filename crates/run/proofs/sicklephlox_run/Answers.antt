-- `run::sicklephlox_run` meets its contract. Assumes nothing.
use mathlib.Core.Path.{sym, ◌∙◌}
use native.Mathlib.Omega.{arith}
use Rattle.run.proofs.Checking.{no_making, gives, out_of_layout, checked}
use Rattle.run.proofs.sicklephlox_run.Goals as goal

pub returns-then-not-begins_with_making : goal.returns-then-not-begins_with_making
returns-then-not-begins_with_making c = rw c.number.ensures (no_making c.args.run.now c.args.answers.now (sym c.begins_with_making.ensures ∙ c.if-not-begins_with_making.true))

pub check_calls-requires : goal.check_calls-requires
check_calls-requires c = (sym c.begins_with_making.ensures ∙ c.if-not-begins_with_making.false, omega (arith, c.well_formed))

pub run_made-requires : goal.run_made-requires
run_made-requires c = let m = (sym c.begins_with_making.ensures ∙ c.if-not-begins_with_making.false) in
    record { making = m; calls = checked c.args.run.now c.args.answers.now m _ (sym c.in-Some.is ∙ c.check_calls.ensures) }

pub returns-in-None : goal.returns-in-None
returns-in-None c = rw c.number-in-None.ensures (out_of_layout c.args.run.now c.args.answers.now (sym c.begins_with_making.ensures ∙ c.if-not-begins_with_making.false) (sym c.in-None.is ∙ c.check_calls.ensures))

pub returns-in-Some : goal.returns-in-Some
returns-in-Some c = let m = (sym c.begins_with_making.ensures ∙ c.if-not-begins_with_making.false) in
    let q = checked c.args.run.now c.args.answers.now m _ (sym c.in-Some.is ∙ c.check_calls.ensures) in
    gives c.args.run.now c.args.answers.now m _ q _ (c.run_made.ensures q)
