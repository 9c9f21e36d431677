-- `form::all_fields` meets its contract. Assumes nothing.
use Rattle.std.proofs.Common.{refl}
use Rattle.form.proofs.Fields.{test_bad, test_step, test_end}
use Rattle.form.proofs.all_fields.Goals as goal

pub returns-then-not-test : goal.returns-then-not-test
returns-then-not-test g c = test_bad c.loop-at.invariant c.loop-at-test.true c.piece_end-end.ensures (record { shown = _; shows = refl; says = record { met = c.test.ensures } }) c.if-not-test.true

pub loop-at-preserved : goal.loop-at-preserved
loop-at-preserved g c = test_step c.loop-at.invariant c.loop-at-test.true c.piece_end-end.ensures (record { shown = _; shows = refl; says = record { met = c.test.ensures } }) c.if-not-test.false

pub returns : goal.returns
returns g c = test_end c.loop-at.invariant c.loop-at-test.false
