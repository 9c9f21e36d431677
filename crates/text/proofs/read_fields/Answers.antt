-- `text::read_fields` meets its contract. Assumes nothing.
use Rattle.text.proofs.Stores.{store_step, store_skip, store_count, store_end}
use Rattle.std.proofs.Common.{refl}
use Rattle.text.proofs.read_fields.Goals as goal
use Rattle.text.proofs.read_fields.Goals.{then-n-values, else-n-values}

pub loop-at-preserved : goal.loop-at-preserved
loop-at-preserved g c = elim c.if-n-values.branch [
  | then-n-values w ↦ rw w.values-is (store_step c.loop-at.invariant c.loop-at-test.true c.piece_end-end.ensures (record { shown = _; shows = refl; says = record { met = w.read.ensures } }))
  | else-n-values w ↦ rw w.values-is (store_skip c.loop-at.invariant c.loop-at-test.true c.piece_end-end.ensures w.if-n-values.false)
]

pub returns-clause-value : goal.returns-clause-value
returns-clause-value g c = store_count c.loop-at.invariant c.loop-at-test.false

pub returns-clause-values_after : goal.returns-clause-values_after
returns-clause-values_after g c = store_end c.loop-at.invariant c.loop-at-test.false
