-- `runlayout::answer_width` meets its contract. Assumes nothing.
use native.Mathlib.Omega.{arith}
use Rattle.runlayout.proofs.Rest.{making_whole, making_five}
use Rattle.runlayout.proofs.answer_width.Goals as goal

pub number_or_none-second-requires : goal.number_or_none-second-requires
number_or_none-second-requires c = making_whole c.args.run.now c.requires.0

pub number_at-requires-2 : goal.number_at-requires-2
number_at-requires-2 c = omega (arith, making_five c.args.run.now c.requires.0)

pub number_at-requires-3 : goal.number_at-requires-3
number_at-requires-3 c = omega (arith, making_five c.args.run.now c.requires.0)

pub returns : goal.returns
returns c = (rw (← c.number_at-3.ensures.0, ← c.number_at-2.ensures.0, ← c.number_at.ensures.0, ← c.number_or_none-second.ensures.0) c.width_of_kind.ensures.0, c.width_of_kind.ensures.1)
