-- `archiveend::put_entries` meets its contract. Assumes nothing.
use mathlib.Core.Path.{◌∙◌}
use native.Mathlib.Omega.{arith}
use Rattle.lines.proofs.Writes.{long}
use Rattle.archiveend.proofs.Entries.{put_start, put_step, put_end}
use Rattle.archiveend.proofs.put_entries.Goals as goal

pub loop-i-init : goal.loop-i-init
loop-i-init c = put_start

pub put_entry-p-requires : goal.put_entry-p-requires
put_entry-p-requires c = omega (arith, c.loop-i.invariant.few, c.loop-i.invariant.within, c.requires.0, c.requires.1)

pub loop-i-preserved : goal.loop-i-preserved
loop-i-preserved c = put_step c.loop-i.invariant c.loop-i-test.true (c.wide32-bits.ensures.0 ∙ c.pattern_of.ensures) c.wide16.ensures.0 c.put_entry-p.ensures.wrote c.put_entry-p.ensures.few

pub shape_of-out : goal.shape_of-out
shape_of-out c = long c.loop-i.invariant.wrote

pub returns : goal.returns
returns c = record { wrote = put_end c.loop-i.invariant c.loop-i-test.false; few = omega (arith, c.loop-i.invariant.few, c.loop-i.invariant.within, c.requires.0) }
