-- `runreports::report_at` meets its contract. Assumes nothing.
use mathlib.Core.Path.{refl}
use native.Mathlib.Omega.{arith}
use Rattle.rungiven.proofs.Firsts.{firsts_taken}
use Rattle.runreports.proofs.Reports.{rows_limit, report_there, memory_there}
use Rattle.runreports.proofs.report_at.Goals as goal

pub write_report-requires : goal.write_report-requires
write_report-requires c = (omega (arith, rows_limit _ _ _ _ _ _ _ _ _ c.at_most.ensures c.args.rows.now _ _ (omega (arith, c.at_most.ensures)) refl _ c.traverse_in-answer.ensures.told c.requires.state, c.traverse_in-answer.auto.rows), omega (arith, c.requires.room, c.number_at-n.ensures.0))

pub returns : goal.returns
returns c = let s = c.args in
    let j = c.number_at.ensures.0 in
    let k = c.at_most-k.ensures in
    let xs = firsts_taken _ _ _ _ c.read_coordinates.ensures (omega arith) in
    record {
      told = report_there _ _ _ _ _ _ _ _ _ c.at_most.ensures s.rows.now _ _ (omega (arith, c.at_most.ensures)) refl _ c.traverse_in-answer.ensures.told s.run.now s.p s.out _ _ s.answers.now _ c.number_at-n.ensures.0 j k xs c.write_report.ensures;
      memory = memory_there _ _ _ _ _ _ _ _ _ _ _ s.run.now s.p _ _ j k xs c.traverse_in-answer.ensures.memory;
    }
