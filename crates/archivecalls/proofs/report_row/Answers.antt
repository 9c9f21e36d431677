-- `archivecalls::report_row` meets its contract. Assumes nothing.
use native.Mathlib.Omega.{arith}
use lib.Ieee.{binary32, of_bits}
use Rattle.std.specs.Prelude.{unwrap_or}
use Rattle.archiverow.specs.Rows.{coordinates_in}
use mathlib.Core.Path.{refl}
use Prim.Native.Nat.{◌+◌}
use Rattle.limits.specs.Limits.{width}
use Rattle.text.specs.Pieces.{pieces_from}
use Rattle.text.specs.Coordinates.{coordinate_of}
use Rattle.rowcalls.proofs.Fields.{first_fields}
use Rattle.archivecalls.proofs.Reports.{report_does}
use Rattle.archivecalls.proofs.report_row.Goals as goal

pub returns : goal.returns
returns c = let ps = pieces_from 32 c.args.line.now c.args.start in
    let first = first_fields (λ p. unwrap_or (coordinate_of p) (of_bits binary32 0)) ps _ _ (width + 1) _ _ refl c.read_coordinates-given.ensures.value c.at_most-n.ensures c.read_coordinates-given.ensures.coordinates_after in
    report_does _ _ _ _ _ _ _ (coordinates_in ps) _ _ _ _ (omega (arith, c.traverse-arg-1.given)) first c.traverse-answer.ensures c.tell_count.ensures
