-- `rowcalls::put_row` meets its contract. Assumes nothing.
use Rattle.std.specs.Prelude.{unwrap_or}
use mathlib.Core.Path.{refl}
use Prim.Native.Nat.{◌+◌}
use Rattle.limits.specs.Limits.{width}
use lib.Ieee.{binary32, of_bits}
use Rattle.text.specs.Pieces.{pieces_from}
use Rattle.text.specs.Coordinates.{coordinate_of}
use Rattle.rowcalls.proofs.Fields.{first_fields}
use Rattle.rowcalls.proofs.put_row.Goals as goal

pub returns : goal.returns
returns c = let first = first_fields (λ p. unwrap_or (coordinate_of p) (of_bits binary32 0)) (pieces_from 32 c.args.row.now c.args.start) _ _ (width + 1) _ _ refl c.read_coordinates-given.ensures.value c.at_most-n.ensures c.read_coordinates-given.ensures.coordinates_after in
    λ a e. c.put.ensures.does a _ e first
