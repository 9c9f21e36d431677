-- `hexbytes::put_bytes` meets its contract. Assumes nothing.
use mathlib.Core.Path.{refl}
use Prim.Native.Nat.{◌+◌, ◌*◌}
use native.Mathlib.Omega.{arith}
use Rattle.hexbytes.proofs.Digits.{digit_small, read_byte, read_all}
use Rattle.hexbytes.proofs.put_bytes.Goals as goal

pub loop-i-init : goal.loop-i-init
loop-i-init c = record { digits = c.requires.0; long = refl; most = omega arith; same = refl }

pub byte_of-requires : goal.byte_of-requires
byte_of-requires c = let i = c.loop-i.i in
    (digit_small c.args.field.now (2 * i) c.requires.1 (omega arith), digit_small c.args.field.now (2 * i + 1) c.requires.1 (omega arith))

pub loop-i-preserved : goal.loop-i-preserved
loop-i-preserved c = read_byte c.loop-i.invariant (omega arith) c.byte_of.ensures

pub shape_of-bytes : goal.shape_of-bytes
shape_of-bytes c = c.loop-i.invariant.long

pub returns : goal.returns
returns c = read_all c.loop-i.invariant (omega arith)
