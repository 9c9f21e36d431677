-- `regrow::make_and_grow` is safe and ends. Assumes nothing.
use Prim.Native.Nat.{◌-◌}
use native.Mathlib.Omega.{arith}
use lib.ListN.{take, drop}
use Rattle.archivehead.specs.Head.{making_of_line}
use Rattle.regrow.proofs.Heads.{some_made}
use Rattle.regrow.proofs.make_and_grow.Goals as goal

pub grow-requires : goal.grow-requires
grow-requires g c = record { near = (c.requires.2, c.requires.3, c.requires.4, c.requires.5, omega arith); stands = some_made (making_of_line (take (c.args.b - c.args.a) (drop c.args.a c.args.text.now))) _ _ _ c.make.ensures c.in-Ok.is _ _ c.new-table.ensures.points c.new-table.ensures.written }
