-- `chacha20::put_each` meets its contract. Assumes nothing.
use Rattle.std.proofs.Common.{ℕ, take, ap, ◌∙◌, add-one, arith}
use lib.Seq.{sets}
use Rattle.little.specs.Little.{bytes_of}
use Rattle.chacha20.proofs.Blocks.{bytes_next, bytes_all}
use Rattle.chacha20.proofs.put_each.Goals as goal

pub loop-i-preserved : goal.loop-i-preserved
loop-i-preserved c = rw add-one (bytes_next c.args.numbers.now c.args.bytes.now c.loop-i.bytes c.put_u32.new.bytes c.loop-i.i c.wide32.result c.loop-i-test.true c.loop-i.invariant c.wide32.ensures.0 c.put_u32.ensures)

pub returns : goal.returns
returns c = c.loop-i.invariant ∙ ap (λ (i : ℕ). sets c.args.bytes.now 0 (bytes_of (take i c.args.numbers.now))) (omega arith) ∙ bytes_all c.args.numbers.now c.args.bytes.now c.requires
