-- `inputs::read_full` meets its contract: what a read brings stands behind what was there, and is what the input had. Assumes nothing.
use Rattle.std.proofs.Common.{◌≡◌, ◌+◌, ◌-◌, length, arith, ◌∙◌}
use borrow.Rule.Slice.PartMut.{put_mid, same_len_mid, take_put}
use Rattle.inputs.proofs.Taking.{behind, takes_more}
use Rattle.inputs.proofs.read_full.Goals as goal

pub loop-came-preserved : goal.loop-came-preserved
loop-came-preserved g c =
    let l = c.loop-came in
    let k = length l.bytes - l.came in
    let w = c.read.new.buf in
    let same : length (put_mid l.came k l.bytes w) ≡ length l.bytes = same_len_mid l.came k l.bytes w c.read.auto.buf in
    record {
      within = omega (arith, c.in-Ok.ensures.bound);
      long = same ∙ l.invariant.long;
      takes =
          takes_more _ _ _ l.came l.bytes _ l.invariant.takes (take_put l.came k l.bytes w (omega arith)) (l.came + c.in-Ok.more) (omega arith)
          (rw (behind l.came k c.in-Ok.more l.bytes w (omega arith) (omega (arith, c.in-Ok.ensures.bound))) c.in-Ok.ensures.bytes.0);
    }
