-- `treelist_text::print_few` meets its contract: up to 8 channels the making is the tree's own, above it is refused. Assumes nothing.
use native.Mathlib.Omega.{arith}
use Prim.Native.Nat.{◌≤◌, ◌<◌}
use Rattle.treelist_text.proofs.Makes.{listed_made, listed_not}
use Rattle.treelist_text.proofs.print_few.Goals as goal

pub returns-then-channels-le-LISTED : goal.returns-then-channels-le-LISTED
returns-then-channels-le-LISTED c = let a = c.args in
    let h : a.channels ≤ 8 = omega arith in
    λ os e. listed_made a.channels a.capacity a.share os h (c.print_by.ensures os e)

pub returns : goal.returns
returns c = let a = c.args in
    let h : 8 < a.channels = omega arith in
    λ os e. listed_not a.channels a.capacity a.share os h (rw c.number.ensures at c.put_refused.ensures.wrote)
