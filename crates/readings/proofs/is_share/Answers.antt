-- `readings::is_share` meets its contract: 0.0 and 1.0 are unfolded to the values that the laws name. Assumes nothing.
use lib.Ieee.{of_bits}
use Rattle.readings.proofs.Shares.{share_from_zero, share_under_zero}
use Rattle.readings.proofs.is_share.Goals as goal

pub returns-then-x : goal.returns-then-x
unfolding of_bits
returns-then-x c = share_from_zero c.args.x c.if-x.true

pub returns : goal.returns
unfolding of_bits
returns c = share_under_zero c.args.x c.if-x.false
