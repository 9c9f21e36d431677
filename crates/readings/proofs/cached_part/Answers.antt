-- `readings::cached_part` meets its contract: -1.0 and 2^64 are unfolded to the values that the laws name. Assumes nothing.
use Rattle.std.proofs.Common.{pos, sym, rules, ℕ}
use lib.Ieee.{Float, binary64, of_bits, of_int, mul, neg}
use Rattle.readings.specs.Share.{cached_part}
use Rattle.readings.proofs.Tests.{yes}
use Rattle.readings.proofs.Shares.{unsigned_over, unsigned_under}
use Rattle.readings.proofs.cached_part.Goals as goal

abbrev product : Float → ℕ → Float
product share capacity = mul binary64 share (of_int binary64 (pos capacity))

pub truncating_f64_to_u64-requires : goal.truncating_f64_to_u64-requires
unfolding of_bits neg
truncating_f64_to_u64-requires c = record { lower_bound = yes c.if-product.true; upper_bound = yes c.if-product-2.true }

pub returns-then-product-2 : goal.returns-then-product-2
unfolding cached_part
returns-then-product-2 c = c.truncating_f64_to_u64.ensures

pub returns-then-product : goal.returns-then-product
unfolding cached_part of_bits neg
returns-then-product c = sym (unsigned_over (product c.args.share c.args.capacity) c.if-product.true c.if-product-2.false)

pub returns : goal.returns
unfolding cached_part of_bits neg
returns c = sym (unsigned_under (product c.args.share c.args.capacity) c.if-product.false)
