-- `readings::is_weight` meets its contract. Assumes nothing.
use Rattle.std.proofs.Common.{T, sym, ap, ◌∙◌, subst}
use lib.Ieee.{fits, to_bits, of_bits, binary32}
use lib.Ieee.Compare.{differs_from_itself}
use lib.Ieee.Bits.{of_bits-to_bits, to_bits-lt}
use Rattle.readings.specs.Weight.{is_weight}
use Rattle.readings.proofs.Tests.{yes}
use Rattle.readings.proofs.Numbers.{self_number}
use Rattle.readings.proofs.WeightBits.{weight_bits, weight_minus_zero, weight_nan}
use Rattle.readings.proofs.is_weight.Goals as goal

pub returns-then-x : goal.returns-then-x
returns-then-x c = sym (ap is_weight (differs_from_itself c.args.x (yes c.if-x.true)) ∙ weight_nan)

pub float_to_bits-bits : goal.float_to_bits-bits
float_to_bits-bits c = self_number c.args.x c.if-x.false

pub returns-then-bits : goal.returns-then-bits
returns-then-bits c = let x = c.args.x in sym (ap is_weight (sym (of_bits-to_bits binary32 x (subst T (sym c.well_formed.0.1) tt)) ∙ ap (of_bits binary32) c.if-bits.true) ∙ weight_minus_zero)

pub returns : goal.returns
returns c = let x = c.args.x in
    let F = subst T (sym c.well_formed.0.1) tt in
    sym (weight_bits (to_bits binary32 x) (to_bits-lt binary32 x F) c.if-bits.false) ∙ ap is_weight (of_bits-to_bits binary32 x F)
