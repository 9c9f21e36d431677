-- `readings::factor` meets its contract: both factors are exact, so the product is rounded as the definition says. Assumes nothing.
use Rattle.std.proofs.Common.{◌≡◌, ℕ, ◌/◌, ◌^◌, ◌<◌, ◌≤◌, false, T, pos, negsuc, sym, refl, ap, ◌∙◌, subst, le_of_lt, zero-lt-suc, mul-one, le→leb, pow_pos}
use lib.Ieee.{Float, fin, binary64, in_float, of_int, of_bits, mul, round}
use lib.Ieee.Exact.{HasValue}
use Rattle.readings.specs.Word.{factor_of}
use Rattle.readings.proofs.Values.{mul_value}
use Rattle.readings.proofs.Wholes.{of_int_value}
use Rattle.readings.proofs.Words.{upper_bits}
use Rattle.readings.proofs.factor.Goals as goal

in_float_lem : (n : ℕ) → n ≤ 2 ^ 53 → T (in_float binary64 (pos n))
unfolding in_float
in_float_lem n h = le→leb n (2 ^ 53) h

-- 2 ^ -53 by its pattern
unit_is : of_bits binary64 4368491638549381120 ≡ fin false 1 (negsuc 52)
unfolding of_bits
unit_is = refl

is : (w : ℕ) → w < 2 ^ 64 → mul binary64 (of_int binary64 (pos (w / 2 ^ 11))) (of_bits binary64 4368491638549381120) ≡ factor_of w
unfolding factor_of
is w h =
    mul_value binary64 (of_int binary64 (pos (w / 2 ^ 11))) (of_bits binary64 4368491638549381120) (w / 2 ^ 11) 1 1 (2 ^ 53) (zero-lt-suc 0) (pow_pos 53)
    (of_int_value binary64 (w / 2 ^ 11) (le_of_lt (upper_bits w h))) (subst (λ (v : Float). HasValue v false 1 (2 ^ 53)) (sym unit_is) (refl, refl))
    ∙ ap (λ (z : ℕ). round binary64 false z (2 ^ 53)) (mul-one (w / 2 ^ 11))

pub int_to_float-result : goal.int_to_float-result
int_to_float-result c = in_float_lem (c.args.w / 2 ^ 11) (le_of_lt (upper_bits c.args.w c.ranges.w.fits))

pub returns : goal.returns
returns c = is c.args.w c.ranges.w.fits
