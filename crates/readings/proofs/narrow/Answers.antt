-- `readings::narrow` meets its contract: the size is narrowed, and the sign kept. Assumes nothing.
use Rattle.std.proofs.Common.{◌≡◌, ℕ, ◌-◌, ◌%◌, ◌^◌, ◌<◌, ◌≤◌, not, T, sym, refl, ap, ◌∙◌, subst, arith}
use lib.Ieee.{Float, nan, binary32, binary64, fits, is_nan, of_bits, to_bits, neg, div}
use lib.Ieee.Bits.{of_bits-to_bits, to_bits-lt}
use lib.Ieee.Compare.{differs_from_itself}
use Rattle.readings.specs.Narrow.{narrowed}
use Rattle.readings.proofs.Tests.{yes}
use Rattle.readings.proofs.Numbers.{self_number}
use Rattle.readings.proofs.Narrows.{narrowed_neg}
use Rattle.readings.proofs.NarrowBits.{sign_set, number_size}
use Rattle.readings.proofs.narrow.Goals as goal

-- 0 / 0
none : div binary32 (of_bits binary32 0) (of_bits binary32 0) ≡ narrowed nan
unfolding div of_bits narrowed
none = refl

module _ (x : Float) (F : T (fits binary64 x)) where
  abbrev b : ℕ
  b = to_bits binary64 x

  low : T (not (is_nan x)) → b < 2 ^ 63 → b ≤ 9218868437227405312
  low N h = go b h (number_size x F N)
    where
      go : (b : ℕ) → b < 9223372036854775808 → b % 9223372036854775808 ≤ 9218868437227405312 → b ≤ 9218868437227405312
      go b h k = omega arith

  high : T (not (is_nan x)) → 2 ^ 63 ≤ b → b - 2 ^ 63 ≤ 9218868437227405312
  high N h = go b h (to_bits-lt binary64 x F) (number_size x F N)
    where
      go : (b : ℕ) → 9223372036854775808 ≤ b → b < 18446744073709551616 → b % 9223372036854775808 ≤ 9218868437227405312 → b - 9223372036854775808 ≤ 9218868437227405312
      go b h l k = omega arith

  plus : narrowed (of_bits binary64 b) ≡ narrowed x
  plus = ap narrowed (of_bits-to_bits binary64 x F)

  minus : 2 ^ 63 ≤ b → neg (narrowed (of_bits binary64 (b - 2 ^ 63))) ≡ narrowed x
  minus h = sym (narrowed_neg (of_bits binary64 (b - 2 ^ 63))) ∙ ap narrowed (sym (sign_set b h (to_bits-lt binary64 x F)) ∙ of_bits-to_bits binary64 x F)

pub returns-then-x : goal.returns-then-x
returns-then-x c = none ∙ sym (ap narrowed (differs_from_itself c.args.x (yes c.if-x.true)))

pub float_to_bits-bits : goal.float_to_bits-bits
float_to_bits-bits c = self_number c.args.x c.if-x.false

pub narrow_size-requires : goal.narrow_size-requires
narrow_size-requires c = low c.args.x (subst T (sym c.well_formed.0.1) tt) (self_number c.args.x c.if-x.false) c.if-bits-lt-SIGN_64.true

pub returns-then-bits-lt-SIGN_64 : goal.returns-then-bits-lt-SIGN_64
returns-then-bits-lt-SIGN_64 c = c.narrow_size.ensures ∙ plus c.args.x (subst T (sym c.well_formed.0.1) tt)

pub narrow_size-requires-2 : goal.narrow_size-requires-2
narrow_size-requires-2 c = high c.args.x (subst T (sym c.well_formed.0.1) tt) (self_number c.args.x c.if-x.false) c.if-bits-lt-SIGN_64.false

pub returns : goal.returns
returns c = ap neg c.narrow_size-2.ensures ∙ minus c.args.x (subst T (sym c.well_formed.0.1) tt) c.if-bits-lt-SIGN_64.false
