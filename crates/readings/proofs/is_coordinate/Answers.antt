-- `readings::is_coordinate` meets its contract, by the laws on patterns. Assumes nothing.
use Rattle.std.proofs.Common.{◌≡◌, ℕ, ◌+◌, ◌/◌, ◌%◌, ◌<◌, ◌≤◌, Bool, false, ◌&&◌, T, eqb, leb, sym, refl, ap, ◌∙◌, subst, arith, w32, Fits, rules}
use lib.Count.{count_trailing_zeros, trailing_le}
use lib.Ieee.{Float, nan, fits, to_bits, binary32}
use lib.Ieee.Compare.{differs_from_itself}
use lib.Ieee.Bits.{of_bits-to_bits}
use Rattle.readings.specs.Coordinate.{is_coordinate}
use Rattle.readings.proofs.Tests.{yes, leb_yes, leb_no}
use Rattle.readings.proofs.Numbers.{self_number}
use Rattle.readings.proofs.CoordinateBits.{some, zeroes}
use Rattle.readings.proofs.is_coordinate.Goals as goal

nan_no : false ≡ is_coordinate nan
unfolding is_coordinate
nan_no = refl

module _ (x : Float) (F : T (fits binary32 x)) where
  abbrev b : ℕ
  b = to_bits binary32 x

  abbrev zeros : ℕ
  zeros = count_trailing_zeros 32 (b % 8388608 + 8388608)

  at_zero : b % 2147483648 ≡ 0 → eqb b 0 ≡ is_coordinate x
  at_zero e = sym (zeroes b e) ∙ ap is_coordinate (of_bits-to_bits binary32 x F)

  -- the zeros at the end of the digits, and the field
  abbrev reach : ℕ
  reach = zeros + b % 2147483648 / 8388608

  by_test : (b % 2147483648 ≡ 0 → ⊥) → is_coordinate x ≡ (leb 150 reach && leb (b % 2147483648) 1233125376)
  by_test h = ap is_coordinate (sym (of_bits-to_bits binary32 x F)) ∙ some b (above (b % 2147483648) h)
    where
      above : (n : ℕ) → (n ≡ 0 → ⊥) → 0 < n
      above n h = omega arith

  fraction : (b % 2147483648 ≡ 0 → ⊥) → reach < 150 → false ≡ is_coordinate x
  fraction h l = sym (by_test h ∙ ap (λ (t : Bool). t && leb (b % 2147483648) 1233125376) (leb_no l))

  whole : (b % 2147483648 ≡ 0 → ⊥) → 150 ≤ reach → leb (b % 2147483648) 1233125376 ≡ is_coordinate x
  whole h l = sym (by_test h ∙ ap (λ (t : Bool). t && leb (b % 2147483648) 1233125376) (leb_yes l))

  sum_fits : Fits w32 reach
  sum_fits = record { fits = go zeros b (trailing_le 32 (b % 8388608 + 8388608)) }
    where
      go : (z b : ℕ) → z ≤ 32 → z + b % 2147483648 / 8388608 < 4294967296
      go z b h = omega arith

pub returns-then-x : goal.returns-then-x
returns-then-x c = nan_no ∙ sym (ap is_coordinate (differs_from_itself c.args.x (yes c.if-x.true)))

pub float_to_bits-bits : goal.float_to_bits-bits
float_to_bits-bits c = self_number c.args.x c.if-x.false

pub returns-then-size-eq0 : goal.returns-then-size-eq0
returns-then-size-eq0 c = at_zero c.args.x (subst T (sym c.well_formed.0.1) tt) c.if-size-eq0.true

pub overflow_add-zeros : goal.overflow_add-zeros
overflow_add-zeros c = sum_fits c.args.x (subst T (sym c.well_formed.0.1) tt)

pub returns-then-zeros-field-lt150 : goal.returns-then-zeros-field-lt150
returns-then-zeros-field-lt150 c = fraction c.args.x (subst T (sym c.well_formed.0.1) tt) c.if-size-eq0.false (omega (arith, c.if-zeros-field-lt150.true))

pub returns : goal.returns
returns c = whole c.args.x (subst T (sym c.well_formed.0.1) tt) c.if-size-eq0.false (omega (arith, c.if-zeros-field-lt150.false))
