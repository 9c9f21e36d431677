-- `readings::narrow_size` meets its contract, range by range. Assumes nothing.
use Rattle.std.proofs.Common.{◌≡◌, ℕ, ◌+◌, ◌-◌, ◌*◌, ◌/◌, ◌%◌, ◌^◌, ◌≤◌, sym, ap, ◌∙◌, subst, arith, leb→le, rules}
use lib.Ieee.{binary32, of_bits}
use lib.Ieee.Nearest.{closest}
use Rattle.readings.proofs.NarrowBits.{tiny, low_range, high_range, over, kept_bounds, pattern_no_nan}
use Rattle.readings.proofs.narrow_size.Goals as goal

abbrev field : ℕ → ℕ
field bits = bits / 4503599627370496

abbrev digits : ℕ → ℕ
digits bits = bits % 4503599627370496 + 4503599627370496

kept_le : (bits : ℕ) → bits ≤ 9218868437227405312 → (r i : ℕ) → r ≡ closest (digits bits) (2 ^ i) → 29 ≤ i → r ≤ 16777216
kept_le bits most r i e h = subst (λ (z : ℕ). z ≤ 16777216) (sym e) (kept_bounds bits most i h)

low_kept : (c : goal.After-nearest_shift-low) → c.nearest_shift-low.result ≤ 16777216
low_kept c = kept_le c.args.bits c.requires c.nearest_shift-low.result (926 - field c.args.bits) c.nearest_shift-low.ensures (omega arith)

high_kept : (c : goal.After-nearest_shift-high) → c.nearest_shift-high.result ≤ 16777216
high_kept c = kept_le c.args.bits c.requires c.nearest_shift-high.result 29 c.nearest_shift-high.ensures (leb→le 29 29 tt)

pub returns-then-field-lt872 : goal.returns-then-field-lt872
returns-then-field-lt872 c = tiny c.args.bits c.requires c.if-field-lt872.true

pub overflow_cast-result : goal.overflow_cast-result
overflow_cast-result c = let k = low_kept c in search rules

pub float_from_bits-result : goal.float_from_bits-result
float_from_bits-result c = let k = low_kept c in pattern_no_nan c.nearest_shift-low.result (omega arith)

pub returns-then-field-lt897 : goal.returns-then-field-lt897
returns-then-field-lt897 c = ap (of_bits binary32) c.nearest_shift-low.ensures ∙ low_range c.args.bits c.requires c.if-field-lt872.false c.if-field-lt897.true

pub float_from_bits-result-then-field-gt1150 : goal.float_from_bits-result-then-field-gt1150
float_from_bits-result-then-field-gt1150 c = pattern_no_nan 2139095040 (leb→le 2139095040 2139095040 tt)

pub returns-then-field-gt1150 : goal.returns-then-field-gt1150
returns-then-field-gt1150 c = over c.args.bits c.requires c.if-field-gt1150.true

pub overflow_add-result : goal.overflow_add-result
overflow_add-result c = let k = high_kept c in search rules

pub overflow_cast-result-2 : goal.overflow_cast-result-2
overflow_cast-result-2 c = let k = high_kept c in search rules

pub float_from_bits-result-2 : goal.float_from_bits-result-2
float_from_bits-result-2 c = let k = high_kept c in pattern_no_nan _ (omega arith)

pub returns : goal.returns
returns c = ap (λ (k : ℕ). of_bits binary32 ((field c.args.bits - 897) * 8388608 + k)) c.nearest_shift-high.ensures ∙ high_range c.args.bits c.requires c.if-field-lt897.false c.if-field-gt1150.false
