-- What the functions of floats answer to recorded inputs. Definitions.
use Rattle.std.specs.Prelude.{cond, List, [], ◌++◌, ℕ, zero, suc, ◌+◌, ◌*◌, ◌/◌, ◌%◌, eqb, length, Float}
use Rattle.std.specs.Float.{binary32, binary64}
use Rattle.std.specs.Float.Ieee.{of_bits, to_bits}
use Rattle.readings.specs.Coordinate.{is_coordinate}
use Rattle.readings.specs.Weight.{is_weight}
use Rattle.readings.specs.Share.{is_share, cached_part}
use Rattle.readings.specs.Word.{factor_of}
use Rattle.readings.specs.Narrow.{narrowed}
use Rattle.little.specs.Little.{little16, little64}
use Rattle.recorded.specs.Words.{bytes64}

abbrev pub single : ℕ → Float
single bits = of_bits binary32 (bits % 4294967296)

abbrev pub double : ℕ → Float
double bits = of_bits binary64 bits

-- the answer of the function of a kind: 4 `is_coordinate`, 5 `is_weight`, 6 `is_share`, 7 `factor`, 8 `narrow`, 9 `cached_part`, 10 `pattern_of` after
-- `float_of`, else the pattern after `double_of`
unfoldable pub value_of : ℕ → ℕ → ℕ → ℕ
value_of kind bits capacity =
    cond (eqb kind 4) (cond (is_coordinate (single bits)) 1 0)
    (cond (eqb kind 5) (cond (is_weight (single bits)) 1 0)
    (cond (eqb kind 6) (cond (is_share (double bits)) 1 0)
    (cond (eqb kind 7) (to_bits binary64 (factor_of bits))
    (cond (eqb kind 8) (to_bits binary32 (narrowed (double bits)))
    (cond (eqb kind 9) (cached_part (double bits) capacity)
    (cond (eqb kind 10) (to_bits binary32 (single bits))
    (to_bits binary64 (double bits))))))))

-- the bytes of an input: its bits, and a capacity
abbrev pub input_bytes : ℕ
input_bytes = 12

module _ (kind : ℕ) (given : List ℕ) where
  -- the answers to the first n inputs
  unfoldable pub values_to : ℕ → List ℕ
  values_to zero = []
  values_to (suc n) = values_to n ++ bytes64 (value_of kind (little64 given (input_bytes * n)) (little16 given (input_bytes * n + 8)))

  abbrev pub floats_answer : List ℕ
  floats_answer = values_to (length given / input_bytes)
