-- What the making's row of treelist's text says, for every list of fields. Definitions.
use Rattle.std.specs.Prelude.{ℕ, List, [], ◌∷◌, Float, pos, Option, Some, None}
use Rattle.std.proofs.Math.Option.{Option as Maybe, none, some}
use Rattle.std.specs.Float.{binary64}
use Rattle.std.specs.Float.Ieee.{of_bits, of_int, div}
use Rattle.text.specs.Numbers.{decimal_of}
use Rattle.form.specs.declared.Making as Read

-- Document 01, 'Printed tree': the names line `dimensions capacity cache16`, and '`cache16` is the share in sixteenths'
pub record Making : Type 0 where
  pub channels : ℕ
  pub capacity : ℕ
  pub sixteenths : ℕ

-- three numbers, none where one of them is out of form
abbrev pub making_by : Option ℕ → Option ℕ → Option ℕ → Maybe Making
making_by None b c = none
making_by (Some x) None c = none
making_by (Some x) (Some y) None = none
making_by (Some x) (Some y) (Some z) = some (record { channels = x; capacity = y; sixteenths = z })

-- The row by its fields, none where it is out of form. Whether the tree takes these numbers is no matter of form.
unfoldable pub making_of : List (List ℕ) → Maybe Making
making_of [] = none
making_of (a ∷ []) = none
making_of (a ∷ b ∷ []) = none
making_of (a ∷ b ∷ c ∷ []) = making_by (decimal_of a) (decimal_of b) (decimal_of c)
making_of (a ∷ b ∷ c ∷ d ∷ ps) = none

-- what `read_making` answers says
abbrev pub making_says : Option Read.Making → Maybe Making
making_says None = none
making_says (Some m) = some (record { channels = m.channels; capacity = m.capacity; sixteenths = m.sixteenths })

-- '`cache16` is the share in sixteenths'
unfoldable pub sixteenths_of : ℕ → Float
sixteenths_of n = div binary64 (of_int binary64 (pos n)) (of_bits binary64 0x4030_0000_0000_0000)
