-- What an op row of treelist's text says, for every list of fields, and how it is answered. Definitions and a statement.
use Rattle.std.specs.Prelude.{ℕ, ◌+◌, ◌≡◌, refl, List, [], ◌∷◌, map, Bool, true, false, cond, length, eqb, Float, Option, Some, None, is_some, unwrap_or}
use Rattle.std.proofs.Math.Option.{Option as Maybe, none, some}
use Rattle.std.specs.Float.{binary32}
use Rattle.std.specs.Float.Ieee.{of_bits, of_int}
use Rattle.text.specs.Quoted.{bytes}
use Rattle.text.specs.Pieces.{pieces, bytes_before, piece_end, all}
use Rattle.text.specs.Numbers.{digit_value, digits_from, decimal_of, word_of}
use Rattle.text.specs.Coordinates.{capped, coordinate_of}
use Rattle.text.specs.Fields.{words_from, coordinates_from}
use Rattle.form.specs.declared.Row.{Row}
use Rattle.form.specs.declared.Row.TheVariants.{Put, Add, Delete}

-- Document 01, 'Printed tree': 'op 0 puts (rest: coordinates), 1 adds (rest: words), 2 deletes (no rest)'. Each has a point index.
pub data Op : Type 0 where
  put : ℕ → List Float → Op
  add : ℕ → List ℕ → Op
  delete : ℕ → Op

-- whether each field of a rest is a coordinate, and whether each is a word
abbrev pub are_coordinates : List (List ℕ) → Bool
are_coordinates ps = all (λ (p : List ℕ). is_some (coordinate_of p)) ps

abbrev pub are_words : List (List ℕ) → Bool
are_words ps = all (λ (p : List ℕ). is_some (word_of p)) ps

-- The row of an op, an index and the rest's fields: 'another op is out of form', and so is a delete with a rest.
-- 'How many coordinates or words a row has is no matter of form.'
unfoldable pub row_by : Option ℕ → ℕ → List (List ℕ) → Maybe Op
row_by None i ps = none
row_by (Some o) i ps =
    cond (eqb o 0) (cond (are_coordinates ps) (some (put i (map (λ (p : List ℕ). unwrap_or (coordinate_of p) (of_bits binary32 0)) ps))) none)
    (cond (eqb o 1) (cond (are_words ps) (some (add i (map (λ (p : List ℕ). unwrap_or (word_of p) 0) ps))) none)
    (cond (eqb o 2) (cond (eqb (length ps) 0) (some (delete i)) none) none))

-- Document 01, 'Printed tree': the names line `op index rest`. A row by its fields, none where it is out of form.
unfoldable pub row_of : List (List ℕ) → Maybe Op
row_of [] = none
row_of (o ∷ []) = none
row_of (o ∷ i ∷ ps) = cond (is_some (decimal_of i)) (row_by (decimal_of o) (unwrap_or (decimal_of i) 0) ps) none

-- whether there is one
abbrev pub is_there : {A : Type 0} → Maybe A → Bool
is_there none = false
is_there (some x) = true

-- where a row's rest starts: past the space after its second field
unfoldable pub rest_at : List ℕ → ℕ
rest_at s = piece_end 32 s (piece_end 32 s 0 + 1) + 1

-- an op as `read_row` answers it, with the place k of the rest in place of its fields
abbrev pub answer_at : ℕ → Maybe Op → Option Row
answer_at k none = None
answer_at k (some (put i xs)) = Some (Put i k)
answer_at k (some (add i ws)) = Some (Add i k)
answer_at k (some (delete i)) = Some (Delete i)

-- what `read_row` answers of a row
unfoldable pub read_row : List ℕ → Option Row
read_row s = answer_at (rest_at s) (row_of (pieces 32 s))

-- the rest of this row starts at its third 0
third : read_row (bytes "0 0 0") ≡ Some (Put 0 4)
unfolding read_row rest_at piece_end bytes_before row_of row_by pieces digit_value digits_from decimal_of capped coordinate_of of_int of_bits
third = refl

-- what an answer says of a row s: the fields of the rest are those from the place k on
unfoldable pub row_says : List ℕ → Option Row → Maybe Op
row_says s (Some (Put i k)) = some (put i (coordinates_from s k))
row_says s (Some (Add i k)) = some (add i (words_from s k))
row_says s (Some (Delete i)) = some (delete i)
row_says s None = none

-- The answer says what the row is. Proved of every row (`row_tells` in proofs/Rows.antt).
abbrev pub RowTells : List ℕ → Type 0
RowTells s = row_says s (read_row s) ≡ row_of (pieces 32 s)
