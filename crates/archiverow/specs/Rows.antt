-- What a row of an archive says, for every list of bytes: a put, an arrival or a report on a sampled tree. Definitions.
use Rattle.std.specs.Prelude.{ℕ, ◌≡◌, refl, List, [], ◌∷◌, map, Bool, false, cond, ◌&&◌, ◌||◌, length, get_or, drop, eqb, leb, Float, Option, Some, None, is_some, unwrap_or}
use Rattle.std.specs.Float.{binary32}
use Rattle.std.specs.Float.Ieee.{of_bits, of_int}
use Rattle.text.specs.Quoted.{bytes}
use Rattle.text.specs.Pieces.{pieces}
use Rattle.text.specs.Numbers.{digit_value, digits_from, decimal_of, word_of, bits_of}
use Rattle.text.specs.Coordinates.{capped, coordinate_of}
use Rattle.form.specs.Rows.{are_coordinates, are_words}
use Rattle.namedwords.specs.Named.{is_named, is_beyond, named_in}

-- "An arrival brings point index, f32 weight, one word for the starting chance and c words for the tree." A report brings a query's coordinates. An arrival that names
-- words which the stream has not is in form, and refused.
pub data ArchiveRow : Type 0 where
  puts : ℕ → List Float → ArchiveRow
  arrives : ℕ → Float → ℕ → List ℕ → ArchiveRow
  reports : List Float → ArchiveRow
  beyond : ArchiveRow
  out_of_form : ArchiveRow

-- the values of fields: coordinates, and words
abbrev pub coordinates_in : List (List ℕ) → List Float
coordinates_in ps = map (λ (p : List ℕ). unwrap_or (coordinate_of p) (of_bits binary32 0)) ps

abbrev pub words_in : List (List ℕ) → List ℕ
words_in ps = map (λ (p : List ℕ). unwrap_or (word_of p) 0) ps

-- An arrival's rest by its fields: the weight by its bits, +0.0 where there is none; then words, written out or named, the first of them for the starting chance, 0 where
-- there is none, and the others for the tree.
abbrev pub weight_in : List (List ℕ) → Float
weight_in [] = of_bits binary32 0
weight_in (w ∷ ps) = of_bits binary32 (unwrap_or (bits_of w) 0)

abbrev pub given_in : List (List ℕ) → List ℕ
given_in qs = cond (is_named qs) (named_in qs) (words_in qs)

abbrev pub chance_in : List (List ℕ) → ℕ
chance_in ps = get_or (given_in (drop 1 ps)) 0 0

abbrev pub arrival_words_in : List (List ℕ) → List ℕ
arrival_words_in ps = drop 1 (given_in (drop 1 ps))

-- whether a rest is an arrival's: the weight's eight digits, then words, the first of which must be there, or a key and a first word number in their place
unfoldable pub is_arrival : List (List ℕ) → Bool
is_arrival [] = false
is_arrival (w ∷ []) = false
is_arrival (w ∷ x ∷ ps) = is_some (bits_of w) && (are_words (x ∷ ps) || is_named (x ∷ ps))

-- "a dash where the index would be": one minus sign, byte 45
unfoldable pub is_dash : List ℕ → Bool
is_dash s = eqb (length s) 1 && eqb (get_or s 0 0) 45

-- the put, the arrival and the report of the second field and the rest's fields: an index is a number
abbrev pub put_by : Option ℕ → List (List ℕ) → ArchiveRow
put_by None ps = out_of_form
put_by (Some i) ps = cond (are_coordinates ps) (puts i (coordinates_in ps)) out_of_form

abbrev pub arrival_by : Option ℕ → List (List ℕ) → ArchiveRow
arrival_by None ps = out_of_form
arrival_by (Some i) ps = cond (is_arrival ps) (cond (is_beyond (drop 1 ps)) beyond (arrives i (weight_in ps) (chance_in ps) (arrival_words_in ps))) out_of_form

unfoldable pub report_by : List ℕ → List (List ℕ) → ArchiveRow
report_by i ps = cond (is_dash i) (cond (are_coordinates ps) (reports (coordinates_in ps)) out_of_form) out_of_form

-- Document 01, 'Printed tree': 'op 0 puts (rest: coordinates)'; here 3 arrives (rest: weight, then chance and words, or a key and a first word number) and 4 reports
-- (rest: coordinates); 'another op is out of form'. 'How many coordinates or words a row has is no matter of form.'
unfoldable pub row_by : ℕ → List ℕ → List (List ℕ) → ArchiveRow
row_by o i ps = cond (eqb o 0) (put_by (decimal_of i) ps) (cond (eqb o 3) (arrival_by (decimal_of i) ps) (cond (eqb o 4) (report_by i ps) out_of_form))

abbrev pub row_by_number : Option ℕ → List ℕ → List (List ℕ) → ArchiveRow
row_by_number None i ps = out_of_form
row_by_number (Some o) i ps = row_by o i ps

-- Document 01, 'Printed tree': the names line `op index rest`
unfoldable pub row_of_fields : List (List ℕ) → ArchiveRow
row_of_fields [] = out_of_form
row_of_fields (o ∷ []) = out_of_form
row_of_fields (o ∷ i ∷ ps) = row_by_number (decimal_of o) i ps

-- The longest row that is in form, without its line feed: with it 8,192 bytes. Within document 01's limits the longest that can be accepted is an arrival of 256
-- words, 4,384 bytes, so no row that a tree takes is out of form by its length; and there is room for 479 words, so that a row with some more than a tree asks
-- for is still in form. An archive is read line by line, so one bound there must be.
abbrev pub longest_row : ℕ
longest_row = 8191

-- THE ROW of a line, given without its line feed. 32 is the space.
unfoldable pub row_of : List ℕ → ArchiveRow
row_of s = cond (leb (length s) longest_row) (row_of_fields (pieces 32 s)) out_of_form

-- an arrival of the weight 1.0, the chance 1 and one word; a report of the reading 8; and a report with an index
arrival : row_of (bytes "3 7 3F800000 0000000000000001 8000000000000000") ≡ arrives 7 (of_bits binary32 0x3f80_0000) 1 (0x8000_0000_0000_0000 ∷ [])
unfolding row_of row_of_fields row_by is_arrival is_beyond is_named pieces digit_value digits_from decimal_of word_of bits_of
arrival = refl

report : row_of (bytes "4 - 8") ≡ reports (of_bits binary32 0x4100_0000 ∷ [])
unfolding row_of row_of_fields row_by report_by is_dash pieces digit_value digits_from decimal_of capped coordinate_of of_int of_bits
report = refl

indexed : row_of (bytes "4 0 8") ≡ out_of_form
unfolding row_of row_of_fields row_by report_by is_dash pieces digit_value digits_from decimal_of
indexed = refl
