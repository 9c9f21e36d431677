-- The values of a row's fields from a place on. Definitions.
use Rattle.std.specs.Prelude.{ℕ, ◌≡◌, List, [], map, get_or, unwrap_or, Float}
use Rattle.std.specs.Float.Ieee.{of_bits}
use Rattle.std.specs.Float.{binary32}
use Rattle.text.specs.Pieces.{pieces_from}
use Rattle.text.specs.Numbers.{word_of}
use Rattle.text.specs.Coordinates.{coordinate_of}

-- the word of field n, counted from 0; 0 where there is none
abbrev pub word_in : ℕ → List (List ℕ) → ℕ
word_in n ps = unwrap_or (word_of (get_or ps n [])) 0

-- Document 01, 'Printed tree': 'op 0 puts (rest: coordinates), 1 adds (rest: words)', 'One space stands between fields'. 32 is the space.
-- A word out of form is 0 and a coordinate out of form +0.0.
abbrev pub words_from : List ℕ → ℕ → List ℕ
words_from s k = map (λ (p : List ℕ). unwrap_or (word_of p) 0) (pieces_from 32 s k)

abbrev pub coordinates_from : List ℕ → ℕ → List Float
coordinates_from s k = map (λ (p : List ℕ). unwrap_or (coordinate_of p) (of_bits binary32 0)) (pieces_from 32 s k)

-- what is answered of a field is what f gives of it
abbrev pub Computes : {A : Type 0} → (List ℕ → A → Type 0) → (List ℕ → A) → Type 0
Computes answers f = (p : _) (v : _) → answers p v → v ≡ f p
