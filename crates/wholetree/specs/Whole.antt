-- Document 01's tree: the cut tree over readings of d channels, its cuts drawn as the Rust draws them.
use Rattle.std.specs.Prelude.{Bool, true, ◌&&◌, Option, Some, None, List, [], ◌∷◌, ℕ, zero, suc, ◌%◌, ◌^◌, eqb, length, Float}
use Rattle.std.specs.Float.Ieee.{le}
use Rattle.limits.specs.Limits.{width, point_limit, total_limit}
use Rattle.cut.specs.declared.Separation.{Separation}
use Rattle.cut.specs.Draw.{separation}
use Rattle.cuttree.specs.Setting.{Setting, CutOf}
use Rattle.readings.specs.Number.{Number, zero as zero_number, number}
use Rattle.wholetree.specs.Reading.{is_coordinate32, Reading, coordinate, same_row, reading}

-- f of 0 to n − 1
unfoldable pub tab : {A : Type 0} → ℕ → (ℕ → A) → List A
tab zero f = []
tab (suc n) f = f 0 ∷ tab n (λ (i : ℕ). f (suc i))

-- the ends of a box as a row of floats
abbrev pub ends : (ℕ → Number) → List Float
ends f = tab width (λ (i : ℕ). (f i).value)

-- The cut that is drawn. Where none is, the box holds the point and no cut parts, so any will do.
abbrev pub cut_in : Option Separation → CutOf ℕ Number
cut_in None = record { channel = 0; value = zero_number }
cut_in (Some s) = record { channel = s.cut.dimension; value = number s.cut.value }

abbrev pub all_coordinates : List Float → Bool
all_coordinates [] = true
all_coordinates (x ∷ xs) = is_coordinate32 x && all_coordinates xs

-- d is the number of channels. A word has 64 bits.
abbrev pub whole : ℕ → Setting
whole d = record {
  Coord = Number;
  Chan = ℕ;
  Point = Reading;
  Word = ℕ;
  Raw = List Float;
  le = λ a b. le a.value b.value;
  at = coordinate;
  same = λ p q. same_row p.row q.row;
  draw = λ lo hi p w. cut_in (separation width (ends lo) (ends hi) p.row (w % 2 ^ 64));
  no_word = 0;
  counted = λ xs. eqb (length xs) d;
  good = all_coordinates;
  point = reading;
  indices = point_limit;
  limit = total_limit;
}
