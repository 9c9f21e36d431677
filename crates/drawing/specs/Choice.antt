-- One node of the loop: the ends that it draws from, and what is chosen by the draw, as numbers. Definitions.
use Rattle.std.specs.Prelude.{Bool, cond, Option, Some, None, List, [], ℕ, T, get_or, Float}
use Rattle.std.specs.Float.{binary32}
use Rattle.std.specs.Float.Ieee.{to_bits, of_bits}
use Rattle.readings.specs.Number.{is_number}
use Rattle.cut.specs.declared.Cut.{Cut}
use Rattle.cut.specs.declared.Separation.{Separation}
use Rattle.drawing.specs.declared.Chosen.{Chosen}
use Rattle.drawing.specs.declared.Highest.{Highest}

-- the ends of a branch's box: those that were worked out where it is not cached, else its slot
abbrev pub ends_for : Bool → ℕ → List (List Float) → List (List (List Float)) → List (List Float)
ends_for partly branch ends boxes = cond partly ends (get_or boxes branch [])

-- the numbers that are chosen: of no cut, of a draw's cut where it parts, and of a draw
abbrev pub none_chosen : Chosen
none_chosen = record { height = 0; dimension = 0; bits = 0 }

abbrev pub chosen_at : Chosen → ℕ → Cut → Bool → Chosen
chosen_at s m k b = cond b (record { height = m; dimension = k.dimension; bits = to_bits binary32 k.value }) s

abbrev pub chosen_by : Chosen → ℕ → Option Separation → Chosen
chosen_by s m None = s
chosen_by s m (Some v) = chosen_at s m v.cut v.parts

-- the value of a drawn cut is a number
abbrev pub Numbered : Option Separation → Type 0
Numbered None = Unit {0}
Numbered (Some v) = T (is_number v.cut.value)

-- what is handed back of them
abbrev pub highest_of : Chosen → ℕ → Highest
highest_of s top = record { height = s.height; cut = record { dimension = s.dimension; value = of_bits binary32 s.bits }; top = top }
