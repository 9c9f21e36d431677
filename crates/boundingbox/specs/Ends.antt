-- The ends of a box, channel by channel, and the ends that growing gives it. Definitions.
use Rattle.std.specs.Prelude.{ℕ, cond, List, [], ◌∷◌, get_or, Float}
use Rattle.std.specs.Float.{nan}
use Rattle.std.specs.Float.Ieee.{lt}

-- what a list of ends or coordinates has in channel i
abbrev pub channel : List Float → ℕ → Float
channel xs i = get_or xs i nan

-- boundingbox.rs, `add_two_arrays`: `*x = if *x < *y { *x } else { *y }`, x the old lower end and y the new one
unfoldable pub least : Float → Float → Float
least x y = cond (lt x y) x y

-- boundingbox.rs, `add_two_arrays`: `*x = if *x < *y { *y } else { *x }`, x the old upper end and y the new one
unfoldable pub greatest : Float → Float → Float
greatest x y = cond (lt x y) y x

-- f of the two lists' entries in each channel of the first, as Rust's `zip` of two lists of one length
unfoldable pub joined : (Float → Float → Float) → List Float → List Float → List Float
joined f [] ys = []
joined f (x ∷ xs) [] = f x nan ∷ joined f xs []
joined f (x ∷ xs) (y ∷ ys) = f x y ∷ joined f xs ys
