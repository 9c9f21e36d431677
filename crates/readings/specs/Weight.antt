-- What a weight is. Definitions.
use Rattle.std.specs.Prelude.{Bool, false, not, ◌&&◌, ◌==◌, Float}
use Rattle.std.specs.Float.{nan, inf, fin}

-- Document 01, refusal 14: a weight is refused where it is 'infinite, NaN or minus zero'.
unfoldable pub is_weight : Float → Bool
is_weight nan = false
is_weight (inf s) = false
is_weight (fin s m e) = not (s && m == 0)
