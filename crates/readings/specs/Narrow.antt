-- An f64 narrowed to an f32. Definitions.
use Rattle.std.specs.Prelude.{◌*◌, Float}
use Rattle.std.specs.Float.{nan, inf, fin, binary32}
use Rattle.std.specs.Float.Ieee.{up, down, round}

-- Document 01, 'Cut': 'The rest is narrowed to f32 to nearest, ties to even'. It is the Rust's `as f32`, for every f64: beyond f32's range an infinity, and NaN stays NaN.
unfoldable pub narrowed : Float → Float
unfolding round
narrowed nan = nan
narrowed (inf s) = inf s
narrowed (fin s m e) = round binary32 s (m * up e) (down e)
