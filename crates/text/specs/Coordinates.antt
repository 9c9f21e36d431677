-- The coordinates of a text, for every list of bytes. Definitions.
use Rattle.std.specs.Prelude.{ℕ, min, List, cond, get_or, drop, eqb, pos, Float, Option, Some, None, option_map}
use Rattle.std.specs.Float.{binary32}
use Rattle.std.specs.Float.Ieee.{of_int, neg}
use Rattle.text.specs.Numbers.{decimal_of}

-- The f32 of a coordinate's size, 2^21 for all that is larger. A put refuses every coordinate beyond 2^20 with 7, whichever it is, so nothing is lost (Cap.antt).
unfoldable pub capped : ℕ → Float
capped v = of_int binary32 (pos (min v 2097152))

-- a coordinate's number after a minus sign
abbrev pub after_minus : Option ℕ → Option Float
after_minus None = None
after_minus (Some v) = cond (eqb v 0) None (Some (neg (capped v)))

-- Document 01, 'Printed tree': 'only a coordinate may have a minus sign before it, and -0 is out of form'. 45 is the minus sign.
unfoldable pub coordinate_of : List ℕ → Option Float
coordinate_of s = cond (eqb (get_or s 0 0) 45) (after_minus (decimal_of (drop 1 s))) (option_map capped (decimal_of s))
