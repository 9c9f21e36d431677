-- The bytes of a number of 64 bits, and of two of 16 bits, the lowest first. Definitions.
use Rattle.std.specs.Prelude.{List, ◌++◌, ℕ, ◌+◌, ◌*◌, ◌/◌, get_or}
use Rattle.little.specs.Little.{bytes32}

abbrev pub bytes64 : ℕ → List ℕ
bytes64 x = bytes32 x ++ bytes32 (x / 4294967296)

abbrev pub pair_bytes : List ℕ → List ℕ
pair_bytes xs = bytes32 (get_or xs 0 0 + 65536 * get_or xs 1 0)
