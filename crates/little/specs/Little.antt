-- Numbers in a list of bytes, the lowest byte first. Definitions.
use Rattle.std.specs.Prelude.{◌≡◌, refl, List, [], ◌∷◌, ◌++◌, ℕ, ◌+◌, ◌*◌, ◌/◌, ◌%◌, get_or}

-- the number of two, four or eight bytes, from the index `at` on
abbrev pub little16 : List ℕ → ℕ → ℕ
little16 bytes at = get_or bytes at 0 + 256 * get_or bytes (at + 1) 0

abbrev pub little32 : List ℕ → ℕ → ℕ
little32 bytes at = little16 bytes at + 65536 * little16 bytes (at + 2)

abbrev pub little64 : List ℕ → ℕ → ℕ
little64 bytes at = little32 bytes at + 4294967296 * little32 bytes (at + 4)

lowest_first : little64 (9 ∷ 239 ∷ 205 ∷ 171 ∷ 137 ∷ 103 ∷ 69 ∷ 35 ∷ 1 ∷ []) 1 ≡ 0x0123_4567_89ab_cdef
lowest_first = refl

-- the four bytes of a number of 32 bits
abbrev pub bytes32 : ℕ → List ℕ
bytes32 x = x % 256 ∷ (x / 256) % 256 ∷ (x / 65536) % 256 ∷ (x / 16777216) % 256 ∷ []

abbrev pub bytes_of : List ℕ → List ℕ
bytes_of [] = []
bytes_of (x ∷ xs) = bytes32 x ++ bytes_of xs
