-- Bytes written as upper-case hexadecimal digits, two for each byte, the high one first. Definitions.
use Rattle.std.specs.Prelude.{◌≡◌, refl, Bool, true, false, ◌&&◌, cond, List, [], ◌∷◌, ℕ, ◌+◌, ◌*◌, eqb, ltb, length}
use Rattle.std.specs.List.{list_all}
use Rattle.text.specs.Quoted.{bytes}
use Rattle.text.specs.Numbers.{digit_value}

-- Document 01, 'Printed tree': 'upper-case hexadecimal digits'
abbrev pub are_digits : List ℕ → Bool
are_digits s = list_all (λ x. ltb (digit_value x) 16) s

-- the digits of so many bytes
abbrev pub is_hex : (count : ℕ) → List ℕ → Bool
is_hex count s = eqb (length s) (2 * count) && are_digits s

unfoldable pub hex_bytes : List ℕ → List ℕ
hex_bytes [] = []
hex_bytes (h ∷ []) = []
hex_bytes (h ∷ l ∷ s) = (16 * digit_value h + digit_value l) ∷ hex_bytes s

two_bytes : hex_bytes (bytes "0FA0") ≡ 15 ∷ 160 ∷ []
unfolding hex_bytes digit_value
two_bytes = refl

-- THE READING of a field into lent bytes: whether it has the digits of just so many bytes, and the bytes, which stay as they were where it has not
unfoldable pub read_hex : (field bytes : List ℕ) → Bool × List ℕ
read_hex field bytes = cond (is_hex (length bytes) field) (true, hex_bytes field) (false, bytes)
