-- The numbers and the words of a text, for every list of bytes. Definitions.
use Rattle.std.specs.Prelude.{ℕ, ◌+◌, ◌-◌, ◌*◌, List, [], ◌∷◌, ◌&&◌, ◌||◌, not, cond, length, get_or, eqb, leb, ltb}
use Rattle.std.specs.Prelude.{Option}
use Rattle.std.specs.Prelude.{Some, None}

-- Document 01, 'Printed tree': 'Numbers are decimal, words 16 and cut bits 8 upper-case hexadecimal digits.'
-- The value of a digit, `0` to `9` and `A` to `F`, and 16, which no base here reaches, for any other byte.
unfoldable pub digit_value : ℕ → ℕ
digit_value x = cond (leb 48 x && leb x 57) (x - 48) (cond (leb 65 x && leb x 70) (x - 55) 16)

-- the number of the digits s in base b, after digits whose number is v
unfoldable pub digits_from : ℕ → ℕ → List ℕ → Option ℕ
digits_from b v [] = Some v
digits_from b v (x ∷ s) = cond (ltb (digit_value x) b) (digits_from b (v * b + digit_value x) s) None

-- Document 01, 'Printed tree': 'A number has at most nine digits and no leading zero'. A lone 0 is a number.
unfoldable pub decimal_of : List ℕ → Option ℕ
decimal_of s = cond (leb 1 (length s) && leb (length s) 9 && (eqb (length s) 1 || not (eqb (get_or s 0 0) 48))) (digits_from 10 0 s) None

-- Document 01, 'Printed tree': 'words 16 .. upper-case hexadecimal digits'
unfoldable pub word_of : List ℕ → Option ℕ
word_of s = cond (eqb (length s) 16) (digits_from 16 0 s) None

-- Document 01, 'Printed tree': 'cut bits 8 upper-case hexadecimal digits'. The bits of any f32 are written so.
unfoldable pub bits_of : List ℕ → Option ℕ
bits_of s = cond (eqb (length s) 8) (digits_from 16 0 s) None
