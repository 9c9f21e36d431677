-- The lines that `treelist` prints, as lists of bytes, and bytes written to a lent buffer. Definitions.
use Rattle.std.specs.Prelude.{◌≡◌, refl, cond, List, [], ◌∷◌, ◌++◌, ℕ, zero, suc, ◌+◌, ◌/◌, ◌%◌, ltb, length}
use Rattle.std.proofs.lemmas.List.Edits.{sets}
use Rattle.text.specs.Quoted.{bytes}

-- the byte of a digit, `0` to `9` and `A` to `F`
unfoldable pub digit : ℕ → ℕ
digit d = cond (ltb d 10) (48 + d) (55 + d)

-- the digits of n, with room for so many
unfoldable pub decimal_in : ℕ → ℕ → List ℕ
decimal_in zero n = []
decimal_in (suc room) n = cond (ltb n 10) (digit n ∷ []) (decimal_in room (n / 10) ++ (digit (n % 10) ∷ []))

-- 'Numbers are decimal' and have no leading zero; n has no more digits than n + 1. Below 10^9 it is read back as n (`number_decimal` in proofs/Back.antt).
unfoldable pub decimal : ℕ → List ℕ
decimal n = decimal_in (suc n) n

-- 'upper-case hexadecimal digits': the last `count` of n. A word's sixteen are read back as it (`word_hex` in proofs/Back.antt).
unfoldable pub hex : ℕ → ℕ → List ℕ
hex zero n = []
hex (suc count) n = hex count (n / 16) ++ (digit (n % 16) ∷ [])

-- 'One space stands between fields, and every line, the last too, ends in a line feed.' A field with its space, and the last with its line feed.
abbrev pub number_field : ℕ → List ℕ
number_field n = decimal n ++ (32 ∷ [])

abbrev pub last_number_field : ℕ → List ℕ
last_number_field n = decimal n ++ (10 ∷ [])

-- 'id dimension cut left right mass'
abbrev pub names_line : List ℕ
names_line = 105 ∷ 100 ∷ 32 ∷ 100 ∷ 105 ∷ 109 ∷ 101 ∷ 110 ∷ 115 ∷ 105 ∷ 111 ∷ 110 ∷ 32 ∷ 99 ∷ 117 ∷ 116 ∷ 32 ∷ 108 ∷ 101 ∷ 102 ∷ 116 ∷ 32 ∷ 114 ∷ 105 ∷ 103 ∷ 104 ∷ 116 ∷ 32 ∷ 109 ∷ 97 ∷ 115 ∷ 115 ∷ 10 ∷ []

-- '0 0 40800000 1 5 3': a branch's line. 'cut bits 8 upper-case hexadecimal digits', and '`left` and `right` are ids'.
unfoldable pub branch_line : (id dimension cut left right mass : ℕ) → List ℕ
branch_line id dimension cut left right mass = number_field id ++ number_field dimension ++ hex 8 cut ++ (32 ∷ []) ++ number_field left ++ number_field right ++ last_number_field mass

example_branch : branch_line 1 0 0x3f80_0000 4 6 2 ≡ bytes "1 0 3F800000 4 6 2\n"
unfolding branch_line decimal decimal_in hex digit
example_branch = refl

-- '4 - - - - 1': a leaf's line
unfoldable pub leaf_line : (id mass : ℕ) → List ℕ
leaf_line id mass = number_field id ++ (45 ∷ 32 ∷ 45 ∷ 32 ∷ 45 ∷ 32 ∷ 45 ∷ 32 ∷ []) ++ last_number_field mass

-- 'A refused row prints `refused N R`'
unfoldable pub refused_line : (number row : ℕ) → List ℕ
refused_line number row = (114 ∷ 101 ∷ 102 ∷ 117 ∷ 115 ∷ 101 ∷ 100 ∷ 32 ∷ []) ++ number_field number ++ last_number_field row

example_refused : refused_line 17 120 ≡ bytes "refused 17 120\n"
unfolding refused_line decimal decimal_in digit
example_refused = refl

-- The bytes are written from `at` on, as far as the buffer goes: what it held before and holds after, and the next place, which is one beyond the buffer where
-- they do not fit. So every byte of the buffer is named.
pub record Wrote (before : List ℕ) (at : ℕ) (bytes : List ℕ) (place : ℕ) (after : List ℕ) : Type 0 where
  pub next : place ≡ at + length bytes
  pub left : after ≡ sets before at bytes
