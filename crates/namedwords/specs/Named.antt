-- What stands after an arrival's weight where it names its words, a key and a first word number in their place (docs/ARCHIVE_TEXT.md, 'Words by a key', whose words are
-- quoted here). Definitions.
use Rattle.std.specs.Prelude.{◌≡◌, refl, Bool, true, false, ◌&&◌, not, cond, List, [], ◌∷◌, ℕ, ◌+◌, eqb, length, get_or, is_some}
use Rattle.limits.specs.Limits.{capacity_limit}
use Rattle.text.specs.Quoted.{bytes}
use Rattle.text.specs.Numbers.{digit_value, digits_from, word_of}
use Rattle.text.specs.Fields.{word_in}
use Rattle.hexbytes.specs.Hex.{is_hex, hex_bytes}
use Rattle.wordsource.specs.Stream.{key_bytes, stream_words}
use Rattle.wordsource.specs.Filled.{is_stretch}

-- 'a key by 64 upper-case hexadecimal digits (32 bytes, the first byte first, its high digit first)'
abbrev pub is_key : List ℕ → Bool
is_key s = is_hex key_bytes s

-- Whether the fields after the weight are KEY and FIRST, 'the number of its first word in the key's stream by 16' digits, and no more.
unfoldable pub is_named : List (List ℕ) → Bool
is_named qs = eqb (length qs) 2 && is_key (get_or qs 0 []) && is_some (word_of (get_or qs 1 []))

-- so the key's bytes, and the number of the first word in its stream
abbrev pub key_in : List (List ℕ) → List ℕ
key_in qs = hex_bytes (get_or qs 0 [])

abbrev pub first_in : List (List ℕ) → ℕ
first_in qs = word_in 1 qs

-- 'word FIRST for the starting chance, then the 256 words FIRST + 1 to FIRST + 256 for the tree, as many as any tree asks for'
abbrev pub row_words : ℕ
row_words = capacity_limit + 1

-- Whether words are named of which 'the stream has not 257 .. from FIRST on'; such a row is refused with 22. Fields that name none are not beyond the stream's end.
unfoldable pub is_beyond : List (List ℕ) → Bool
is_beyond qs = is_named qs && not (is_stretch (first_in qs) row_words)

-- THE WORDS that are named, the starting chance's first; none where the stream has not so many
unfoldable pub named_in : List (List ℕ) → List ℕ
named_in qs = cond (is_stretch (first_in qs) row_words) (stream_words (key_in qs) (first_in qs) row_words) []

-- a key of the bytes 0 to 31 with the last number from which the stream has 257 words, and with the next one; and with a field after them
abbrev key : List ℕ
key = bytes "000102030405060708090A0B0C0D0E0F101112131415161718191A1B1C1D1E1F"

last_had : (is_named (key ∷ bytes "00000007FFFFFEFF" ∷ []) && not (is_beyond (key ∷ bytes "00000007FFFFFEFF" ∷ []))) ≡ true
unfolding is_beyond is_named word_of digits_from digit_value
last_had = refl

next_beyond : is_beyond (key ∷ bytes "00000007FFFFFF00" ∷ []) ≡ true
unfolding is_beyond is_named word_of digits_from digit_value
next_beyond = refl

field_after : is_named (key ∷ bytes "0000000000000000" ∷ [] ∷ []) ≡ false
unfolding is_named
field_after = refl
