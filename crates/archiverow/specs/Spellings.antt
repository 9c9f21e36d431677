-- The two spellings of an arrival's words: a row that names them says what the row with the words written out says. A statement, and an example of each answer.
use Rattle.std.specs.Prelude.{◌≡◌, refl, true, false, List, [], ◌∷◌, ℕ, replicate}
use Rattle.std.specs.Float.{binary32}
use Rattle.std.specs.Float.Ieee.{of_bits}
use Rattle.text.specs.Quoted.{bytes}
use Rattle.text.specs.Pieces.{pieces}
use Rattle.text.specs.Numbers.{digit_value, digits_from, decimal_of, word_of, bits_of}
use Rattle.form.specs.Rows.{are_words}
use Rattle.wordsource.specs.Stream.{stream_word, stream_words}
use Rattle.hexbytes.specs.Hex.{hex_bytes}
use Rattle.namedwords.specs.Named.{is_named, key_in, first_in, row_words, is_beyond, named_in}
use Rattle.archiverow.specs.Rows.{arrives, beyond, words_in, is_arrival, row_by, row_of_fields, row_of}

-- docs/ARCHIVE_TEXT.md: 'A row that names a key and a first word number says what the row with 257 words written out says': of every index and weight, a key and a first word number from which the stream has so many words,
-- and fields that are those words. Proved of all (`named_as_written` in proofs/Spellings.antt).
abbrev pub NamedAsWritten : Type 0
NamedAsWritten = (i w key first : List ℕ) (xs : List (List ℕ)) → is_named (key ∷ first ∷ []) ≡ true → is_beyond (key ∷ first ∷ []) ≡ false
    → are_words xs ≡ true → words_in xs ≡ stream_words (key_in (key ∷ first ∷ [])) (first_in (key ∷ first ∷ [])) row_words
    → row_of_fields (bytes "3" ∷ i ∷ w ∷ key ∷ first ∷ []) ≡ row_of_fields (bytes "3" ∷ i ∷ w ∷ xs)

-- a row whose words start at number 5 of the stream of the key with all bytes 16; and one that starts where the stream ends
named : row_of (bytes "3 7 3F800000 1010101010101010101010101010101010101010101010101010101010101010 0000000000000005")
    ≡ arrives 7 (of_bits binary32 0x3f80_0000) (stream_word (replicate 32 16) 5) (stream_words (replicate 32 16) 6 256)
unfolding row_of row_of_fields row_by is_arrival is_beyond is_named hex_bytes named_in stream_words pieces digit_value digits_from decimal_of word_of bits_of
named = refl

past_end : row_of (bytes "3 7 3F800000 1010101010101010101010101010101010101010101010101010101010101010 0000000800000000") ≡ beyond
unfolding row_of row_of_fields row_by is_arrival is_beyond is_named pieces digit_value digits_from decimal_of word_of bits_of
past_end = refl
