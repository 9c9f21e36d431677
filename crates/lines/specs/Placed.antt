-- A text in a lent line, byte by byte (document 02, A.5): what stands at each place of the line once the text is written. Definitions, and the law that this is
-- what `Wrote` says.
use Rattle.std.specs.Prelude.{◌≡◌, refl, cond, List, [], ◌∷◌, ℕ, suc, ◌+◌, ◌-◌, ltb, length, get_or}
use Rattle.text.specs.Quoted.{bytes}
use Rattle.lines.specs.Lines.{digit, decimal_in, decimal, Wrote}

-- 'the number's digits at their places, every other byte as before': what stands at place i, where b stood, with a text written from `at` on. It is the text's
-- byte for that place; before the text and behind it, b.
abbrev pub byte_at : (at : ℕ) (text : List ℕ) (i b : ℕ) → ℕ
byte_at at text i b = cond (ltb i at) b (get_or text (i - at) b)

-- the bytes of a line from place i on, each by its place and what stood there
unfoldable pub each_byte : (ℕ → ℕ → ℕ) → ℕ → List ℕ → List ℕ
each_byte f i [] = []
each_byte f i (b ∷ line) = f i b ∷ each_byte f (suc i) line

-- How many bytes a text has, and the line with it, byte by byte to the line's end. What would stand beyond the end is counted and not stored.
unfoldable pub placed : (line : List ℕ) (at : ℕ) (text : List ℕ) → ℕ × List ℕ
placed line at text = (length text, each_byte (byte_at at text) 0 line)

example_within : placed (bytes "......") 2 (decimal 407) ≡ (3, bytes "..407.")
unfolding placed each_byte decimal decimal_in digit
example_within = refl

example_end : placed (bytes "....") 2 (decimal 407) ≡ (3, bytes "..40")
unfolding placed each_byte decimal decimal_in digit
example_end = refl

example_beyond : placed (bytes "....") 9 (decimal 407) ≡ (3, bytes "....")
unfolding placed each_byte decimal decimal_in digit
example_beyond = refl

-- The text is that of before: what stands at each place is what `Wrote` says, of which the promises of all lines and texts speak. For every line, place and
-- text; proved in proofs/Placed.antt.
abbrev pub AsWritten : Type 0
AsWritten = (line : List ℕ) (at : ℕ) (text : List ℕ) (count : ℕ) (after : List ℕ) → (count, after) ≡ placed line at text → Wrote line at text (at + count) after
