-- What the C entry of the source of words gives: the number that is returned, and the lent list after it (docs/LAYOUT.md, 'Words from a key'). Definitions.
use Rattle.std.specs.Prelude.{List, ℕ, ◌*◌, Result, Ok, Err}
use Rattle.refusals.specs.declared.Refusal.{Refusal}
use Rattle.refusals.specs.Refusals.{number}
use Rattle.wordsource.specs.Filled.{filled}

-- how many bytes are written, eight for each word; or the refusal's number, 21 or 22, which no multiple of 8 is
abbrev pub returned : Result ℕ Refusal → ℕ
returned (Ok count) = 8 * count
returned (Err refusal) = number refusal

abbrev pub words_outcome : (key : List ℕ) (start : ℕ) (words : List ℕ) → ℕ × List ℕ
words_outcome key start words = (returned (filled key start words).0, (filled key start words).1)
