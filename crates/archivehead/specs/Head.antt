-- The first three lines of an archive, each without its line feed, for every list of bytes: a line of names, the making's row, and a line of names. Definitions.
use Rattle.std.specs.Prelude.{ℕ, ◌≡◌, refl, List, [], ◌∷◌, Bool, bytes_eq, Option, Some, None}
use Rattle.std.proofs.Math.Option.{Option as Maybe, none, some}
use Rattle.text.specs.Quoted.{bytes}
use Rattle.text.specs.Pieces.{pieces}
use Rattle.text.specs.Numbers.{digit_value, digits_from, decimal_of}
use Rattle.form.specs.Form.{op_names}
use Rattle.archivehead.specs.declared.MakingLine.{MakingLine}

-- Document 01, 'Printed tree': 'Two blocks, each a line of names, then lines of values.' The first line, whose fourth name is a sampled tree's, and the third.
abbrev pub is_making_names : List ℕ → Bool
is_making_names s = bytes_eq s (bytes "dimensions capacity cache16 initial16")

abbrev pub is_row_names : List ℕ → Bool
is_row_names s = bytes_eq s op_names

-- Document 01, 'Printed tree': '`cache16` is the share in sixteenths'. So are both shares here, the cached one and the initial one.
pub record ArchiveMaking : Type 0 where
  pub channels : ℕ
  pub capacity : ℕ
  pub cached : ℕ
  pub initial : ℕ

-- four numbers, none where one of them is out of form
abbrev pub archive_making_by : Option ℕ → Option ℕ → Option ℕ → Option ℕ → Maybe ArchiveMaking
archive_making_by None b c d = none
archive_making_by (Some x) None c d = none
archive_making_by (Some x) (Some y) None d = none
archive_making_by (Some x) (Some y) (Some z) None = none
archive_making_by (Some x) (Some y) (Some z) (Some w) = some (record { channels = x; capacity = y; cached = z; initial = w })

-- Document 01, 'Printed tree': 'A number has at most nine digits and no leading zero'. The second line by its fields, none where it is out of form. Whether the
-- tree takes these numbers is no matter of form.
unfoldable pub archive_making_of : List (List ℕ) → Maybe ArchiveMaking
archive_making_of [] = none
archive_making_of (a ∷ []) = none
archive_making_of (a ∷ b ∷ []) = none
archive_making_of (a ∷ b ∷ c ∷ []) = none
archive_making_of (a ∷ b ∷ c ∷ d ∷ []) = archive_making_by (decimal_of a) (decimal_of b) (decimal_of c) (decimal_of d)
archive_making_of (a ∷ b ∷ c ∷ d ∷ e ∷ ps) = none

-- 'One space stands between fields': the making of a line, of which 32 is the space
abbrev pub making_of_line : List ℕ → Maybe ArchiveMaking
making_of_line s = archive_making_of (pieces 32 s)

-- what `read_making` answers says
abbrev pub making_says : Option MakingLine → Maybe ArchiveMaking
making_says None = none
making_says (Some m) = some (record { channels = m.channels; capacity = m.capacity; cached = m.cached; initial = m.initial })

-- one channel, capacity 4, the whole cache and an eighth as the initial share; and a line with no initial share
whole : making_of_line (bytes "1 4 16 2") ≡ some (record { channels = 1; capacity = 4; cached = 16; initial = 2 })
unfolding archive_making_of pieces digit_value digits_from decimal_of
whole = refl

bare : making_of_line (bytes "1 4 16") ≡ none
unfolding archive_making_of pieces
bare = refl
