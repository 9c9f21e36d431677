-- What reads leave of an archive's text, and where its first three lines end. Definitions.
use Rattle.std.specs.Prelude.{◌≡◌, List, [], ℕ, ◌+◌, ◌≤◌, ◌<◌, length, take, drop, Option, Some, None, Result, Ok, Err}
use Rattle.std.specs.Io.KnownBytes.{Consumes, IsAtEnd}
use Rattle.text.specs.Pieces.{pieces, PieceEnds}
use Rattle.regrow_text.specs.declared.Failed.{Failed}
use Rattle.regrow_text.specs.declared.Part.{Part}
use Rattle.regrow_text.specs.declared.Head.{Head}

-- one byte at least came behind the first k, which are as they were
pub record Came (k : ℕ) (before : List ℕ) (n : ℕ) (after : List ℕ) : Type 0 where
  pub more : k < n
  pub most : n ≤ length after
  pub kept : take k after ≡ take k before

abbrev pub Brings : ℕ → List ℕ → Result (Option ℕ) Failed → List ℕ → Type 0
Brings k before (Ok (Some n)) after = Came k before n after
Brings k before (Ok None) after = Unit {0}
Brings k before (Err f) after = Unit {0}

-- the same where the archive's end counts as one only if no byte was left
abbrev pub ReadsOn : ℕ → List ℕ → Result (Option ℕ) Failed → List ℕ → Type 0
ReadsOn k before (Ok (Some n)) after = Came k before n after
ReadsOn k before (Ok None) after = k ≡ 0
ReadsOn k before (Err f) after = Unit {0}

-- the k bytes that were left stand between two places of the text, with what came behind them
pub record Left (k : ℕ) (before : List ℕ) (from to : ℕ) (after : List ℕ) : Type 0 where
  pub more : from + k ≤ to
  pub most : to ≤ length after
  pub kept : take k (drop from after) ≡ take k before

-- 'The archive's end' is said only where nothing is left: of an archive that is cut off within a line no tree is printed.
abbrev pub Follows : ℕ → List ℕ → Result (Option Part) Failed → List ℕ → Type 0
Follows k before (Ok (Some p)) after = Left k before p.from p.to after
Follows k before (Ok None) after = k ≡ 0
Follows k before (Err f) after = Unit {0}

-- where a batch read something nothing more is read: what it left is next, where it stands
abbrev pub Stays : (from to read : ℕ) → List ℕ → Result (Option Part) Failed → List ℕ → Type 0
Stays from to read before r after = 0 < read → (r ≡ Ok (Some (record { from = from + read; to = to }))) × (after ≡ before)

-- What an input has left, where that is known, begins with what came behind the first k bytes of a text, and loses it: no byte is lost, and none comes twice.
-- At its end nothing is left, and a read that fails takes nothing.
abbrev pub Takes : ℕ → Option (List ℕ) → Option (List ℕ) → Result (Option ℕ) Failed → List ℕ → Type 0
Takes k had has (Ok (Some n)) after = Consumes had has (drop k (take n after))
Takes k had has (Ok None) after = Consumes had has [] × IsAtEnd has
Takes k had has (Err f) after = Consumes had has []

-- the same of what follows a batch that left k bytes
abbrev pub FollowTakes : ℕ → Option (List ℕ) → Option (List ℕ) → Result (Option Part) Failed → List ℕ → Type 0
FollowTakes k had has (Ok (Some p)) after = Consumes had has (drop (p.from + k) (take p.to after))
FollowTakes k had has (Ok None) after = Consumes had has [] × IsAtEnd has
FollowTakes k had has (Err f) after = Consumes had has []

-- the first three lines of a text end at line feeds, bytes 10, in it
pub record HeadEnds (text : List ℕ) (a b c : ℕ) : Type 0 where
  pub first : PieceEnds 10 text 0 a
  pub second : PieceEnds 10 text (a + 1) b
  pub third : PieceEnds 10 text (b + 1) c
  pub within : c < length text

-- or there are fewer than three
abbrev pub Heads : List ℕ → Option Head → Type 0
Heads text (Some h) = HeadEnds text h.first h.second h.third
Heads text None = length (pieces 10 text) ≤ 3
