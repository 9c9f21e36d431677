-- The kinds of records and their room, what is known of one that is read, whether the port agrees with it, and how it is counted. Definitions.
use Rattle.std.specs.Prelude.{◌≡◌, ℕ, ◌+◌, ◌%◌, ◌^◌, ◌<◌, ◌≤◌, Bool, cond, ◌&&◌, List, [], ◌∷◌, length, drop, ◌==◌, slice_index}
use Rattle.records.specs.declared.Record.{Record}
use Rattle.records.specs.declared.NoRecord.{NoRecord}
use Rattle.records.specs.declared.NoRecord.TheVariants.{Ended, Short, Empty, Malformed}
use Rattle.records.specs.declared.Judgement.{Judgement}
use Rattle.records.specs.Agreeing.{agreeing}

-- the kinds are the numbers below this; no record is given more bytes than this, or answered with more
abbrev pub kinds : ℕ
kinds = 13

abbrev pub room : ℕ
room = 16384

-- a record that was read: it has room, and beyond it the two buffers are as they were
pub record Read (r : Record) (given given' expected expected' : List ℕ) : Type 0 where
  pub kind : r.kind < kinds
  pub size : r.size ≤ room
  pub count : r.count ≤ room
  pub given_long : length given' ≡ room
  pub given_beyond : drop r.size given' ≡ drop r.size given
  pub expected_beyond : drop r.count expected' ≡ drop r.count expected

-- why there is none where `number` records were before: the input is at its end, or it has none at all; it may end within one, or none begins so
abbrev pub Reason : (number : ℕ) → NoRecord → Type 0
Reason number Ended = 0 < number
Reason number Empty = number ≡ 0
Reason number Short = Unit {0}
Reason number Malformed = Unit {0}

-- the same number is returned, and every byte lent is the same
abbrev pub agreed : (returned got : ℕ) → (expected answers : List ℕ) → Bool
agreed returned got expected answers = returned == got && agreeing expected answers == room

abbrev pub judgement : (returned got : ℕ) → (expected answers : List ℕ) → Judgement
judgement returned got expected answers = record { agrees = agreed returned got expected answers; same = agreeing expected answers }

-- One more, as a u64 has it: no input has so many records that it starts again at 0.
abbrev pub more : ℕ → ℕ
more n = (n + 1) % 2 ^ 64

-- how many records are compared, and how many of them agree
abbrev pub counted : List ℕ → Bool → List ℕ
counted counts same = more (slice_index counts 0) ∷ cond same (more (slice_index counts 1)) (slice_index counts 1) ∷ []
