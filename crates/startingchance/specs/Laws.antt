-- What holds of the starting chance at a share: the statements. Each is proved in proofs/, in the file that its comment names.
use Rattle.std.specs.Prelude.{◌≡◌, ℕ, ◌^◌, ◌≤◌, ◌<◌, true, false, T, pos, Float}
use Rattle.std.specs.Float.{fin, binary64}
use Rattle.std.specs.Float.Ieee.{fits}
use Rattle.readings.specs.Share.{is_share}
use Rattle.readings.specs.Number.{nought}
use Rattle.startingchance.specs.Chance.{fill_fraction, chance_of, starts_by}

-- An empty sample always starts, whatever the word (Ends.antt).
abbrev pub EmptyStarts : Type 0
EmptyStarts = (w c : ℕ) (share : Float) → w < 2 ^ 64 → 0 < c → c < 2 ^ 16 → is_share share ≡ true → starts_by w 0 c share ≡ true

-- A full one never does (Ends.antt). So it is no matter that the Rust draws no number there.
abbrev pub FullNeverStarts : Type 0
FullNeverStarts = (w c : ℕ) (share : Float) → w < 2 ^ 64 → is_share share ≡ true → starts_by w c c share ≡ false

-- Minus zero counts as zero (Range.antt).
abbrev pub MinusZeroIsZero : Type 0
MinusZeroIsZero = (n c : ℕ) → n ≤ c → 0 < c → c < 2 ^ 16 → chance_of (fill_fraction n c) (fin true 0 (pos 0)) ≡ chance_of (fill_fraction n c) nought

-- The chance lies in 0 to 1, as a share does, at every fill and for every f64 that is a share (Range.antt).
abbrev pub ChanceInRange : Type 0
ChanceInRange = (n c : ℕ) (share : Float) → n ≤ c → 0 < c → c < 2 ^ 16 → T (fits binary64 share) → is_share share ≡ true → is_share (chance_of (fill_fraction n c) share) ≡ true
