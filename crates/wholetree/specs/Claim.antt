-- Document 01's demand 3 for a bare tree over its own readings and cuts.
use Rattle.std.specs.Prelude.{ℕ}
use Rattle.cuttree.specs.Demand3.{Demand3}
use Rattle.wholetree.specs.Whole.{whole}

-- For every number of channels d and every capacity c from 2 on, so for 1 to 32 and 2 to 256, and every list of puts, adds, deletes and
-- queries, refused ones included, from a fresh tree and an unwritten table: each clause of the copy counts holds after each call.
abbrev pub WholeDemand3 : Type 0
WholeDemand3 = (d c : ℕ) → Demand3 (whole d) c
