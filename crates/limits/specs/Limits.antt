-- Document 01's limits, under the names that definitions and laws use. Nothing else says these numbers. Definitions.
use Rattle.std.specs.Prelude.{ℕ, ◌-◌}

-- Request A.7: 'up to 32 channels': how wide a row of coordinates is
abbrev pub width : ℕ
width = 32

-- 'Capacity c is 2 to 256': the leaves of a tree
abbrev pub capacity_limit : ℕ
capacity_limit = 256

-- the branches of a tree of so many leaves
abbrev pub branch_limit : ℕ
branch_limit = capacity_limit - 1

-- 'point indices 0 to 1,023'
abbrev pub point_limit : ℕ
point_limit = 1024

-- '10 total is 65,535'
abbrev pub total_limit : ℕ
total_limit = 65535
