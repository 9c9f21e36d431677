-- That states are met: each world that a making and its calls leave stands in arrays, and a put leaves one too. Statements.
use Rattle.std.specs.Prelude.{◌≡◌, true, List, ℕ, ◌≤◌, Float, Result}
use Rattle.limits.specs.Limits.{width, capacity_limit}
use Rattle.readings.specs.Share.{is_share}
use Rattle.cuttree.specs.Run.{World, Call, put, call, world_after, fresh}
use Rattle.wholetree.specs.Whole.{whole}
use Rattle.layout.specs.Layout.{table_of}
use Rattle.refusals.specs.declared.Refusal.{Refusal}
use Rattle.pointstore.specs.Puts.{Tabled, PutDone}
use Rattle.treestore.specs.Arrays.{NodeStore, arrays_of}
use Rattle.randomcuttree.specs.declared.RCFTree.{RCFTree}
use Rattle.randomcuttree.specs.State.{cached_by, State, header_of}

-- After any list of calls from a fresh tree and an unwritten table there is a state, for every share that a making takes: what add and delete
-- ask of their caller is met by trees of any number of branches.
abbrev pub StatesStand : Type 0
StatesStand = (d c : ℕ) (s : Float) → 1 ≤ d → d ≤ width → 2 ≤ c → c ≤ capacity_limit → is_share s ≡ true → (cs : List (Call (whole d)))
    → let W = world_after (whole d) c (fresh (whole d) c) cs in State d c s W (header_of d c s W) (arrays_of d c (cached_by s c) W.tree W.free) (table_of W.table).points (table_of W.table).written

-- A put is told its table by a state, and leaves one: header and arrays stay as they are.
abbrev pub PutsKeep : Type 0
PutsKeep = (d c : ℕ) (s : Float) (W : World (whole d)) (tree : RCFTree) (a : NodeStore) (points : List (List Float)) (marks : List ℕ) → State d c s W tree a points marks
    → Tabled d c W points marks a.copies
    × ((i : ℕ) (xs : List Float) (points' : List (List Float)) (marks' : List ℕ) (r : Result Unit Refusal) → PutDone d c W i xs points' marks' r → State d c s (call (whole d) c W (put i xs)).1 tree a points' marks')
