-- That states are met: each sampled world that a making and its calls leave stands in arrays, and a put leaves one too. Statements.
use Rattle.std.specs.Prelude.{◌≡◌, refl, true, List, [], ◌∷◌, map, ℕ, ◌≤◌, Float, Result}
use Rattle.std.specs.Float.{binary32}
use Rattle.std.specs.Float.Ieee.{of_bits, fits, round, sub, div, of_int, lt, le, eq}
use Rattle.limits.specs.Limits.{width, capacity_limit}
use Rattle.readings.specs.Coordinate.{is_coordinate}
use Rattle.readings.specs.Number.{nought, is_number}
use Rattle.readings.specs.Share.{is_share}
use Rattle.readings.specs.Word.{factor_of}
use Rattle.boundingbox.specs.Contained.{every}
use Rattle.startingchance.specs.Chance.{one, fill_fraction, chance_of, starts_by}
use Rattle.sampler.specs.Heap.{moved, heavier}
use Rattle.intervalstoremanager.specs.Stack as Stack
use Rattle.cuttree.specs.Run.{copies_of, copies_are, ask}
use Rattle.wholetree.specs.Reading.{is_coordinate32, is_row, coordinate, same_row, padded, origin, as_reading, reading}
use Rattle.wholetree.specs.Whole.{whole}
use Rattle.sampledtree.specs.Sampled.{Sampled, SampledCall, put, arrive, call, sampled_after, fresh}
use Rattle.layout.specs.Layout.{table_of}
use Rattle.refusals.specs.declared.Refusal.{Refusal}
use Rattle.pointstore.specs.Puts.{Tabled, PutDone}
use Rattle.treestore.specs.Arrays.{NodeStore, arrays_of}
use Rattle.randomcuttree.specs.State.{cached_by}
use Rattle.samplerplustree.specs.declared.SamplerPlusTree.{SamplerPlusTree}
use Rattle.samplerplustree.specs.State.{weights_of, held_of, head_of, SampledState}

-- After any list of puts, arrivals and queries from a fresh sampled tree and an unwritten table there is a state, for every two shares that a
-- making takes: what an arrival asks of its caller is met by trees and samples of any size.
abbrev pub SampledStand : Type 0
SampledStand = (d c : ℕ) (s f : Float) → 1 ≤ d → d ≤ width → 2 ≤ c → c ≤ capacity_limit → is_share s ≡ true → is_share f ≡ true → (cs : List (SampledCall (whole d)))
    → let X = sampled_after (whole d) (fresh (whole d) c f) cs in
    SampledState d s X (head_of d s X) (arrays_of d X.capacity (cached_by s X.capacity) X.world.tree X.world.free) (table_of X.world.table).points (table_of X.world.table).written (weights_of X.sample) (held_of X.sample)

-- Among them are full samples, and such that keep equal readings: two arrivals of one value, at capacity 2 and initial share 1, are a leaf of
-- two copies, whose index the sample keeps twice.
abbrev two_alike : List (SampledCall (whole 1))
two_alike =
    put 0 (nought ∷ []) ∷ put 1 (nought ∷ [])
    ∷ arrive 0 (of_bits binary32 0xbf80_0000) 0 (0 ∷ 0 ∷ [])
    ∷ arrive 1 (of_bits binary32 0xc040_0000) 0 (0 ∷ 0 ∷ [])
    ∷ []

full_of_equals : let X = sampled_after (whole 1) (fresh (whole 1) 2 one) two_alike in (map (λ k. k.index) X.sample ≡ 0 ∷ 0 ∷ []) × (ask (whole 1) 2 X.world (copies_of 2) ≡ copies_are 2)
unfolding Stack.fresh of_bits fits round sub div of_int lt le eq is_coordinate factor_of is_number every is_coordinate32 is_row coordinate same_row padded origin as_reading reading fill_fraction chance_of starts_by moved heavier
full_of_equals = (refl, refl)

-- A put is told its table by a state, and leaves one: header, arrays and sample stay as they are. What an arrival leaves is said in `Updated`.
abbrev pub PutsKeepSampled : Type 0
PutsKeepSampled = (d : ℕ) (s : Float) (X : Sampled (whole d)) (h : SamplerPlusTree) (a : NodeStore) (points : List (List Float)) (marks : List ℕ) (weights : List Float) (held : List ℕ) → SampledState d s X h a points marks weights held
    → Tabled d X.capacity X.world points marks a.copies
    × ((i : ℕ) (xs : List Float) (points' : List (List Float)) (marks' : List ℕ) (r : Result Unit Refusal) → PutDone d X.capacity X.world i xs points' marks' r → SampledState d s (call (whole d) X (put i xs)).1 h a points' marks' weights held)
