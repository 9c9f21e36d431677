-- The kinds of starred case, and when a case holds. A later kind joins as one constructor and one clause.
use Rattle.std.specs.Prelude.{Option, Some, None, List, [], ◌∷◌, Bool, true, false, ◌&&◌, ℕ, eqb, length, Float}
use Rattle.std.proofs.Math.Option.{none, some}
use Prim.Native.String.{String}
use Rattle.std.specs.Float.{binary32, binary64}
use Rattle.std.specs.Float.Ieee.{of_bits, to_bits, fits, round, add, sub, mul, div, of_int, lt, le, eq}
use Rattle.readings.specs.Coordinate.{is_coordinate}
use Rattle.readings.specs.Number.{is_number, as_number, zero, number}
use Rattle.readings.specs.Word.{factor_of}
use Rattle.readings.specs.Narrow.{narrowed}
use Rattle.text.specs.Quoted.{bytes}
use Rattle.lines.specs.Lines.{digit, decimal_in, decimal, hex, branch_line, leaf_line}
use Rattle.boundingbox.specs.Ends.{least, greatest}
use Rattle.boundingbox.specs.Sides.{gap_of, total}
use Rattle.boundingbox.specs.Contained.{every}
use Rattle.cut.specs.declared.Separation.{Separation}
use Rattle.cut.specs.Draw.{outside_of, outside_sum, side_of, range_of, reaches, left_of, side_from, moved, placed, parts, drawn_at, separation}
use Rattle.probability.specs.Probability.{past_by, total32, part_of, probability}
use Rattle.intervalstoremanager.specs.Stack as Stack
use Rattle.cuttree.specs.Run.{Answer, refused, written, added, deleted, copies_are, branch_is, box_is, Call, add as add_call, call, fresh, world_after}
use Rattle.startingchance.specs.Chance.{fill_fraction, chance_of, starts_by}
use Rattle.sampler.specs.Heap.{moved as stepped, heavier}
use Rattle.sampledtree.specs.Sampled.{SampledCall, SampledAnswer, plain, not_accepted, accepted, call as call_sampled, sampled_after, fresh as fresh_sampled}
use Rattle.wholetree.specs.Reading.{is_coordinate32, is_row, coordinate, same_row, padded, origin, as_reading, reading}
use Rattle.wholetree.specs.Whole.{tab, whole}
use Rattle.printed.specs.Printed.{printed_tree}

-- Floats are given by their bits: words and f64s 16 hexadecimal digits, f32s 8.
pub data Case : Type 0 where
  -- a leaf's point, a new point and a word: the channel and the cut, which parts
  cuts : List ℕ → List ℕ → ℕ → ℕ → ℕ → Case
  -- an f64, and the f32 it narrows to
  narrows : ℕ → ℕ → Case
  -- channels, capacity, calls, then an add's index and words: the index and the words taken that it answers, and what the tree prints after it
  lists : (d c : ℕ) → List (Call (whole d)) → ℕ → List ℕ → ℕ → ℕ → String → Case
  -- a box's lower and upper ends and a query: the chance that a cut parts them, an f64
  chances : List ℕ → List ℕ → List ℕ → ℕ → Case
  -- channels, capacity, an initial share, calls on a sampled tree, then one more: the leaf's index and the evicted index, if any, that it
  -- answers; none where it is not accepted
  samples : (d c : ℕ) → ℕ → List (SampledCall (whole d)) → SampledCall (whole d) → List ℕ → Case

-- f32s by their bits
abbrev pub floats : List ℕ → List Float
floats [] = []
floats (b ∷ bs) = of_bits binary32 b ∷ floats bs

abbrev draws : Option Separation → ℕ → ℕ → Bool
draws None d v = false
draws (Some s) d v = eqb s.cut.dimension d && eqb (to_bits binary32 s.cut.value) v && s.parts

abbrev is_added : (d : ℕ) → Answer (whole d) → ℕ → ℕ → Bool
is_added d (refused e) j m = false
is_added d written j m = false
is_added d (added i n) j m = eqb i j && eqb n m
is_added d (deleted i) j m = false
is_added d (copies_are n) j m = false
is_added d (branch_is r) j m = false
is_added d (box_is b) j m = false

abbrev alike : List ℕ → List ℕ → Bool
alike [] [] = true
alike [] (y ∷ ys) = false
alike (x ∷ xs) [] = false
alike (x ∷ xs) (y ∷ ys) = eqb x y && alike xs ys

abbrev is_updated : (d : ℕ) → SampledAnswer (whole d) → List ℕ → Bool
is_updated d (plain a) l = false
is_updated d not_accepted l = alike [] l
is_updated d (accepted j none) l = alike (j ∷ []) l
is_updated d (accepted j (some e)) l = alike (j ∷ e ∷ []) l

unfoldable pub holds : Case → Bool
unfolding Stack.fresh Stack.next Stack.after_get Stack.after_release of_bits to_bits fits round add sub mul lt le eq is_coordinate factor_of narrowed least greatest gap_of total every outside_of outside_sum side_of range_of reaches left_of side_from moved placed parts drawn_at separation is_number as_number zero number is_coordinate32 is_row coordinate same_row padded origin as_reading reading tab digit decimal_in decimal hex branch_line leaf_line div of_int fill_fraction chance_of starts_by stepped heavier past_by total32 part_of probability
holds (cuts q p w d v) = draws (separation (length q) (floats q) (floats q) (floats p) w) d v
holds (narrows x y) = eqb (to_bits binary32 (narrowed (of_bits binary64 x))) y
holds (lists d c xs i ws j n text) =
    let r = call (whole d) c (world_after (whole d) c (fresh (whole d) c) xs) (add_call i ws) in
    is_added d r.0 j n && alike (printed_tree d c r.1.tree) (bytes text)
holds (chances lo hi p x) = eqb (to_bits binary64 (probability (floats lo) (floats hi) (floats p) (length lo))) x
holds (samples d c f xs x l) = is_updated d (call_sampled (whole d) (sampled_after (whole d) (fresh_sampled (whole d) c (of_bits binary64 f)) xs) x).0 l

unfoldable pub all : List Case → Bool
unfolding holds
all [] = true
all (c ∷ cs) = holds c && all cs
