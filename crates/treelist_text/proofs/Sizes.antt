-- How many bytes are printed for a text, whatever it is. Laws.
use Rattle.std.specs.Prelude.{Result, Ok, Err}
use Rattle.refusals.specs.declared.Refusal as Reasons
use Rattle.refusals.specs.declared.Refusal.TheVariants as Why
use Rattle.refusals.specs.Refusals.{number}
use Rattle.randomcuttree.specs.declared.RCFTree.{RCFTree}
use mathlib.Core.Path.{◌≡◌}
use mathlib.Core.List.{List, [], ◌∷◌}
use mathlib.Core.Bool.{true}
use Prim.Native.Nat.{ℕ, ◌+◌, ◌*◌, ◌≤◌, ◌<◌}
use native.Mathlib.Omega.{arith}
use lib.Ieee.{Float}
use lib.Dec.{leb}
use lib.ListN.{length, length-append}
use Rattle.limits.specs.Limits.{width, capacity_limit}
use Rattle.readings.specs.Share.{is_share}
use Rattle.cuttree.specs.Run.{World, Refusal, index_above, coordinate_count, bad_coordinate, index_is_leaf, never_written, full, few_words, tree_empty, not_held, bad_weight, no_such_node, Answer, refused, written, added, deleted, copies_are, branch_is, box_is, number_of, call, fresh}
use Rattle.cuttree.proofs.Tests.{by_cond}
use Rattle.wholetree.specs.Whole.{whole}
use Rattle.randomcuttree.specs.State.{Reachable}
use Rattle.randomcuttree.specs.Making.{channels_taken, capacity_taken, empty_tree, made_by}
use Rattle.randomcuttree.proofs.Makings.{in_bounds}
use Rattle.randomcuttree.proofs.Reaches.{reachable_call, reachable_fresh}
use Rattle.form.specs.Rows.{Op}
use Rattle.form.specs.Form.{Parsed, bad, read, parsed, FewRows}
use Rattle.form.proofs.Sizes.{few_rows_lem}
use Rattle.lines.specs.Lines.{Wrote}
use Rattle.lines.proofs.Lengths.{refused_few}
use Rattle.printed.specs.Printed.{tree_limit}
use Rattle.listing.proofs.States.{printed_few}
use Rattle.rowcalls.specs.Ops.{call_of}
use Rattle.treelist_text.specs.Output.{told_row, output_from, output_by, output_of, output, printed_limit, OutputFits, listed_by}

-- ---- a refused row
number_few : (r : Refusal) → number_of r < 100
number_few index_above = omega arith
number_few coordinate_count = omega arith
number_few bad_coordinate = omega arith
number_few index_is_leaf = omega arith
number_few never_written = omega arith
number_few full = omega arith
number_few few_words = omega arith
number_few tree_empty = omega arith
number_few not_held = omega arith
number_few bad_weight = omega arith
number_few no_such_node = omega arith

told_few : (d : ℕ) (a : Answer (whole d)) (n : ℕ) → n < 10000 → length (told_row d a n) ≤ 16
told_few d (refused r) n h = refused_few 3 (number_of r) n (number_few r) h
told_few d written n h = omega arith
told_few d (added j m) n h = omega arith
told_few d (deleted j) n h = omega arith
told_few d (copies_are m) n h = omega arith
told_few d (branch_is r) n h = omega arith
told_few d (box_is b) n h = omega arith

-- ---- the op rows and the tree: each row leaves a reachable world
module _ (d c : ℕ) (l : 1 ≤ d) (m : d ≤ width) (k : c ≤ capacity_limit) where
  rows_few : (W : World (whole d)) → Reachable d c W → (n : ℕ) (os : List Op) → n + length os < 10000 → length (output_from d c W n os) ≤ 16 * length os + tree_limit
  rows_few W R n [] h = omega (arith, printed_few d c W m k R)
  rows_few W R n (o ∷ os) h =
      let x = call (whole d) c W (call_of d o) in
      let here = told_few d x.0 (n + 1) (omega arith) in
      let rest = rows_few x.1 (reachable_call d c l m W (call_of d o) R) (n + 1) os (omega arith) in
      rw length-append (omega (arith, here, rest))

-- ---- the making
module _ (d c : ℕ) (s : Float) (os : List Op) (few : length os ≤ 8180) where
  abbrev Fits : Result RCFTree Reasons.Refusal → Type 0
  Fits r = length (output_by d c r os) ≤ printed_limit

  not_made : (r : Reasons.Refusal) → number r < 100 → Fits (Err r)
  not_made r h = omega (arith, refused_few 3 (number r) 0 h (omega arith))

  is_made : channels_taken d ≡ true → capacity_taken c ≡ true → Fits (Ok (empty_tree d c s))
  is_made f e = let y = in_bounds 1 width d f in let z = in_bounds 2 capacity_limit c e in omega (arith, rows_few d c y.0 y.1 z.1 (fresh (whole d) c) (reachable_fresh d c z.0) 0 os (omega arith))

  by_few : Fits (made_by d c s)
  unfolding made_by
  by_few = by_cond Fits (channels_taken d) _ _
      (λ f. by_cond Fits (capacity_taken c) _ _ (λ e. by_cond Fits (is_share s) _ _ (λ _. is_made f e) (λ _. not_made Why.CachedShare (omega arith))) (λ _. not_made Why.Capacity (omega arith)))
      (λ _. not_made Why.Channels (omega arith))

  by_listed : Fits (listed_by d c s)
  by_listed = by_cond Fits (leb d 8) _ _ (λ _. by_few) (λ _. not_made Why.Channels (omega arith))

-- ---- every text
parsed_few : (p : Parsed) → FewRows p → length (output_of p) ≤ printed_limit
parsed_few (bad r) h = omega (arith, refused_few 4 17 r (omega arith) h)
parsed_few (read m os) h = by_listed m.channels m.capacity _ os h

pub output_fits : OutputFits
output_fits t = parsed_few (parsed t) (few_rows_lem t)

-- so it is with what is written
pub fitting : (t : List ℕ) {before after : List ℕ} {place : ℕ} → Wrote before 0 (output t) place after → Wrote before 0 (output t) place after × (place ≤ printed_limit)
fitting t w = (w, omega (arith, w.next, output_fits t))
