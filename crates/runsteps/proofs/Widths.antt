-- How many numbers a call's answer has. Laws.
use mathlib.Core.Path.{◌≡◌, refl}
use mathlib.Core.List.{List}
use Prim.Native.Nat.{ℕ, ◌+◌, ◌*◌, ◌≤◌}
use native.Mathlib.Omega.{arith}
use lib.ListN.{length, length-append, length-replicate}
use lib.Ieee.{Float}
use Rattle.limits.specs.Limits.{width}
use Rattle.cuttree.specs.Run.{World, Answer, Call, put, add, delete, query, copies_of, branch_of, box_of, call}
use Rattle.wholetree.specs.Whole.{whole}
use Rattle.wholetree.proofs.Readings.{tab_length}
use Rattle.std.specs.Prelude.{Option, None, Some, Result, Ok, Err}
use Rattle.refusals.specs.declared.Refusal.{Refusal}
use Rattle.boundingbox.specs.declared.BoundingBox.{BoundingBox}
use Rattle.randomcuttree.specs.declared.Added.{Added}
use Rattle.randomcuttree.specs.declared.Deleted.{Deleted}
use Rattle.randomcuttree.specs.declared.BranchRow.{BranchRow}
use Rattle.pointstore.specs.Puts.{put_says}
use Rattle.randomcuttree.specs.State.{header_of}
use Rattle.randomcuttree.specs.Answers.{add_says, delete_says}
use Rattle.randomcuttree.specs.Queries.{copies_say, branch_says, box_says}
use Rattle.sampledtree.specs.Sampled.{Sampled, arrive, call as arrived}
use Rattle.samplerplustree.specs.declared.Accepted.{Accepted}
use Rattle.samplerplustree.specs.State.{head_of}
use Rattle.samplerplustree.specs.Updates.{update_says}
use Rattle.nodeview.specs.Report.{report_of}
use Rattle.answers.specs.Said.{put_numbers, add_numbers, delete_numbers, count_numbers, branch_numbers, box_numbers, end_bits, said, reply_width}
use Rattle.arrivals.specs.Arrived.{accepted_numbers, arrival_numbers}
use Rattle.arrivals.proofs.Sample.{sample_width}
use Rattle.runlayout.specs.Layout.{RunCall, plain, arrives, reports, sample}
use Rattle.runlayout.specs.Check.{plain_width, width_of}
use Rattle.runreports.proofs.Reports.{report_width}
use Rattle.runsteps.specs.Told.{told}

of_put : (r : Result Unit Refusal) → length (put_numbers r) ≡ 1
of_put (Ok u) = refl
of_put (Err r) = refl

of_add : (r : Result Added Refusal) → length (add_numbers r) ≡ 3
of_add (Ok a) = refl
of_add (Err r) = refl

of_delete : (r : Result Deleted Refusal) → length (delete_numbers r) ≡ 2
of_delete (Ok a) = refl
of_delete (Err r) = refl

of_count : (r : Result ℕ Refusal) → length (count_numbers r) ≡ 2
of_count (Ok n) = refl
of_count (Err r) = refl

of_branch : (r : Result BranchRow Refusal) → length (branch_numbers r) ≡ 6
of_branch (Ok b) = refl
of_branch (Err r) = refl

ends_length : (d : ℕ) (xs : List Float) → length (end_bits d xs) ≡ d
ends_length d xs = tab_length d _

of_box : (d : ℕ) (r : Result BoundingBox Refusal) → length (box_numbers d r) ≡ 1 + 2 * d
of_box d (Ok b) =
    let low = b.min_values in
    let high = b.max_values in
    omega (arith, length-append (end_bits d low) (end_bits d high), ends_length d low, ends_length d high)
of_box d (Err r) = omega (arith, length-replicate {A = ℕ} (d + d) 0)

of_accepted : (j : ℕ) (e : Option ℕ) → length (accepted_numbers j e) ≡ 4
of_accepted j None = refl
of_accepted j (Some e) = refl

of_arrival : (r : Result (Option Accepted) Refusal) → length (arrival_numbers r) ≡ 4
of_arrival (Ok (Some a)) = of_accepted a.leaf a.evicted
of_arrival (Ok None) = refl
of_arrival (Err r) = refl

module _ (d : ℕ) (s : Float) where
  length_said : (c : ℕ) (x : Call (whole d)) (r : Answer (whole d) × World (whole d)) → length (said d c s x r) ≡ plain_width d x
  length_said c (put i xs) r = of_put (put_says d r.0)
  length_said c (add i ws) r = of_add (add_says d (header_of d c s r.1) r.0)
  length_said c (delete i) r = of_delete (delete_says d (header_of d c s r.1) r.0)
  length_said c (query (copies_of x)) r = of_count (copies_say d r.0)
  length_said c (query (branch_of x)) r = of_branch (branch_says d r.0)
  length_said c (query (box_of x)) r = of_box d (box_says d r.0)

  pub length_told : (X : Sampled (whole d)) (e : RunCall d) → length (told d s X e) ≡ width_of d X.capacity e
  length_told X (plain e) = length_said X.capacity e (call (whole d) X.capacity X.world e)
  length_told X (arrives i w x ws) = of_arrival (update_says d (head_of d s (arrived (whole d) X (arrive i w x ws)).1) (arrived (whole d) X (arrive i w x ws)).0)
  length_told X (reports n xs) = report_width n (report_of d X.capacity X.world n xs)
  length_told X sample = sample_width X.capacity X.sample

-- a reply has room for the answer of a put, an add, a delete or a query
pub width_most : (d : ℕ) (x : Call (whole d)) → d ≤ width → plain_width d x ≤ reply_width
width_most d (put i xs) h = omega arith
width_most d (add i ws) h = omega arith
width_most d (delete i) h = omega arith
width_most d (query (copies_of x)) h = omega arith
width_most d (query (branch_of x)) h = omega arith
width_most d (query (box_of x)) h = omega arith
