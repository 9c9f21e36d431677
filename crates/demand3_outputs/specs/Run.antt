-- Demand 3 of the C entry: of the calls that a byte run has and the answers that `sicklephlox_run` writes for them. Definitions and the statement.
use Rattle.std.specs.Prelude.{◌≡◌, List, [], ◌∷◌, ◌++◌, ℕ, ◌-◌, length, replicate, Ok}
use Rattle.std.proofs.Math.Option.{none, some}
use Rattle.std.specs.Float.{binary32}
use Rattle.std.specs.Float.Ieee.{to_bits}
use Rattle.sampler.specs.Sample.{Entry}
use Rattle.cuttree.specs.Run.{Answer, refused, written, added, deleted, copies_are, branch_is, box_is, number_of}
use Rattle.cuttree.specs.Counts.{Counts, nothing, count}
use Rattle.cuttree.specs.Graph.{View}
use Rattle.cuttree.specs.Demand3.{CallClaim}
use Rattle.wholetree.specs.Whole.{whole, ends}
use Rattle.sampledtree.specs.Sampled.{SampledAnswer, plain as bare, not_accepted, accepted}
use Rattle.samplerplustree.specs.declared.SamplerPlusTree.{SamplerPlusTree}
use Rattle.nodeview.specs.Report.{ReportRow, Report, rows}
use Rattle.demand3.specs.Answered.{Seen, SameTree, Leaves, count_arrival, ArrivalClaim, SampleClaim, ReportClaim}
use Rattle.answers.specs.Said.{end_bits}
use Rattle.arrivals.specs.Sample.{sample_numbers}
use Rattle.runlayout.specs.Layout.{RunCall, plain, arrives, reports, sample, channels, capacity, calls}
use Rattle.runlayout.specs.Check.{plain_width}
use Rattle.runreports.specs.Numbers.{report_numbers}
use Rattle.run.specs.Outcome.{given, made, outcome}

-- THE ANSWERS of a tree of d channels
module _ (d : ℕ) where
  -- of each call: of a put, an add, a delete or a query; of an arrival; a report; the entries that the sample keeps
  abbrev pub RunAnswer : RunCall d → Type 0
  RunAnswer (plain e) = Answer (whole d)
  RunAnswer (arrives i w x ws) = SampledAnswer (whole d)
  RunAnswer (reports n xs) = Report
  RunAnswer sample = List Entry

  -- one for each call
  abbrev pub RunAnswers : List (RunCall d) → Type 0
  RunAnswers [] = Unit {0}
  RunAnswers (e ∷ es) = RunAnswer e × RunAnswers es

  -- docs/LAYOUT.md, 'The answers': 'Each answer begins with the refusal's number, 0 where there is none. A refused call changes nothing, and its other
  -- numbers are 0.' n numbers in all.
  abbrev pub plain_numbers : ℕ → Answer (whole d) → List ℕ
  plain_numbers n (refused r) = number_of r ∷ replicate (n - 1) 0
  plain_numbers n written = 0 ∷ []
  plain_numbers n (added j m) = 0 ∷ j ∷ m ∷ []
  plain_numbers n (deleted j) = 0 ∷ j ∷ []
  plain_numbers n (copies_are m) = 0 ∷ m ∷ []
  plain_numbers n (branch_is r) = 0 ∷ r.cut.channel ∷ to_bits binary32 r.cut.value.value ∷ r.left ∷ r.right ∷ r.mass ∷ []
  plain_numbers n (box_is b) = 0 ∷ (end_bits d (ends b.lower) ++ end_bits d (ends b.upper))

  -- 'refusal, what became of it (0 not accepted, 1 accepted, 2 accepted and another evicted), the leaf's point index, the evicted point index'
  abbrev pub arrival_numbers : SampledAnswer (whole d) → List ℕ
  arrival_numbers (bare a) = plain_numbers 4 a
  arrival_numbers not_accepted = 0 ∷ 0 ∷ 0 ∷ 0 ∷ []
  arrival_numbers (accepted j none) = 0 ∷ 1 ∷ j ∷ 0 ∷ []
  arrival_numbers (accepted j (some e)) = 0 ∷ 2 ∷ j ∷ e ∷ []

-- and of capacity c
module _ (d c : ℕ) where
  abbrev pub numbers_of : (e : RunCall d) → RunAnswer d e → List ℕ
  numbers_of (plain e) a = plain_numbers d (plain_width d e) a
  numbers_of (arrives i w x ws) o = arrival_numbers d o
  numbers_of (reports n xs) x = report_numbers n x
  numbers_of sample ks = sample_numbers c ks

  abbrev pub all_numbers : (es : List (RunCall d)) → RunAnswers d es → List ℕ
  all_numbers [] as' = []
  all_numbers (e ∷ es) (a, as') = numbers_of e a ++ all_numbers es as'

  -- THE COUNTS are fed each answer. 'Queries and reports change none of these.'
  abbrev pub count_call : (e : RunCall d) → RunAnswer d e → Counts (whole d) → Counts (whole d)
  count_call (plain e) a K = count (whole d) e a K
  count_call (arrives i w x ws) o K = count_arrival d c i ws o K
  count_call (reports n xs) x K = K
  count_call sample ks K = K

  -- Of a call's answer, G being the tree before it and H the tree after it: puts, adds, deletes, queries and arrivals are answered as demand 3
  -- says. A report has as many rows as its walk has nodes; each number in them is settled by `outcome`. The sample's entries are the copies in the
  -- tree, value by value. Neither changes the tree. The words that an arrival's add takes are in no byte, so nothing more is said of its calls.
  abbrev pub RunClaim : View (whole d) → Counts (whole d) → (e : RunCall d) → RunAnswer d e → View (whole d) → Type 0
  RunClaim G K (plain e) a H = CallClaim (whole d) c G K e a × Leaves d c G e a H
  RunClaim G K (arrives i w x ws) o H = ArrivalClaim d c G (λ T. SameTree d c T H) (λ es as'. Unit {0}) K i ws o
  RunClaim G K (reports n xs) x H = ((rs : List ReportRow) → x ≡ rows rs → ReportClaim d c G xs (length rs)) × SameTree d c G H
  RunClaim G K sample ks H = SampleClaim d c (length ks) ks K × SameTree d c G H

  -- Before each call and after the last there is a tree that is as demand 3 says, which the queries among the calls give; G is the first. P is what is
  -- said besides of the last tree and the last counts.
  abbrev pub RunAnswered : (View (whole d) → Counts (whole d) → Type 0) → View (whole d) → Counts (whole d) → (es : List (RunCall d)) → RunAnswers d es → Type 0
  RunAnswered P G K [] as' = Seen d c G K × P G K
  RunAnswered P G K (e ∷ es) (a, as') = Seen d c G K × ((H : View (whole d)) × RunClaim G K e a H × RunAnswered P H (count_call e a K) es as')

-- For every run in the layout whose making is accepted, of a bare or a sampled tree, there are answers to its calls that are as demand 3 says, with nothing
-- besides of the last tree, and they are what is written, after the making's 0 and where the lent bytes are enough for them. `outcome` is what
-- `sicklephlox_run` ensures.
abbrev pub RunsAnswer : Type 0
RunsAnswer = (run lent : List ℕ) (es : List (RunCall (channels run))) (h : SamplerPlusTree) → calls run ≡ some es → made run ≡ Ok h
    → (as' : RunAnswers (channels run) es) × (G : View (whole (channels run)))
    × RunAnswered (channels run) (capacity run) (λ H N. Unit {0}) G (nothing (whole (channels run))) es as'
    × (outcome run lent ≡ given (0 ∷ all_numbers (channels run) (capacity run) es as') lent)
