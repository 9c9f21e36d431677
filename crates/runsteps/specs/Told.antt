-- What the calls of a run answer, as numbers, and what they leave (docs/LAYOUT.md, 'The answers'). Definitions.
use Rattle.std.specs.Prelude.{List, [], ◌∷◌, ◌++◌, ℕ, Float}
use Rattle.cuttree.specs.Run as Bare
use Rattle.wholetree.specs.Whole.{whole}
use Rattle.sampledtree.specs.Sampled.{Sampled, arrive, call, with_sample}
use Rattle.samplerplustree.specs.State.{head_of}
use Rattle.samplerplustree.specs.Updates.{update_says}
use Rattle.answers.specs.Said.{said}
use Rattle.nodeview.specs.Report.{report_of}
use Rattle.arrivals.specs.Arrived.{arrival_numbers}
use Rattle.arrivals.specs.Sample.{sample_numbers}
use Rattle.runlayout.specs.Layout.{RunCall, plain, arrives, reports, sample}
use Rattle.runreports.specs.Numbers.{report_numbers}

-- A tree of d channels and the cached share s. A bare tree is told by the same record as a sampled one: its sample stays empty.
module _ (d : ℕ) (s : Float) where
  abbrev pub told : Sampled (whole d) → RunCall d → List ℕ
  told X (plain e) = said d X.capacity s e (Bare.call (whole d) X.capacity X.world e)
  told X (arrives i w x ws) = arrival_numbers (update_says d (head_of d s (call (whole d) X (arrive i w x ws)).1) (call (whole d) X (arrive i w x ws)).0)
  told X (reports n xs) = report_numbers n (report_of d X.capacity X.world n xs)
  told X sample = sample_numbers X.capacity X.sample

  -- 'Queries and reports change none of these'
  abbrev pub left : Sampled (whole d) → RunCall d → Sampled (whole d)
  left X (plain e) = with_sample (whole d) X (Bare.call (whole d) X.capacity X.world e).1 X.sample
  left X (arrives i w x ws) = (call (whole d) X (arrive i w x ws)).1
  left X (reports n xs) = X
  left X sample = X

  -- and those of a list of calls
  abbrev pub told_from : Sampled (whole d) → List (RunCall d) → List ℕ
  told_from X [] = []
  told_from X (e ∷ es) = told X e ++ told_from (left X e) es
