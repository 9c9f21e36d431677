-- What the port answers to what a record gives. Definitions.
use Rattle.std.specs.Prelude.{cond, List, ℕ, eqb, length}
use Rattle.std.proofs.lemmas.List.Edits.{sets}
use Rattle.run.specs.Outcome.{outcome}
use Rattle.treelist_text.specs.Output.{output}
use Rattle.recorded.specs.Cuts.{cut_answer}
use Rattle.recorded.specs.Sequences.{sequence_answer}
use Rattle.recorded.specs.Floats.{floats_answer}
use Rattle.recorded_samples.specs.Samples.{sample_answer}

-- bytes written from the start of what is lent, as far as it goes, and how many they are
abbrev pub written : List ℕ → List ℕ → ℕ × List ℕ
written bytes lent = (length bytes, sets lent 0 bytes)

-- 0 a cut choice, 1 a sequence of an interval manager, 2 a byte run, 3 a text, 12 a sequence of a sample, any other a function of floats
unfoldable pub answered : ℕ → List ℕ → List ℕ → ℕ × List ℕ
answered kind given lent =
    cond (eqb kind 0) (written (cut_answer given) lent)
    (cond (eqb kind 1) (written (sequence_answer given) lent)
    (cond (eqb kind 2) (outcome given lent)
    (cond (eqb kind 3) (written (output given) lent)
    (cond (eqb kind 12) (written (sample_answer given) lent)
    (written (floats_answer kind given) lent)))))
