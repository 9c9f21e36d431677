-- The answer at each kind. Laws.
use mathlib.Core.Path.{◌≡◌, ap, ◌∙◌}
use mathlib.Core.List.{List}
use Prim.Native.Nat.{ℕ}
use native.Mathlib.Omega.{arith}
use borrow.Author.Tests.{ne_eqb}
use lib.ListN.{length}
use Rattle.lines.specs.Lines.{Wrote}
use Rattle.run.specs.Outcome.{outcome}
use Rattle.treelist_text.specs.Output.{output}
use Rattle.recorded.specs.Cuts.{cut_answer}
use Rattle.recorded.specs.Sequences.{sequence_answer}
use Rattle.recorded.specs.Floats.{floats_answer}
use Rattle.recorded_samples.specs.Samples.{sample_answer}
use Rattle.replay.specs.Answers.{written, answered}

-- what is written is all that is given
pub all_written : {l : List ℕ} {s : List ℕ} {r : ℕ} {m : List ℕ} → Wrote l 0 s r m → ◌≡◌ {A = ℕ × List ℕ} (r, m) (written s l)
all_written {l} {s} {r} {m} w = let e : r ≡ length s = omega (arith, w.next) in ap (λ (n : ℕ). (n, m)) e ∙ ap (λ (o : List ℕ). (length s, o)) w.left

module _ (k : ℕ) (given lent : List ℕ) where
  pub at_0 : k ≡ 0 → written (cut_answer given) lent ≡ answered k given lent
  unfolding answered
  at_0 h = rw h

  pub at_1 : k ≡ 1 → written (sequence_answer given) lent ≡ answered k given lent
  unfolding answered
  at_1 h = rw h

  pub at_2 : k ≡ 2 → outcome given lent ≡ answered k given lent
  unfolding answered
  at_2 h = rw h

  pub at_3 : k ≡ 3 → written (output given) lent ≡ answered k given lent
  unfolding answered
  at_3 h = rw h

  pub at_12 : k ≡ 12 → written (sample_answer given) lent ≡ answered k given lent
  unfolding answered
  at_12 h = rw h

  pub at_others : (k ≡ 0 → ⊥) → (k ≡ 1 → ⊥) → (k ≡ 2 → ⊥) → (k ≡ 3 → ⊥) → (k ≡ 12 → ⊥) → written (floats_answer k given) lent ≡ answered k given lent
  unfolding answered
  at_others h₀ h₁ h₂ h₃ h₁₂ = rw (ne_eqb k 0 h₀, ne_eqb k 1 h₁, ne_eqb k 2 h₂, ne_eqb k 3 h₃, ne_eqb k 12 h₁₂)
