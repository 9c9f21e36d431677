-- A test of every field of a row from a place on, one by one. Assumes nothing.
use mathlib.Core.Path.{◌≡◌, sym, ◌∙◌}
use mathlib.Core.List.{List}
use mathlib.Core.Bool.{Bool, true, false}
use Prim.Native.Nat.{ℕ, ◌+◌, ◌-◌, ◌≤◌, ◌<◌}
use native.Mathlib.Omega.{arith}
use lib.ListN.{length, take, drop}
use Rattle.text.specs.Fields.{Computes}
use Rattle.text.specs.Pieces.{pieces_from, PieceEnds, all}
use Rattle.text.proofs.Pieces.{from_first, from_past}

-- the fields up to the one that starts at `at` pass, so the rest gives what all from k on give. `answers` ties a field to the test's answer.
pub record Testing (answers : List ℕ → Bool → Type 0) (s : List ℕ) (k at : ℕ) : Type 0 where
  pub within : at ≤ length s + 1
  pub same : (f : List ℕ → Bool) → Computes answers f → all f (pieces_from 32 s at) ≡ all f (pieces_from 32 s k)

module _ {answers : List ℕ → Bool → Type 0} {s : List ℕ} {k at : ℕ} (w : Testing answers s k at) where
  module _ {e : ℕ} (h : at ≤ length s) (q : PieceEnds 32 s at e) {t : Bool} (p : answers (take (e - at) (drop at s)) t) where
    pub test_bad : t ≡ false → (f : List ℕ → Bool) → Computes answers f → false ≡ all f (pieces_from 32 s k)
    test_bad z f g = rw (from_first 32 s at e h q, sym (g _ t p) ∙ z) at (w.same f g)

    pub test_step : t ≡ true → Testing answers s k (e + 1)
    test_step z = record { within = omega arith; same = λ f g. rw (from_first 32 s at e h q, sym (g _ t p) ∙ z) at (w.same f g) }

  pub test_end : length s < at → (f : List ℕ → Bool) → Computes answers f → true ≡ all f (pieces_from 32 s k)
  test_end h f g = rw (from_past 32 s at h) at (w.same f g)
