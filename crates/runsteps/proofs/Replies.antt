-- A reply: an answer's numbers, with 0 after them. Laws.
use mathlib.Core.Path.{◌≡◌, refl, sym, ap, ◌∙◌}
use mathlib.Core.List.{List, [], ◌∷◌}
use Prim.Native.Nat.{ℕ, zero, suc, ◌≤◌}
use native.Mathlib.Omega.{arith}
use lib.ListN.{length, take}
use Rattle.answers.specs.Said.{filled, reply_width}
use Rattle.answers.proofs.Told.{filled_length}

-- what was filled up with zeros, cut off again
take_filled : (n : ℕ) (xs : List ℕ) → length xs ≤ n → take (length xs) (filled n xs) ≡ xs
unfolding filled
take_filled n [] h = refl
take_filled zero (x ∷ xs) h = absurd (omega arith)
take_filled (suc n) (x ∷ xs) h = ap {B = List ℕ} (λ l. x ∷ l) (take_filled n xs (omega arith))

module _ (reply numbers : List ℕ) where
  pub reply_long : reply ≡ filled reply_width numbers → length reply ≡ reply_width
  reply_long e = ap length e ∙ filled_length reply_width numbers

  pub first_numbers : (w : ℕ) → reply ≡ filled reply_width numbers → length numbers ≡ w → w ≤ reply_width → take w reply ≡ numbers
  first_numbers w e n h = ap (λ (i : ℕ). take i reply) (sym n) ∙ ap (take (length numbers)) e ∙ take_filled reply_width numbers (omega arith)
