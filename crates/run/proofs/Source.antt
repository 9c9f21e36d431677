-- The C entry of the source of words, by the source's answer. Laws.
use mathlib.Core.Path.{◌≡◌, sym, ap, ◌∙◌}
use mathlib.Core.List.{List}
use Prim.Native.Nat.{ℕ, ◌≤◌}
use Rattle.std.specs.Prelude.{Result, Ok}
use Rattle.refusals.specs.declared.Refusal.{Refusal}
use Rattle.wordsource.specs.Stream.{word_limit}
use Rattle.wordsource.specs.Filled.{filled}
use Rattle.wordsource.proofs.Slots.{wrote_few}
use Rattle.run.specs.Words.{returned, words_outcome}

module _ (key : List ℕ) (start : ℕ) (words words' : List ℕ) (answer : Result ℕ Refusal) (e : (answer, words') ≡ filled key start words) where
  pub count_few : (count : ℕ) → answer ≡ Ok count → count ≤ word_limit
  count_few count f = wrote_few key start words words' count (ap (λ (a : Result ℕ Refusal). (a, words')) (sym f) ∙ e)

  pub returns_it : (told : Result ℕ Refusal) → answer ≡ told → (returned told, words') ≡ words_outcome key start words
  returns_it told f = ap (λ (a : Result ℕ Refusal). (returned a, words')) (sym f) ∙ ap (λ (x : Result ℕ Refusal × List ℕ). (returned x.0, x.1)) e
