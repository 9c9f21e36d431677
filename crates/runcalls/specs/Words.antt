-- The words lent to a call of a run, after it. Definition.
use Rattle.std.specs.Prelude.{cond, List, ℕ, eqb, take}
use Rattle.std.proofs.lemmas.List.Edits.{sets}
use Rattle.limits.specs.Limits.{capacity_limit}
use Rattle.runlayout.specs.Layout.{number, words_at}

-- An add, kind 4, writes its words from the front, 256 at most, and leaves those beyond them; any other call leaves all.
abbrev pub words_after : List ℕ → ℕ → List ℕ → List ℕ
words_after bytes p words = cond (eqb (number bytes p) 4) (sets words 0 (take capacity_limit (words_at bytes p))) words
