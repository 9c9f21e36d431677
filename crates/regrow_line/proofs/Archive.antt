-- Rows leave what their calls leave. Assumes nothing.
use mathlib.Core.Path.{◌≡◌, refl, sym, ◌∙◌}
use mathlib.Core.List.{List, [], ◌∷◌, ◌++◌}
use Prim.Native.Nat.{ℕ}
use Rattle.wholetree.specs.Whole.{whole}
use Rattle.sampledtree.specs.Sampled.{Sampled, SampledCall, call, sampled_after}
use Rattle.archivecalls.specs.Carried.{calls_of, row_leaves}
use Rattle.regrow_line.specs.Archive.{calls_of_rows, AsCalls}

-- some calls, then others
after_both : (d : ℕ) (X : Sampled (whole d)) (xs ys : List (SampledCall (whole d))) → sampled_after (whole d) X (xs ++ ys) ≡ sampled_after (whole d) (sampled_after (whole d) X xs) ys
after_both d X [] ys = refl
after_both d X (x ∷ xs) ys = after_both d (call (whole d) X x).1 xs ys

pub as_calls : AsCalls
as_calls d X [] = refl
as_calls d X (row ∷ rows) = as_calls d (row_leaves d X row) rows ∙ sym (after_both d X (calls_of d row) (calls_of_rows d rows))
