-- What a run gives and what a text prints have masses that count lanterns. Assumes nothing.
use mathlib.Core.Path.{refl, sym, subst}
use mathlib.Core.Logic.{inl, inr}
use mathlib.Core.Option.{Option, none, some}
use mathlib.Core.List.{List}
use Prim.Native.Nat.{ℕ}
use Rattle.cuttree.specs.Tree.{Tree, id}
use Rattle.cuttree.specs.Counts.{Counts}
use Rattle.cuttree.proofs.Keeps.{Inv}
use Rattle.wholetree.specs.Reading.{Reading}
use Rattle.wholetree.specs.Whole.{whole}
use Rattle.wholetree.proofs.Laws.{whole_laws}
use Rattle.printed.specs.Printed.{lines_of}
use Rattle.demand3_outputs.proofs.Run.{runs_with}
use Rattle.demand3_outputs.proofs.Text.{lines_in, texts_with}
use Rattle.masses.specs.Masses.{LinesWeigh}
use Rattle.masses.proofs.Printed.{lines_weigh}
use Rattle.masses_outputs.specs.Seen.{MassClaim}
use Rattle.masses_outputs.specs.Outputs.{RunsCount, LinesCount, TextsCount}
use Rattle.masses_outputs.proofs.Copies.{all_copies}
use Rattle.masses_outputs.proofs.Seen.{masses_seen}

pub runs_count : RunsCount
runs_count = runs_with (λ d c. MassClaim (whole d)) (λ d c W K I. masses_seen (whole d) (whole_laws d) c W.table W.free K W.tree I)

lines_count : (d c : ℕ) (f : ℕ → Option Reading) (o : Option (Tree (whole d))) (u : List (ℕ × ℕ)) (K : Counts (whole d)) → Inv (whole d) c (record { table = f; tree = o; free = u }) K → LinesCount d K (lines_in d c o)
lines_count d c f none u K I = inl (λ v. sym (I.number_is v), refl)
lines_count d c f (some t) u K I =
    let (vs, each, e) = all_copies (whole d) (whole_laws d) c f t u K I in
    inr (id (whole d) c t, vs, each, subst (λ (y : ℕ). LinesWeigh (id (whole d) c t) y (lines_of d c t)) (sym e) (lines_weigh d c t))

pub texts_count : TextsCount
texts_count = texts_with (λ d c. LinesCount d) (λ d c W K I. lines_count d c W.table W.tree W.free K I)
