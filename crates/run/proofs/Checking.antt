-- What the check of a run's calls tells, and what the run gives by it. Laws.
use mathlib.Core.Path.{◌≡◌, refl, sym, ap, ◌∙◌}
use mathlib.Core.Bool.{Bool, true, false}
use mathlib.Core.Option.{Option, none, some}
use mathlib.Core.List.{List}
use Prim.Native.Nat.{ℕ, ◌+◌, ◌/◌}
use lib.Dec.{leb}
use lib.ListN.{length}
use Rattle.cuttree.proofs.Tests.{cond_true, cond_false, nonsense}
use Rattle.std.specs.Prelude.{Option as Maybe, None, Some}
use Rattle.runlayout.specs.Layout.{RunCall, making_width, begins_with_making, channels, capacity, rest_from, calls}
use Rattle.runlayout.specs.Check.{widths, verdict}
use Rattle.run.specs.Outcome.{given, made, answered, outcome_of, outcome}
use Rattle.run.specs.Running.{Checks}

module _ (run lent : List ℕ) where
  pub no_making : begins_with_making run ≡ false → (17, lent) ≡ outcome run lent
  no_making h = sym (ap (λ (o : Option (List (RunCall (channels run)))). outcome_of run o lent) (cond_false (begins_with_making run) (rest_from run (channels run) (making_width run)) none h))

  module _ (making : begins_with_making run ≡ true) where
    calls_are : (o : Option (List (RunCall (channels run)))) → rest_from run (channels run) (making_width run) ≡ o → calls run ≡ o
    calls_are o e = cond_true (begins_with_making run) (rest_from run (channels run) (making_width run)) none making ∙ e

    pub gives : (b : Bool) (q : Checks run b lent) (x : ℕ × List ℕ) → x ≡ given (answered run (made run) q.calls) lent → x ≡ outcome run lent
    gives b q x e = e ∙ sym (ap (λ (o : Option (List (RunCall (channels run)))). outcome_of run o lent) (calls_are (some q.calls) q.rest))

    -- the two verdicts, of calls or none
    by_verdict : {P : Type 0} (o : Option (List (RunCall (channels run)))) (v : Maybe Bool) → v ≡ verdict (channels run) (capacity run) (length lent / 4) 1 o
        → (o ≡ none → v ≡ None → P)
        → ((cs : List (RunCall (channels run))) → o ≡ some cs → v ≡ Some (leb (1 + widths (channels run) (capacity run) cs) (length lent / 4)) → P) → P
    by_verdict none v e f g = f refl e
    by_verdict (some cs) v e f g = g cs refl e

    pub out_of_layout : None ≡ verdict (channels run) (capacity run) (length lent / 4) 1 (rest_from run (channels run) (making_width run)) → (17, lent) ≡ outcome run lent
    out_of_layout e = by_verdict (rest_from run (channels run) (making_width run)) None e
        (λ n _. sym (ap (λ (o : Option (List (RunCall (channels run)))). outcome_of run o lent) (calls_are none n)))
        (λ cs _ h. nonsense (cc))

    pub checked : (b : Bool) → Some b ≡ verdict (channels run) (capacity run) (length lent / 4) 1 (rest_from run (channels run) (making_width run)) → Checks run b lent
    checked b e = by_verdict (rest_from run (channels run) (making_width run)) (Some b) e (λ _ h. nonsense (cc))
        (λ cs n h. record { calls = cs; rest = n; enough_is = cc })
