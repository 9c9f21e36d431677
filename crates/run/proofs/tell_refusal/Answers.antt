-- `run::tell_refusal` meets its contract. Assumes nothing.
use mathlib.Core.Path.{refl, ap, ◌∙◌}
use mathlib.Core.List.{[], ◌∷◌}
use Prim.Native.Nat.{ℕ}
use lib.Seq.{sets}
use Rattle.little.specs.Little.{bytes32}
use Rattle.refusals.specs.Refusals.{number}
use Rattle.run.proofs.Given.{given_short, given_whole}
use Rattle.run.proofs.tell_refusal.Goals as goal

pub returns-then-answers-lt4 : goal.returns-then-answers-lt4
returns-then-answers-lt4 c = rw c.number.ensures (given_short (number c.args.refusal ∷ []) c.args.answers.now c.if-answers-lt4.true)

pub returns : goal.returns
returns c = given_whole (number c.args.refusal ∷ []) c.args.answers.now _ 4 refl c.if-answers-lt4.false (c.put_u32.ensures ∙ ap (λ (x : ℕ). sets c.args.answers.now 0 (bytes32 x)) c.number-2.ensures)
