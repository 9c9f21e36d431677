-- `lifted_root` meets its contract: the root changes only where the branch that goes is the root. Assumes nothing.
use mathlib.Core.Path.{ap, ◌∙◌}
use mathlib.Core.Bool.{cond}
use Prim.Native.Nat.{◌-◌}
use lib.Dec.{eqb}
use Rattle.nodestore.proofs.Ends.{fork_root}
use Rattle.nodestore.proofs.lifted_root.Goals as goal

pub returns : goal.returns
returns c = let e = c.root_of.ensures ∙ ap (λ x. cond (eqb (c.args.n - 2) 0) x c.args.root) c.sibling_at.ensures in
    record { is = e; root = λ d x nodes cuts copies index t p w o g. c.root_of.ensures ∙ fork_root w o c.requires.le_n _ _ g c.sibling_at.ensures }
