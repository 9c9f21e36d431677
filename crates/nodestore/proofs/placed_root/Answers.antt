-- `placed_root` meets its contract: the root changes only where the new branch stands above it. Assumes nothing.
use mathlib.Core.Path.{◌∙◌}
use Rattle.nodestore.proofs.Places.{placed_root}
use Rattle.nodestore.proofs.placed_root.Goals as goal

pub returns : goal.returns
returns c = record { is = c.root_of.ensures; root = λ d x nodes cuts copies path index cut left n t p h y w e. c.root_of.ensures ∙ placed_root w _ e }
