-- `keep_new_box` meets its contract: where the branch is not cached, nothing is written. Assumes nothing.
use mathlib.Core.Path.{sym}
use Rattle.boxstore.proofs.Written.{written_other}
use Rattle.treestore.proofs.keep_new_box.Goals as goal

pub returns-else-index-sizes : goal.returns-else-index-sizes
returns-else-index-sizes c = record { kept = (λ d l u _ _ _ _. sym (written_other _ _ _ _ c.if-index-sizes.false)); padded = c.requires.padded.1 }
