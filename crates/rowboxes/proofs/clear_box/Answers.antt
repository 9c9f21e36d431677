-- `clear_box` meets its contract. Assumes nothing.
use mathlib.Core.Path.{sym, ◌∙◌}
use lib.Ieee.{of_bits}
use Rattle.boxstore.proofs.Written.{written_cached, written_other}
use Rattle.rowboxes.proofs.Rows.{no_ends_lem}
use Rattle.rowboxes.proofs.clear_box.Goals as goal

pub keep_ends-requires-clause-padded : goal.keep_ends-requires-clause-padded
unfolding of_bits
keep_ends-requires-clause-padded c = (c.requires.padded, no_ends_lem _)

pub returns-then-index-sizes-clause-cleared : goal.returns-then-index-sizes-clause-cleared
unfolding of_bits
returns-then-index-sizes-clause-cleared c = c.keep_ends.ensures.kept ∙ sym (written_cached _ _ _ _ c.if-index-sizes.true)

pub returns-else-index-sizes-clause-cleared : goal.returns-else-index-sizes-clause-cleared
returns-else-index-sizes-clause-cleared c = sym (written_other _ _ _ _ c.if-index-sizes.false)
