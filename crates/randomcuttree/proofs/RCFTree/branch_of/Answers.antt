-- `RCFTree::branch_of` meets its contract: each way out is one of the query's places. Assumes nothing.
use mathlib.Core.Path.{sym, ◌∙◌}
use native.Mathlib.Omega.{arith}
use Rattle.randomcuttree.proofs.Told.{beyond_rows, empty_row, a_row}
use Rattle.randomcuttree.proofs.RCFTree.branch_of.Goals as goal

pub returns-then-id-ge-BRANCHES : goal.returns-then-id-ge-BRANCHES
returns-then-id-ge-BRANCHES c = sym (beyond_rows c.args.self _ _ _ (omega arith))

pub returns-then-mass-eq0 : goal.returns-then-mass-eq0
returns-then-mass-eq0 c = sym (empty_row c.args.self _ _ _ (omega arith) (sym c.field_at-mass.ensures ∙ c.if-mass-eq0.true))

pub returns : goal.returns
returns c = rw (c.cut_at.ensures, c.field_at.ensures, c.field_at-2.ensures, c.field_at-mass.ensures) (sym (a_row c.args.self _ _ _ (omega arith) (λ e. c.if-mass-eq0.false (c.field_at-mass.ensures ∙ e))))
