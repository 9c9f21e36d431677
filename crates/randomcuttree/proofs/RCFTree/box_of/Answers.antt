-- `RCFTree::box_of` meets its contract: each way out is one of the query's places. Assumes nothing.
use mathlib.Core.Path.{sym, ◌∙◌}
use native.Mathlib.Omega.{arith}
use lib.Ieee.{of_bits}
use Rattle.rowboxes.proofs.Rows.{no_ends_lem}
use Rattle.randomcuttree.proofs.Told.{box_refused, some_sides, box_told}
use Rattle.randomcuttree.proofs.RCFTree.box_of.Goals as goal

pub returns-then-id-ge-BRANCHES : goal.returns-then-id-ge-BRANCHES
returns-then-id-ge-BRANCHES c = box_refused _ _ _ _ _ (λ l. absurd (omega arith))

pub returns-then-field_at-eq0 : goal.returns-then-field_at-eq0
returns-then-field_at-eq0 c = box_refused _ _ _ _ _ (λ l. sym c.field_at.ensures ∙ c.if-field_at-eq0.true)

pub invariant_of-boxing : goal.invariant_of-boxing
invariant_of-boxing c = let S = some_sides _ _ _ _ _ (omega arith) (λ e. c.if-field_at-eq0.false (c.field_at.ensures ∙ e)) c.requires in record { padded = (S.table, S.slots) }

pub set_branch-requires : goal.set_branch-requires
unfolding of_bits
set_branch-requires c = let S = some_sides _ _ _ _ _ (omega arith) (λ e. c.if-field_at-eq0.false (c.field_at.ensures ∙ e)) c.requires in
    rw c.wide16.ensures.0 (record { stands = S.sides; padded = no_ends_lem _ })

pub returns : goal.returns
returns c = box_told _ _ _ _ _ (omega arith) (λ e. c.if-field_at-eq0.false (c.field_at.ensures ∙ e)) _ (rw c.wide16.ensures.0 at c.set_branch.ensures.sides)
