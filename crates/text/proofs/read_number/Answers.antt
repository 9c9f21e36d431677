-- `text::read_number` meets its contract. Assumes nothing.
use Rattle.std.proofs.Common.{arith, rules, sym, ◌∙◌}
use Rattle.std.proofs.lemmas.Grind.{common_steps}
use Rattle.text.proofs.Numbers.{number_none, number_long, number_zero, number_more}
use Rattle.text.proofs.read_number.Goals as goal
use Rattle.text.proofs.read_number.Goals.{then-is_empty-via-then-is_empty, then-is_empty-via-else-is_empty+then-field-gt9, else-field-eq48-via-then-field-eq48+else-field-ne1, else-field-eq48-via-else-field-eq48}

pub returns-then-is_empty : goal.returns-then-is_empty
returns-then-is_empty c = elim c.then-is_empty.branch [
  | then-is_empty-via-then-is_empty w ↦ number_none _ (search rules)
  | then-is_empty-via-else-is_empty+then-field-gt9 w ↦ number_long _ (omega arith)
]

pub returns-then-field-ne1 : goal.returns-then-field-ne1
returns-then-field-ne1 c = number_zero _ (grind (arith, common_steps)) (omega arith) c.if-field-eq48.true

pub returns : goal.returns
returns c = c.read_digits.ensures ∙ sym (elim c.else-field-eq48.branch [
  | else-field-eq48-via-then-field-eq48+else-field-ne1 w ↦ number_more _ (grind (arith, common_steps)) (omega arith) (λ _. omega arith)
  | else-field-eq48-via-else-field-eq48 w ↦ number_more _ (grind (arith, common_steps)) (omega arith) (λ e. absurd (w.if-field-eq48.false e))
])
