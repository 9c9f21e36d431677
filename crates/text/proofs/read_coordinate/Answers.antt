-- `text::read_coordinate` meets its contract. Assumes nothing.
use Rattle.std.proofs.Common.{◌≡◌, arith, rules, sym, ap, ◌∙◌}
use borrow.Author.Tests.{ltb-true}
use Rattle.std.specs.Prelude.{option_map}
use Rattle.text.specs.Coordinates.{capped, after_minus}
use Rattle.text.proofs.Coordinates.{coordinate_minus, coordinate_plain, coordinate_empty}
use Rattle.text.proofs.read_coordinate.Goals as goal
use Rattle.text.proofs.read_coordinate.Goals.{in_default-via-then-field-lt1, in_default-via-else-field-lt1+in_default-1}

pub returns-in-45 : goal.returns-in-45
returns-in-45 c = c.after_minus.ensures ∙ ap after_minus c.read_number.ensures ∙ sym (coordinate_minus _ (search rules))

pub returns-in_default : goal.returns-in_default
returns-in_default c =
    let m : c.map.result ≡ option_map capped c.read_number-in_default.result = search rules in
    m ∙ ap (option_map capped) c.read_number-in_default.ensures ∙ sym (elim c.in_default.branch [
      | in_default-via-then-field-lt1 w ↦ coordinate_empty _ (omega (arith, ltb-true))
      | in_default-via-else-field-lt1+in_default-1 w ↦ coordinate_plain _ (λ e. omega arith)
    ])
