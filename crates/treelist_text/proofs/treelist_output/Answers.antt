-- `treelist_text::treelist_output` meets its contract. Assumes nothing.
use Rattle.treelist_text.proofs.Reading.{bad_output, in_form_lem}
use Rattle.treelist_text.proofs.Sizes.{fitting}
use Rattle.treelist_text.proofs.treelist_output.Goals as goal

pub print_made-requires : goal.print_made-requires
print_made-requires c = in_form_lem _ _ _ c.check_form.ensures c.in-Ok.is

pub returns-in-Err : goal.returns-in-Err
returns-in-Err c = let it = fitting _ (bad_output _ _ _ c.check_form.ensures c.in-Err.is (rw c.number.ensures at c.put_refused.ensures.wrote)) in record { wrote = it.0; fits = it.1 }

pub returns-in-Ok : goal.returns-in-Ok
returns-in-Ok c = let it = fitting _ c.print_made.ensures in record { wrote = it.0; fits = it.1 }
