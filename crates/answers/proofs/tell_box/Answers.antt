-- `answers::tell_box` meets its contract. Assumes nothing.
use Rattle.answers.proofs.Told.{refused_reply}
use Rattle.answers.proofs.tell_box.Goals as goal

pub returns-in-Ok : goal.returns-in-Ok
returns-in-Ok c = rw (c.in-Ok.is) c.tell_ends.ensures

pub returns-in-Err : goal.returns-in-Err
returns-in-Err c = rw (c.in-Err.is, c.number.ensures) (refused_reply _ _)
