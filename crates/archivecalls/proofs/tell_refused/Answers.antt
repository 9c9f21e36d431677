-- `archivecalls::tell_refused` meets its contract. Assumes nothing.
use mathlib.Core.Path.{refl}
use Rattle.answers.specs.Said.{filled}
use Rattle.archivecalls.proofs.tell_refused.Goals as goal

pub returns : goal.returns
unfolding filled
returns c = refl
