use Rattle.text.proofs.Coordinates.{capped_is}
use Rattle.text.proofs.capped_float.Goals as goal

pub returns : goal.returns
returns c = capped_is _ _ c.min.ensures
