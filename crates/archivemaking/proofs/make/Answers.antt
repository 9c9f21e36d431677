-- `archivemaking::make` meets its contract. Assumes nothing.
use Rattle.archivemaking.proofs.Makes.{few, not_made, made}
use Rattle.archivemaking.proofs.make.Goals as goal

pub share_of-requires : goal.share_of-requires
share_of-requires c = (few _ _ c.read_making.ensures _ c.in-Some.is).0

pub share_of-requires-in-Some : goal.share_of-requires-in-Some
share_of-requires-in-Some c = (few _ _ c.read_making.ensures _ c.in-Some.is).1

pub returns-in-None : goal.returns-in-None
returns-in-None c = not_made _ _ c.read_making.ensures c.in-None.is _

pub returns-in-Some : goal.returns-in-Some
returns-in-Some c = made _ _ c.read_making.ensures _ c.in-Some.is c.wide64.ensures c.wide64-in-Some.ensures c.share_of.ensures c.share_of-in-Some.ensures _ _ _ c.new.ensures
