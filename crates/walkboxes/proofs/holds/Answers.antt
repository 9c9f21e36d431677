-- `holds` meets its contract. Assumes nothing.
use Rattle.walkboxes.proofs.holds.Goals as goal

pub bounds-boxes-index : goal.bounds-boxes-index
bounds-boxes-index c = c.requires.slot

pub strictly_holds-requires : goal.strictly_holds-requires
strictly_holds-requires c = let p = c.requires in record { padded = (c.args.sizes.now.few.2, (p.padded.1.slots _ c.requires.slot).low.rest, p.padded.0.rest) }

pub returns : goal.returns
returns c = c.strictly_holds.ensures
