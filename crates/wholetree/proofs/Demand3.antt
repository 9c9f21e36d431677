-- Demand 3 holds of document 01's tree: for every list of calls, from a fresh tree and an unwritten table.
use Rattle.cuttree.proofs.Demand3.{demand3}
use Rattle.wholetree.specs.Whole.{whole}
use Rattle.wholetree.specs.Claim.{WholeDemand3}
use Rattle.wholetree.proofs.Laws.{whole_laws}

pub whole_demand3 : WholeDemand3
whole_demand3 d c = demand3 (whole d) c (whole_laws d)
