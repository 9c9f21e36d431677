-- `SamplerPlusTree::update` meets its contract: what the test tells is carried out. Assumes nothing.
use Rattle.samplerplustree.proofs.Tested.{some_offered}
use Rattle.samplerplustree.proofs.SamplerPlusTree.update.Goals as goal

pub take_arrival-requires : goal.take_arrival-requires
take_arrival-requires c = some_offered _ _ _ _ _ _ _ _ _ _ _ c.test_arrival-offer.ensures c.requires

pub returns : goal.returns
returns c = λ d s X S. c.take_arrival.ensures d s X _ c.args.chance S (c.test_arrival-offer.ensures.told d s X _ _ _ S)
