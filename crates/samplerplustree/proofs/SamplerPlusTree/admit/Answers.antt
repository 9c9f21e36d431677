-- `SamplerPlusTree::admit` meets its contract. Assumes nothing.
use Rattle.samplerplustree.proofs.Entered.{admit_done}
use Rattle.samplerplustree.proofs.SamplerPlusTree.admit.Goals as goal

pub add_leaf-added-requires : goal.add_leaf-added-requires
add_leaf-added-requires c = c.requires.0

pub add_point-sampler-requires : goal.add_point-sampler-requires
add_point-sampler-requires c = c.requires.1

pub returns : goal.returns
returns c = admit_done c.args.self _ _ _ _ c.args.index c.args.weight c.args.words.now _ _ _ _ _ c.requires.1 c.add_leaf-added.ensures.adds c.add_point-sampler.ensures.answer c.add_point-sampler.ensures.slots
