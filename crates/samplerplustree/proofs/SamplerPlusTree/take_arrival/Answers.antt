-- `SamplerPlusTree::take_arrival` meets its contract: the two steps, and the walk between them. Assumes nothing.
use Rattle.samplerplustree.proofs.Entered.{leaving, seeking, entering}
use Rattle.samplerplustree.proofs.SamplerPlusTree.take_arrival.Goals as goal

pub leave-remaining-requires : goal.leave-remaining-requires
leave-remaining-requires c = leaving c.args.self c.args.offer _ _ _ _ c.args.index c.args.weight _ c.requires

pub find-found-requires : goal.find-found-requires
find-found-requires c = seeking c.args.self c.args.offer _ _ _ _ c.args.index c.args.weight _ c.requires _ _ _ _ c.leave-remaining.ensures.done

pub enter-requires : goal.enter-requires
enter-requires c = entering c.args.self c.args.offer _ _ _ _ c.args.index c.args.weight _ c.requires _ _ _ _ c.leave-remaining.ensures.done _ _ _ c.find-found.ensures

pub returns : goal.returns
returns c = λ d s X marks x S u. c.enter.ensures d s X marks x (c.leave-remaining.ensures.done d s X marks S) u
