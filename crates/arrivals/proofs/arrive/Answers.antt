-- `arrivals::arrive` meets its contract. Assumes nothing.
use mathlib.Core.Path.{sym, ap}
use lib.ListN.{length, take}
use Rattle.samplerplustree.proofs.Tested.{some_offered}
use Rattle.samplerplustree.proofs.Entered.{leaving, seeking, entering}
use Rattle.arrivals.specs.Words.{words_used}
use Rattle.arrivals.proofs.arrive.Goals as goal

pub leave-remaining-requires : goal.leave-remaining-requires
leave-remaining-requires c = leaving c.args.tree _ _ _ _ _ c.args.index c.args.weight (length c.args.words.now) (some_offered c.args.tree _ _ _ _ _ _ _ _ _ (length c.args.words.now) c.test_arrival-offer.ensures c.requires)

pub find-found-requires : goal.find-found-requires
find-found-requires c = seeking c.args.tree _ _ _ _ _ c.args.index c.args.weight (length c.args.words.now) (some_offered c.args.tree _ _ _ _ _ _ _ _ _ (length c.args.words.now) c.test_arrival-offer.ensures c.requires) _ _ _ _ c.leave-remaining.ensures.done

pub enter-requires : goal.enter-requires
enter-requires c = (entering c.args.tree _ _ _ _ _ c.args.index c.args.weight (length c.args.words.now) (some_offered c.args.tree _ _ _ _ _ _ _ _ _ (length c.args.words.now) c.test_arrival-offer.ensures c.requires) _ _ _ _ c.leave-remaining.ensures.done _ _ _ c.find-found.ensures)

pub returns : goal.returns
returns c = let offer = c.test_arrival-offer in
    λ ws e d t X S. c.enter.ensures c.args.chance ws _ (ap length (sym e)) d t X (c.leave-remaining.ensures.done d t X _ S) (offer.ensures.told d t X c.args.store.now c.args.table.now.points c.args.sample.now.held S) (ap (take (words_used d X c.args.index offer.result)) e)
