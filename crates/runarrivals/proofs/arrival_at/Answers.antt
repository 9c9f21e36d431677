-- `runarrivals::arrival_at` meets its contract. Assumes nothing.
use mathlib.Core.Path.{◌∙◌}
use native.Mathlib.Omega.{arith}
use Prim.Native.Nat.{◌≤◌}
use lib.ListN.{length, length-take}
use lib.Seq.{length-take-le}
use Rattle.samplerplustree.proofs.Tested.{some_offered}
use Rattle.samplerplustree.proofs.Entered.{leaving, seeking, entering}
use Rattle.rungiven.proofs.Firsts.{firsts_taken}
use Rattle.runarrivals.proofs.Given.{arrival_inside, as_long, read_there, arrival_given}
use Rattle.runarrivals.proofs.arrival_at.Goals as goal

pub overflow_add-p : goal.overflow_add-p
overflow_add-p c = omega (arith, arrival_inside c.args.run.now _ c.requires.there)

pub number_at-index-requires : goal.number_at-index-requires
number_at-index-requires c = omega (arith, arrival_inside c.args.run.now _ c.requires.there)

pub overflow_add-p-2 : goal.overflow_add-p-2
overflow_add-p-2 c = omega (arith, arrival_inside c.args.run.now _ c.requires.there)

pub bits_at-requires : goal.bits_at-requires
bits_at-requires c = omega (arith, arrival_inside c.args.run.now _ c.requires.there)

pub overflow_add-p-3 : goal.overflow_add-p-3
overflow_add-p-3 c = omega (arith, arrival_inside c.args.run.now _ c.requires.there)

pub double_at-chance-requires : goal.double_at-chance-requires
double_at-chance-requires c = omega (arith, arrival_inside c.args.run.now _ c.requires.there)

pub overflow_add-p-4 : goal.overflow_add-p-4
overflow_add-p-4 c = omega (arith, arrival_inside c.args.run.now _ c.requires.there)

pub number_at-requires : goal.number_at-requires
number_at-requires c = omega (arith, arrival_inside c.args.run.now _ c.requires.there)

pub leave-remaining-requires : goal.leave-remaining-requires
leave-remaining-requires c = leaving c.args.tree _ _ _ _ _ _ _ _ (some_offered _ _ _ _ _ _ _ _ _ _ _ c.test_arrival-offer.ensures c.requires.state)

pub find-found-requires : goal.find-found-requires
find-found-requires c = seeking c.args.tree _ _ _ _ _ _ _ _ (some_offered _ _ _ _ _ _ _ _ _ _ _ c.test_arrival-offer.ensures c.requires.state) _ _ _ _ c.leave-remaining.ensures.done

pub read_words-requires : goal.read_words-requires
read_words-requires c =
    omega (arith, c.at_most-used.ensures, c.at_most-n.ensures, arrival_inside c.args.run.now _ c.requires.there, c.number_at.ensures.0, length-take c.at_most-used.result c.args.words.now)

pub enter-requires : goal.enter-requires
enter-requires c = let n = c.at_most-n.ensures in
    let long = as_long c.at_most-n.result c.at_most-used.result c.args.words.now _ (omega arith) c.read_words.auto.words in
    rw long (entering c.args.tree _ _ _ _ _ _ _ _ (some_offered _ _ _ _ _ _ _ _ _ _ _ c.test_arrival-offer.ensures c.requires.state) _ _ _ _ c.leave-remaining.ensures.done _ _ _ c.find-found.ensures)

pub returns : goal.returns
returns c = let n = c.at_most-n.ensures in
    let k = c.at_most-used.ensures in
    let fits : c.at_most-n.result ≤ length c.args.words.now = omega arith in
    let few : c.at_most-used.result ≤ length c.args.words.now = omega arith in
    let long = as_long c.at_most-n.result c.at_most-used.result c.args.words.now _ few c.read_words.auto.words ∙ length-take-le c.at_most-n.result c.args.words.now fits in
    let told = rw (length-take-le c.at_most-n.result c.args.words.now fits) at c.test_arrival-offer.ensures in
    let it = arrival_given c.args.run.now _ _ c.args.store.now _ _ _ _ _ _ _ _ _ _ _ c.number_at-index.ensures.0 c.bits_at.ensures c.float_of-weight.ensures c.double_at-chance.ensures c.number_at.ensures.0 n told _ _ _ _ c.leave-remaining.ensures.done c.args.path.now _ _ c.leave-remaining.ensures.path _ c.find-found.ensures _ k c.args.words.now _
    (read_there _ _ c.args.words.now _ (firsts_taken _ _ _ _ c.read_words.ensures few) few) long _ _ _ _ _ c.enter.ensures in
    record { done = it.0; words = it.1.0; path = it.1.1 }
