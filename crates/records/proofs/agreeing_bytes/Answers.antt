-- `agreeing_bytes` meets its contract. Assumes nothing.
use Rattle.std.proofs.Common.{ℕ, ◌∙◌, ◌==◌, rules, tests}
use Rattle.std.proofs.lemmas.Iterator.{YieldsList-from_slice, YieldsList-from_zip}
use Rattle.std.proofs.lemmas.Iterator.Consumers.{YieldsList-at, count_from_yields_List}
use Rattle.std.proofs.lemmas.Iterator.Search.{YieldsList-from_take_while}
use Rattle.records.proofs.Agreeing.{long_prefix}
use Rattle.records.proofs.agreeing_bytes.Goals as goal

pub returns : goal.returns
returns c =
    let x = c.args.x.now in
    let y = c.args.y.now in
    let pairs = YieldsList-at c.take_while.ensures.source (YieldsList-from_zip (YieldsList-at c.zip.ensures.first (YieldsList-from_slice x (cc))) (YieldsList-from_slice y (cc))) in
    count_from_yields_List c.take_while.result _ c.count.ensures.ran (YieldsList-from_take_while _ (λ (p : ℕ × ℕ). p.0 == p.1) pairs c.take_while.ensures.closure c.take_while.ensures.done (λ x b q k. search (rules, tests))) ∙ long_prefix x y
