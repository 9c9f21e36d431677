-- `text::bytes_before` meets its contract. Assumes nothing.
use Rattle.std.proofs.Common.{◌≡◌, length, unwrap_or, position, ◌==◌, rules, ap, ◌∙◌}
use Rattle.std.proofs.lemmas.Iterator.{YieldsList-from_slice}
use Rattle.std.proofs.lemmas.Iterator.Search.{position_from_yields_List}
use Rattle.text.proofs.Pieces.{position_before}
use Rattle.text.proofs.bytes_before.Goals as goal

pub returns : goal.returns
returns c =
    let e : c.position.result ≡ position (λ x. x == c.args.separator) c.args.text.now = position_from_yields_List (λ x. x == c.args.separator) _ _ _ c.position.ensures.ran (YieldsList-from_slice c.args.text.now c.iter.ensures.rest) (λ x b q k. search rules) in
    c.unwrap_or.ensures ∙ ap (λ r. unwrap_or r (length c.args.text.now)) e ∙ position_before _ _
