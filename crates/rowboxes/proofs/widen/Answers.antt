-- `widen` meets its contract. Assumes nothing.
use borrow.Author.Rules.{rules}
use Rattle.rowboxes.proofs.Rows.{set_joined}
use Rattle.rowboxes.proofs.widen.Goals as goal

pub returns : goal.returns
returns c = let P = c.requires.padded in
    set_joined _ _ _ _ _ P.0 c.set_ends.ensures _ _ _ _ P.0.low P.1 P.0.high P.2 (λ v i w l e r. search rules) (λ v i w l e r. search rules)
