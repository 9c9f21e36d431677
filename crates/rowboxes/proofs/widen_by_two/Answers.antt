-- `widen_by_two` meets its contract. Assumes nothing.
use borrow.Author.Rules.{rules}
use Rattle.boundingbox.specs.Ends.{least, greatest}
use Rattle.rowboxes.proofs.Rows.{set_joined, joined_padded, joined_in, nought_least, nought_greatest}
use Rattle.rowboxes.proofs.widen_by_two.Goals as goal

pub returns : goal.returns
returns c = let P = c.requires.padded in
    set_joined _ _ _ _ _ P.0 c.set_ends.ensures _ _ _ _ P.0.low (joined_padded least nought_least _ _ _ P.1 P.2) P.0.high (joined_padded greatest nought_greatest _ _ _ P.1 P.2)
    (λ v i w l e r. rw (joined_in least nought_least _ _ _ i P.1 l) (search rules)) (λ v i w l e r. rw (joined_in greatest nought_greatest _ _ _ i P.1 l) (search rules))
