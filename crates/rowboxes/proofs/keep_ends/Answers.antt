-- `keep_ends` meets its contract. Assumes nothing.
use borrow.Author.Rules.{rules}
use mathlib.Core.Path.{◌≡◌, sym, ap, subst}
use lib.ListN.{set}
use Rattle.rowboxes.specs.Rows.{PaddedBoxes}
use Rattle.rowboxes.proofs.Rows.{set_copied, padded_set}
use Rattle.rowboxes.proofs.keep_ends.Goals as goal

pub returns : goal.returns
returns c = let A = c.args in
    let P = c.requires.padded in
    let k = set_copied _ _ _ _ _ (P.0.slots A.index c.requires.slot) c.set_ends.ensures A.ends.now P.1 (λ v i w l r. search rules) (λ v i w l r. search rules) in
    let e : set A.boxes.now A.index c.set_ends.new.ends ≡ set A.boxes.now A.index A.ends.now = ap (set A.boxes.now A.index) k in
    record { kept = e; padded = subst (PaddedBoxes A.sizes.now.channels) (sym e) (padded_set A.sizes.now.channels A.index A.boxes.now A.ends.now c.requires.slot P.0 P.1) }
