-- `join` meets its contract. Assumes nothing.
use borrow.Author.Rules.{rules}
use Rattle.rowboxes.proofs.Rows.{set_joined, made_ends, low_padded, high_padded}
use Rattle.rowboxes.proofs.Boxing.join.Goals as goal

pub returns : goal.returns
returns c = let P = c.requires.padded in
    let Q = c.args.self.now.padded in
    let few = c.args.self.now.sizes.few.1 in
    let h = c.requires.hand in
    let la = low_padded _ _ _ _ _ _ few h.0 Q.0 Q.1 in
    let lb = low_padded _ _ _ _ _ _ few h.1 Q.0 Q.1 in
    let ha = high_padded _ _ _ _ _ _ few h.0 Q.0 Q.1 in
    let hb = high_padded _ _ _ _ _ _ few h.1 Q.0 Q.1 in
    let e = set_joined _ _ _ _ _ P c.set_ends.ensures _ _ _ _ la lb ha hb (λ v i w l e r. rw (← c.end_of-low_a.ensures, ← c.end_of-low_b.ensures) (search rules)) (λ v i w l e r. rw (← c.end_of-high_a.ensures, ← c.end_of-high_b.ensures) (search rules)) in
    record { joined = e; padded = made_ends _ _ _ _ _ _ la lb ha hb e }
