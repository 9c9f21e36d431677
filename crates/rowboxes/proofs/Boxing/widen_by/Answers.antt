-- `widen_by` meets its contract. Assumes nothing.
use Rattle.rowboxes.proofs.Rows.{low_padded, high_padded, made_ends}
use Rattle.rowboxes.proofs.Boxing.widen_by.Goals as goal

pub widen-requires : goal.widen-requires
widen-requires c = let P = c.requires.padded in
    let Q = c.args.self.now.padded in
    let few = c.args.self.now.sizes.few.1 in
    rw (c.end_of-lower.ensures, c.end_of-upper.ensures) (record { padded = (P, low_padded _ _ _ _ _ _ few c.requires.hand Q.0 Q.1, high_padded _ _ _ _ _ _ few c.requires.hand Q.0 Q.1) })

pub returns-clause-padded : goal.returns-clause-padded
returns-clause-padded c = let P = c.requires.padded in
    let Q = c.args.self.now.padded in
    let few = c.args.self.now.sizes.few.1 in
    made_ends _ _ _ _ _ _ P.low (low_padded _ _ _ _ _ _ few c.requires.hand Q.0 Q.1) P.high (high_padded _ _ _ _ _ _ few c.requires.hand Q.0 Q.1) (rw (c.end_of-lower.ensures, c.end_of-upper.ensures) at c.widen.ensures)
