-- `archiveend::print_end` meets its contract. Assumes nothing.
use native.Mathlib.Omega.{arith}
use Rattle.archiveend.proofs.States.{kept_few, some_read, ended, fitting}
use Rattle.archiveend.proofs.print_end.Goals as goal

pub put_entries-next-requires : goal.put_entries-next-requires
put_entries-next-requires c = (kept_few c.args.tree _ _ _ _ _ c.requires.stands c.wide16-kept.ensures.0, omega (arith, c.requires.near, c.put_bytes-below.ensures.next))

pub print_tree-requires : goal.print_tree-requires
print_tree-requires c = record { near = omega (arith, c.requires.near, c.put_bytes-below.ensures.next, c.put_entries-next.ensures.few); stands = some_read c.args.tree _ _ _ _ _ c.requires.stands }

pub returns : goal.returns
returns c = let t = c.args.tree in
    let e = ended t _ _ _ _ _ c.put_bytes-below.ensures c.wide16-kept.ensures.0 c.put_entries-next.ensures.wrote c.print_tree.ensures in
    record { wrote = e; fits = fitting t _ _ _ _ _ c.requires.stands e }
