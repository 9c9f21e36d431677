-- `add_root` meets its contract: the leaf's copies are all that its arrays have. Assumes nothing.
use Rattle.nodestore.proofs.Ends.{first_arrays}
use Rattle.nodestore.proofs.add_root.Goals as goal

pub returns : goal.returns
returns c = record { put = c.put_copies.ensures; arrays = λ d x nodes cuts p w. rw c.put_copies.ensures (first_arrays d x nodes cuts _ _ p c.requires w) }
