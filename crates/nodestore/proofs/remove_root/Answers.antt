-- `remove_root` meets its contract: the lone leaf's copies are all that its arrays have. Assumes nothing.
use mathlib.Core.Path.{refl}
use Rattle.nodestore.proofs.Ends.{lone_arrays}
use Rattle.nodestore.proofs.remove_root.Goals as goal

pub returns : goal.returns
returns c = record { put = c.put_copies.ensures; arrays = λ d x nodes cuts path t p w. rw c.put_copies.ensures (lone_arrays w c.requires.index_value refl) }
