-- `replace_node` meets its contract: a store at the side picked is the case of `redirect`. Assumes nothing.
use mathlib.Core.Path.{◌≡◌}
use mathlib.Core.Bool.{Bool, cond}
use mathlib.Core.List.{List}
use Prim.Native.Nat.{ℕ}
use lib.Dec.{eqb}
use Rattle.cuttree.proofs.Tests.{by-test}
use Rattle.layout.specs.Slots.{field}
use Rattle.nodestore.specs.Rows.{set_field}
use Rattle.nodestore.proofs.replace_node.Goals as goal

picked : (b : Bool) (n : List (List ℕ)) (a new : ℕ) → set_field n a (cond b 0 1) new ≡ cond b (set_field n a 0 new) (set_field n a 1 new)
picked b n a new = by-test b (λ e. rw e) (λ e. rw e)

pub returns : goal.returns
returns c = let x = c.args in
    rw c.side_with-side.ensures.0 (picked (eqb (field x.nodes.now x.a 0) x.old) x.nodes.now x.a x.new)
