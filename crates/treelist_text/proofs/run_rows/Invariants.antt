use mathlib.Core.List.{List}
use Prim.Native.Nat.{ℕ, ◌-◌, ◌*◌, ◌≤◌}
use lib.ListN.{length}
use lib.Ieee.{Float}
use Rattle.cuttree.specs.Run.{World}
use Rattle.wholetree.specs.Whole.{whole}
use Rattle.form.specs.Rows.{Op}
use Rattle.treelist_text.specs.Output.{output_from}
use Rattle.treelist_text.specs.Running.{Standing}
use Rattle.treelist_text.proofs.Turns.{Running}
use Rattle.treelist_text.proofs.run_rows.Given as goal

abbrev pub invariant-loop-reply : goal.invariant-loop-reply
invariant-loop-reply l = (l.at ≤ length l.text) × (l.row ≤ l.at) × (l.p ≤ 50 * l.row)
    × ((d c : ℕ) (s : Float) (W : World (whole d)) (os : List Op) → Standing d c s W os l.text l.start 0 l.initial.current l.initial.store l.initial.table.points l.initial.table.written → Running d c s l.initial.out (output_from d c W 0 os) l.text l.at l.row l.current l.store l.table.points l.table.written l.p l.out)

abbrev pub decreases-loop-reply : goal.decreases-loop-reply
decreases-loop-reply l = length l.text - l.at
