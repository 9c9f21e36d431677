-- An op row of treelist's text as a call on a tree. Definitions.
use Rattle.std.specs.Prelude.{◌≡◌, List, ℕ}
use Rattle.std.proofs.Math.Option.{some}
use Rattle.cuttree.specs.Run.{Call, put as put_call, add as add_call, delete as delete_call}
use Rattle.wholetree.specs.Whole.{whole}
use Rattle.text.specs.Pieces.{pieces}
use Rattle.form.specs.Rows.{Op, put, add, delete, row_of}

-- 'op 0 puts (rest: coordinates), 1 adds (rest: words), 2 deletes (no rest)'
abbrev pub call_of : (d : ℕ) → Op → Call (whole d)
call_of d (put i xs) = put_call i xs
call_of d (add i ws) = add_call i ws
call_of d (delete i) = delete_call i

-- what a row is asked to be: an op row in form
pub record SomeOp (row : List ℕ) : Type 0 where
  pub op : Op
  pub is : row_of (pieces 32 row) ≡ some op
