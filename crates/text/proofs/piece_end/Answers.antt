use native.Mathlib.Omega.{arith}
use Rattle.text.proofs.Pieces.{ends}
use Rattle.text.proofs.piece_end.Goals as goal

pub overflow_add-result : goal.overflow_add-result
overflow_add-result c = let a = c.args in let w = ends a.separator a.text.now a.start c.bytes_before.result c.requires c.bytes_before.ensures in record { fits = omega arith }

pub returns : goal.returns
returns c = ends _ _ _ _ c.requires c.bytes_before.ensures
