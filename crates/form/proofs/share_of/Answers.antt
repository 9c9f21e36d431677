-- `form::share_of` meets its contract. Assumes nothing.
use borrow.Author.Tests.{le-leb}
use mathlib.Core.Path.{refl}
use Prim.Native.Nat.{ℕ, ◌<◌}
use native.Mathlib.Omega.{arith}
use lib.Dec.{T}
use lib.IntN.{pos}
use lib.Ieee.{binary64, in_float}
use Rattle.form.specs.Making.{sixteenths_of}
use Rattle.form.proofs.share_of.Goals as goal

-- an f64 has each whole number up to 2^53
in_float_lem : (n : ℕ) → n < 1000000000 → T (in_float binary64 (pos n))
unfolding in_float
in_float_lem n h = rw (le-leb n 9007199254740992 (omega arith)) tt

pub int_to_float-result : goal.int_to_float-result
int_to_float-result c = in_float_lem c.args.sixteenths c.requires

pub returns : goal.returns
unfolding sixteenths_of
returns c = refl
