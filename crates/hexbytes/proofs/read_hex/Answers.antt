-- `hexbytes::read_hex` meets its contract. Assumes nothing.
use mathlib.Core.Path.{sym, ◌∙◌}
use native.Mathlib.Omega.{arith}
use Rattle.hexbytes.proofs.Digits.{other_length, no_digits, all_read}
use Rattle.hexbytes.proofs.read_hex.Goals as goal

pub returns-then-field-bytes : goal.returns-then-field-bytes
returns-then-field-bytes c = other_length c.args.field.now c.args.bytes.now c.if-field-bytes.true

pub returns-then-not-are_digits : goal.returns-then-not-are_digits
returns-then-not-are_digits c = no_digits c.args.field.now c.args.bytes.now (omega arith) c.are_digits.ensures c.if-not-are_digits.true

pub put_bytes-requires : goal.put_bytes-requires
put_bytes-requires c = (omega arith, sym c.are_digits.ensures ∙ c.if-not-are_digits.false)

pub returns : goal.returns
returns c = all_read c.args.field.now c.args.bytes.now (omega arith) c.are_digits.ensures c.if-not-are_digits.false _ c.put_bytes.ensures
