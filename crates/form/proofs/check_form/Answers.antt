-- `form::check_form` meets its contract. Assumes nothing.
use Rattle.std.proofs.Common.{sym, ◌∙◌}
use Rattle.form.proofs.Blocks.{form_long, form_lines, form_one, form_two, form_three, first_lines}
use Rattle.form.proofs.check_form.Goals as goal

pub returns-then-bytes-gt32768 : goal.returns-then-bytes-gt32768
returns-then-bytes-gt32768 c = form_long _ c.if-bytes-gt32768.true

pub returns-then-a-bytes : goal.returns-then-a-bytes
returns-then-a-bytes c = form_one _ c.if-bytes-gt32768.false c.piece_end-a.ensures c.if-a-bytes.true

pub returns-then-b-bytes : goal.returns-then-b-bytes
returns-then-b-bytes c = form_two _ c.if-bytes-gt32768.false c.piece_end-a.ensures c.if-a-bytes.false c.piece_end-b.ensures c.if-b-bytes.true

pub returns-then-c-bytes : goal.returns-then-c-bytes
returns-then-c-bytes c = form_three _ c.if-bytes-gt32768.false c.piece_end-a.ensures c.if-a-bytes.false c.piece_end-b.ensures c.if-b-bytes.false c.piece_end-c.ensures c.if-c-bytes.true

pub check_blocks-requires : goal.check_blocks-requires
check_blocks-requires c = first_lines _ c.if-bytes-gt32768.false c.piece_end-a.ensures c.if-a-bytes.false c.piece_end-b.ensures c.if-b-bytes.false c.piece_end-c.ensures c.if-c-bytes.false

pub returns : goal.returns
returns c = c.check_blocks.ensures ∙ sym (form_lines _ c.if-bytes-gt32768.false)
