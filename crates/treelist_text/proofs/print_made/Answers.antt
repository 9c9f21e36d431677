-- `treelist_text::print_made` meets its contract. Assumes nothing.
use native.Mathlib.Omega.{arith}
use Rattle.treelist_text.proofs.Reading.{no_making, few, by_making, short, after_first, after_second, after_third, making_is, rows_are}
use Rattle.treelist_text.proofs.print_made.Goals as goal

pub piece_end-a-requires : goal.piece_end-a-requires
piece_end-a-requires c = omega arith

pub overflow_add-a : goal.overflow_add-a
overflow_add-a c = let t = c.args.text.now in
    omega (arith, after_first t c.requires _ c.piece_end-a.ensures, short t c.requires)

pub piece_end-b-requires : goal.piece_end-b-requires
piece_end-b-requires c = let t = c.args.text.now in
    after_first t c.requires _ c.piece_end-a.ensures

pub overflow_add-b : goal.overflow_add-b
overflow_add-b c = let t = c.args.text.now in
    omega (arith, after_second t c.requires _ c.piece_end-a.ensures _ c.piece_end-b.ensures, short t c.requires)

pub piece_end-c-requires : goal.piece_end-c-requires
piece_end-c-requires c = let t = c.args.text.now in
    after_second t c.requires _ c.piece_end-a.ensures _ c.piece_end-b.ensures

pub overflow_add-a-2 : goal.overflow_add-a-2
overflow_add-a-2 c = let t = c.args.text.now in
    omega (arith, after_first t c.requires _ c.piece_end-a.ensures, short t c.requires)

pub slice_bounds-read_making-count : goal.slice_bounds-read_making-count
slice_bounds-read_making-count c = c.piece_end-b.ensures.from

pub slice_bounds-read_making-start : goal.slice_bounds-read_making-start
slice_bounds-read_making-start c = c.piece_end-b.ensures.from

pub slice_bounds-read_making-end : goal.slice_bounds-read_making-end
slice_bounds-read_making-end c = c.piece_end-b.ensures.most

pub share_of-requires : goal.share_of-requires
share_of-requires c = few _ _ c.read_making.ensures _ c.in-Some.is

pub overflow_add-c : goal.overflow_add-c
overflow_add-c c = let t = c.args.text.now in
    omega (arith, after_third t c.requires _ c.piece_end-a.ensures _ c.piece_end-b.ensures _ c.piece_end-c.ensures, short t c.requires)

pub print_few-requires : goal.print_few-requires
print_few-requires c = let t = c.args.text.now in
    record { within = (after_third t c.requires _ c.piece_end-a.ensures _ c.piece_end-b.ensures _ c.piece_end-c.ensures, short t c.requires); rows = record { ops = _; rest = rows_are t c.requires _ c.piece_end-a.ensures _ c.piece_end-b.ensures _ c.piece_end-c.ensures } }

pub returns-in-None : goal.returns-in-None
returns-in-None c = let t = c.args.text.now in
    absurd (no_making _ _ c.read_making.ensures _ (making_is t c.requires _ c.piece_end-a.ensures _ c.piece_end-b.ensures _ c.piece_end-c.ensures) c.in-None.is)

pub returns-in-Some : goal.returns-in-Some
returns-in-Some c = let t = c.args.text.now in
    by_making _ _ c.read_making.ensures _ c.in-Some.is t c.requires (making_is t c.requires _ c.piece_end-a.ensures _ c.piece_end-b.ensures _ c.piece_end-c.ensures) _ _ _ c.wide64.ensures c.wide64-in-Some.ensures c.share_of.ensures
    (c.print_few.ensures c.requires.ops (rows_are t c.requires _ c.piece_end-a.ensures _ c.piece_end-b.ensures _ c.piece_end-c.ensures))
