-- `treelist_text::print_by` meets its contract. Assumes nothing.
use Rattle.treelist_text.proofs.Makes.{not_made, begun, is_made}
use Rattle.treelist_text.proofs.print_by.Goals as goal

pub run_rows-requires : goal.run_rows-requires
run_rows-requires c = record {
  within = c.requires.within;
  ready = record {
    channels = _;
    capacity = _;
    share = _;
    world = _;
    ops = _;
    standing = begun c.new.ensures _ c.in-Ok.is c.args.text.now _ _ _ c.new-table.ensures.points c.new-table.ensures.written _ c.requires.rows.rest;
  };
}

pub returns-in-Err : goal.returns-in-Err
returns-in-Err c = λ os e. not_made c.new.ensures _ _ c.in-Err.is c.number.ensures os c.put_refused.ensures.wrote

pub returns-in-Ok : goal.returns-in-Ok
returns-in-Ok c = let m = c.new.ensures in
    let h = c.in-Ok.is in
    λ os e. is_made m _ h os (c.run_rows.ensures _ _ _ _ os (begun m _ h c.args.text.now _ _ _ c.new-table.ensures.points c.new-table.ensures.written os e))
