-- `print_branch` meets its contract. Assumes nothing.
use mathlib.Core.Path.{ap, ◌∙◌}
use lib.Ieee.{binary32, to_bits}
use Rattle.cut.specs.declared.Cut.{Cut}
use Rattle.listing.proofs.Parts.{row_written}
use Rattle.listing.proofs.print_branch.Goals as goal

pub returns : goal.returns
returns c = let a = c.args in
    let cut = c.cut_at-cut.ensures in
    row_written a.nodes.now a.cuts.now a.id (ap (λ (x : Cut). x.dimension) cut) (c.wide32-value.ensures.0 ∙ c.pattern_of.ensures ∙ ap (λ (x : Cut). to_bits binary32 x.value) cut) c.number_of-left.ensures c.number_of-right.ensures c.number_of-mass.ensures c.put_branch.ensures.wrote
