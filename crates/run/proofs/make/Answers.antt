-- `run::make` meets its contract. Assumes nothing.
use mathlib.Core.Path.{refl, sym, ap, ◌∙◌}
use Rattle.std.specs.Prelude.{Ok, Err}
use Rattle.std.proofs.lemmas.Result.{err_from_is_err_and}
use Rattle.samplerplustree.specs.declared.SamplerPlusTree.{SamplerPlusTree}
use native.Mathlib.Omega.{arith}
use lib.Ieee.{binary64, of_bits}
use Rattle.runlayout.proofs.Rest.{making_fits, making_five}
use Rattle.run.proofs.Makings.{sampled_width, of_sampled, of_bare}
use Rattle.run.proofs.make.Goals as goal

pub number_at-dimensions-requires : goal.number_at-dimensions-requires
number_at-dimensions-requires c = omega (arith, making_five c.args.run.now c.requires)

pub number_at-capacity-requires : goal.number_at-capacity-requires
number_at-capacity-requires c = omega (arith, making_five c.args.run.now c.requires)

pub double_at-requires : goal.double_at-requires
double_at-requires c = omega (arith, making_five c.args.run.now c.requires)

pub is_sampled-requires : goal.is_sampled-requires
is_sampled-requires c = omega (arith, making_five c.args.run.now c.requires)

pub double_at-requires-then-is_sampled : goal.double_at-requires-then-is_sampled
double_at-requires-then-is_sampled c = omega (arith, making_fits c.args.run.now c.requires, sampled_width c.args.run.now (sym c.is_sampled.ensures ∙ c.if-is_sampled.true))

pub returns-then-is_sampled : goal.returns-then-is_sampled
returns-then-is_sampled c = of_sampled c.args.run.now _ _ _ _ _ _ c.number_at-dimensions.ensures.0 c.number_at-capacity.ensures.0 (c.double_of-share.ensures ∙ ap (of_bits binary64) c.double_at.ensures) _ _ _ _ _
    (c.double_of-initial.ensures ∙ ap (of_bits binary64) c.double_at-then-is_sampled.ensures) (sym c.is_sampled.ensures ∙ c.if-is_sampled.true) c.new.ensures

pub returns-in_err-tree : goal.returns-in_err-tree
returns-in_err-tree c = let p = err_from_is_err_and c.from_residual.result c.from_residual.ensures.1 in
    rw (p.1, p.2) (of_bare c.args.run.now _ _ _ _ _ _ c.number_at-dimensions.ensures.0 c.number_at-capacity.ensures.0 (c.double_of-share.ensures ∙ ap (of_bits binary64) c.double_at.ensures) _ (Err _) _ refl
    (sym c.is_sampled.ensures ∙ c.if-is_sampled.false) c.in_err-tree.ensures)

pub returns : goal.returns
returns c = of_bare c.args.run.now _ _ _ _ _ _ c.number_at-dimensions.ensures.0 c.number_at-capacity.ensures.0 (c.double_of-share.ensures ∙ ap (of_bits binary64) c.double_at.ensures) _ (Ok _) _ (ap (λ (h : SamplerPlusTree). Ok h) c.as_sampled.ensures)
    (sym c.is_sampled.ensures ∙ c.if-is_sampled.false) c.in_ok-tree.ensures
