-- Weights are ordered as the keys of their values are, so the first entry of a heap of them is a largest. Assumes nothing.
use mathlib.Core.Path.{◌≡◌, sym, ◌∙◌}
use native.Mathlib.Omega.{arith}
use lib.Dec.{ltb}
use borrow.Author.Tests.{ltb-true, ltb-false, le-ltb}
use Rattle.readings.proofs.Keys.{key, lt_key}
use Rattle.readings.proofs.Ordered.{number_num}
use Rattle.sampler.specs.Sample.{Entry, above, beyond, Weighed, WeightsOrder, LargestEvicted}
use Rattle.sampler.proofs.Order.{first_largest}

by_key : (x y : Entry) → Weighed x → Weighed y → above x y ≡ ltb (key y.weight) (key x.weight)
by_key x y p q = lt_key y.weight x.weight (number_num y.weight q) (number_num x.weight p)

pub weights_order : WeightsOrder
weights_order =
    record {
      one_way = λ x y p q t. by_key y x q p ∙ le-ltb (key x.weight) (key y.weight) (omega (arith, ltb-true (key y.weight) (key x.weight) (sym (by_key x y p q) ∙ t)));
      through = λ x y w p q r t u. by_key x w p r
          ∙ le-ltb (key w.weight) (key x.weight)
          (omega (arith, ltb-false (key y.weight) (key x.weight) (sym (by_key x y p q) ∙ t), ltb-false (key w.weight) (key y.weight) (sym (by_key y w q r) ∙ u)));
    }

pub largest_evicted : LargestEvicted
largest_evicted = first_largest above beyond Weighed weights_order
