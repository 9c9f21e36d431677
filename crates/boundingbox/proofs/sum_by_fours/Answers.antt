-- `sum_by_fours` meets its contract: the fours add up, and the channels past them are padding. Assumes nothing.
use mathlib.Core.Path.{sym, ◌∙◌}
use native.Mathlib.Nat.{le_trans}
use lib.Dec.{leb→le}
use Rattle.limits.specs.Limits.{width}
use Rattle.boundingbox.proofs.Sums.{sum_eight, sum_on, sum_padded}
use Rattle.boundingbox.proofs.sum_by_fours.Goals as goal

pub returns-then-dimensions-le8 : goal.returns-then-dimensions-le8
returns-then-dimensions-le8 g c = λ f says pads.
    sum_eight f _ _ (c.sum_of.ensures.grows f says) (c.sum_of-2.ensures.grows f says)
    ∙ sym (sum_padded f 8 width (leb→le 8 width tt) (λ i h. pads i (le_trans c.if-dimensions-le8.true h)))

pub returns-then-dimensions-le16 : goal.returns-then-dimensions-le16
returns-then-dimensions-le16 g c = λ f says pads.
    sum_on f 8 _ _ _ (sum_eight f _ _ (c.sum_of.ensures.grows f says) (c.sum_of-2.ensures.grows f says)) (c.sum_of-3.ensures.grows f says) (c.sum_of-4.ensures.grows f says)
    ∙ sym (sum_padded f 16 width (leb→le 16 width tt) (λ i h. pads i (le_trans c.if-dimensions-le16.true h)))

pub returns : goal.returns
returns g c = λ f says pads.
    sum_on f 24 _ _ _
    (sum_on f 16 _ _ _
    (sum_on f 8 _ _ _ (sum_eight f _ _ (c.sum_of.ensures.grows f says) (c.sum_of-2.ensures.grows f says)) (c.sum_of-3.ensures.grows f says) (c.sum_of-4.ensures.grows f says))
    (c.sum_of-5.ensures.grows f says) (c.sum_of-6.ensures.grows f says))
    (c.sum_of-7.ensures.grows f says) (c.sum_of-8.ensures.grows f says)
