-- `branch_ends` meets its contract. Assumes nothing.
use mathlib.Core.Path.{refl}
use native.Mathlib.Omega.{arith}
use Rattle.nodeview.proofs.branch_ends.Goals as goal

pub returns-then-branch-boxing : goal.returns-then-branch-boxing
returns-then-branch-boxing c = record { left = (λ _. refl); pair = (λ h. absurd (omega (arith, c.if-branch-boxing.true))); padded = c.requires.padded }

pub ends_above-requires : goal.ends_above-requires
ends_above-requires c = record { stands = c.requires.stands; given = c.requires.given; padded = c.requires.padded }

pub returns : goal.returns
returns c = record { left = (λ h. absurd (omega (arith, c.if-branch-boxing.false))); pair = (λ _. c.ends_above.ensures.pair); padded = c.ends_above.ensures.padded }
