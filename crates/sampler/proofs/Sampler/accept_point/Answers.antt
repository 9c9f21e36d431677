-- `Sampler::accept_point` meets its contract, by its one test. Assumes nothing.
use mathlib.Core.Bool.{false≢true}
use mathlib.Core.Path.{refl, ◌∙◌, sym, ap}
use Rattle.std.proofs.Common.{Some}
use Rattle.sampler.proofs.Sampler.accept_point.Goals as goal

pub returns-then-initial : goal.returns-then-initial
returns-then-initial c = record { started = λ _. (refl, refl, refl); evicting = λ h. absurd (false≢true (sym h ∙ c.if-initial.true)) }

pub evict_max-requires : goal.evict_max-requires
evict_max-requires c = (c.requires.current_size_nonzero c.if-initial.false, c.requires.current_size_bound)

pub returns : goal.returns
returns c = record { started = λ h. absurd (false≢true (sym c.if-initial.false ∙ h)); evicting = λ _. (ap Some c.evict_max.ensures.answer, c.evict_max.ensures.slots) }
