-- `Sampler::add_point` meets its contract: its stores put the entry at the end, from which it goes up. Assumes nothing.
use mathlib.Core.List.{[], ◌∷◌, ◌++◌}
use mathlib.Core.Path.{refl}
use Rattle.sampler.proofs.Places.{slots_added}
use Rattle.sampler.proofs.Sampler.add_point.Goals as goal

pub returns : goal.returns
returns c = record {
  answer = refl;
  slots = λ ks w ws p ps at.
      rw at.size (c.swap_up.ensures (ks ++ (_ ∷ [])) ws ps (slots_added at (record { weight = c.args.weight; index = c.args.index })));
}
