-- `put_arrived` meets its contract, by what is done. Assumes nothing.
use mathlib.Core.Path.{refl}
use lib.Ieee.{of_bits}
use Rattle.recorded_samples.proofs.put_arrived.Goals as goal

pub returns-in-Nothing : goal.returns-in-Nothing
unfolding of_bits
returns-in-Nothing c = record { sampler_is = refl; wrote = rw c.in-Nothing.is c.put_done.ensures.wrote; next = c.put_done.ensures.next }

pub returns-in-Start : goal.returns-in-Start
unfolding of_bits
returns-in-Start c = record { sampler_is = refl; wrote = rw c.in-Start.is c.put_done-in-Start.ensures.wrote; next = c.put_done-in-Start.ensures.next }

pub returns-in-Gone : goal.returns-in-Gone
returns-in-Gone c = record { sampler_is = refl; wrote = rw c.in-Gone.is c.put_done-in-Gone.ensures.wrote; next = c.put_done-in-Gone.ensures.next }
