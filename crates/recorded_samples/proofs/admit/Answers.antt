-- `admit` meets its contract: what is left by an eviction, if any, and then by the add. Assumes nothing.
use Rattle.recorded_samples.proofs.Arrivals.{room_left_lem, admitted, admitted_kept}
use Rattle.recorded_samples.proofs.admit.Goals as goal

pub add_point-after-requires : goal.add_point-after-requires
add_point-after-requires c = room_left_lem _ _ c.accept_point-accepted.ensures c.left_of-left.ensures c.requires

pub returns : goal.returns
returns c = record { answer = admitted _ _ c.accept_point-accepted.ensures c.left_of-left.ensures c.requires c.add_point-after.ensures.answer; slots = admitted_kept _ _ c.accept_point-accepted.ensures c.left_of-left.ensures c.requires _ _ c.add_point-after.ensures.slots c.add_point-after.ensures.answer }
