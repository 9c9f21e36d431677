-- `calls::put` meets its contract. Assumes nothing.
use Rattle.calls.proofs.Puts.{put_does}
use Rattle.calls.proofs.put.Goals as goal

pub returns : goal.returns
returns c = record { read = record { answer = c.put-answer.result; puts = c.put-answer.ensures; told = c.tell_put.ensures }; does = put_does _ _ _ _ _ _ _ _ _ _ c.put-answer.ensures c.tell_put.ensures }
