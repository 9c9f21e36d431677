-- Each branch that a state's queries give is cut on one of the tree's channels. Assumes nothing.
use mathlib.Core.Option.{Option, none, some}
use mathlib.Core.List.{List}
use Prim.Native.Nat.{ℕ, ◌<◌}
use Rattle.cuttree.specs.Setting.{Cut}
use Rattle.cuttree.specs.Tree.{Tree, branch, OfTree}
use Rattle.cuttree.specs.Run.{World, Row}
use Rattle.cuttree.specs.Counts.{Counts}
use Rattle.cuttree.specs.Graph.{IsBranch}
use Rattle.cuttree.specs.Demand3.{view_of}
use Rattle.cuttree.proofs.Tests.{nonsense}
use Rattle.cuttree.proofs.Nodes.{In, here, left, right}
use Rattle.cuttree.proofs.Keeps.{Inv}
use Rattle.cuttree.proofs.Views.{by_branch}
use Rattle.wholetree.specs.Reading.{Reading}
use Rattle.wholetree.specs.Whole.{whole}
use Rattle.wholetree.proofs.Laws.{whole_laws}
use Rattle.randomcuttree.specs.State.{OnChannels}

module _ (d c : ℕ) where
  channel_in : {b : ℕ} {k : Cut (whole d)} {l r t : Tree (whole d)} → In (whole d) (branch b k l r) t → OnChannels d t → k.channel < d
  channel_in here h = h.0
  channel_in (left i) h = channel_in i h.1
  channel_in (right i) h = channel_in i h.2

  channels_of_lem : (f : ℕ → Option Reading) (o : Option (Tree (whole d))) (u : List (ℕ × ℕ)) (K : Counts (whole d)) → Inv (whole d) c (record { table = f; tree = o; free = u }) K → OfTree (whole d) (OnChannels d) o
      → (b : ℕ) (r : Row (whole d)) → IsBranch (whole d) (view_of (whole d) c (record { table = f; tree = o; free = u }) K) b r → r.cut.channel < d
  channels_of_lem f none u K I h = λ b r e. nonsense (cc)
  channels_of_lem f (some t) u K I h = by_branch (whole d) c (whole_laws d) f t u K I (λ b r. r.cut.channel < d) (λ b k l r j. channel_in j h)

  pub on_channels : (W : World (whole d)) (K : Counts (whole d)) → Inv (whole d) c W K → OfTree (whole d) (OnChannels d) W.tree → (b : ℕ) (r : Row (whole d)) → IsBranch (whole d) (view_of (whole d) c W K) b r → r.cut.channel < d
  on_channels W K I h = channels_of_lem W.table W.tree W.free K I h
