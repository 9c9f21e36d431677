-- How far a run has come: what the steps of the C entry are told and leave. Definitions.
use Rattle.std.specs.Prelude.{◌≡◌, Bool, List, ℕ, ◌+◌, ◌*◌, ◌/◌, ◌≤◌, leb, length}
use Rattle.std.proofs.Math.Option.{some}
use Rattle.std.proofs.lemmas.List.Edits.{sets}
use Rattle.little.specs.Little.{bytes_of}
use Rattle.wholetree.specs.Whole.{whole}
use Rattle.sampledtree.specs.Sampled.{Sampled}
use Rattle.samplerplustree.specs.declared.SamplerPlusTree.{SamplerPlusTree}
use Rattle.runlayout.specs.Layout.{RunCall, making_width, channels, capacity, share, rest_from}
use Rattle.runlayout.specs.Check.{widths}
use Rattle.runsteps.specs.Told.{told_from}
use Rattle.runsteps.specs.Standing.{Kept, Standing}
use Rattle.run.specs.Outcome.{begun}

module _ (run : List ℕ) where
  -- At place p of the run, with `out` numbers answered: the lent state is a tree's, and the calls from p on, answered from it, end with
  -- `count` numbers answered and the lent bytes `final`.
  pub record Running (p out : ℕ) (h : SamplerPlusTree) (k : Kept) (answers final : List ℕ) (count : ℕ) : Type 0 where
    pub world : Sampled (whole (channels run))
    pub calls : List (RunCall (channels run))
    pub standing : Standing run world h k
    pub rest : rest_from run (channels run) p ≡ some calls
    pub room : 4 * count ≤ length answers
    pub numbers : out + widths (channels run) (capacity run) calls ≡ count
    pub finish : sets answers (4 * out) (bytes_of (told_from (channels run) (share run) world calls)) ≡ final

  -- what a step asks: that there is such an end
  pub record SomeRunning (p out : ℕ) (h : SamplerPlusTree) (k : Kept) (answers : List ℕ) : Type 0 where
    pub final : List ℕ
    pub count : ℕ
    pub running : Running p out h k answers final count

  -- Before the first call: the lent state is the fresh tree's, the calls after the making are cs, and all their answers find room.
  pub record Started (cs : List (RunCall (channels run))) (h : SamplerPlusTree) (k : Kept) (answers : List ℕ) : Type 0 where
    pub standing : Standing run (begun run) h k
    pub rest : rest_from run (channels run) (making_width run) ≡ some cs
    pub room : 4 * (1 + widths (channels run) (capacity run) cs) ≤ length answers

  pub record SomeStarted (h : SamplerPlusTree) (k : Kept) (answers : List ℕ) : Type 0 where
    pub calls : List (RunCall (channels run))
    pub started : Started calls h k answers

  -- The check of the calls after the making: they are in the layout, and `enough` says whether their answers find room.
  pub record Checks (enough : Bool) (answers : List ℕ) : Type 0 where
    pub calls : List (RunCall (channels run))
    pub rest : rest_from run (channels run) (making_width run) ≡ some calls
    pub enough_is : enough ≡ leb (1 + widths (channels run) (capacity run) calls) (length answers / 4)
