-- What an accepted making has been given. Assumes nothing.
use mathlib.Core.Path.{◌≡◌, refl}
use mathlib.Core.Bool.{Bool, true, false, cond}
use mathlib.Core.List.{List}
use Prim.Native.Nat.{ℕ, ◌≤◌}
use lib.Dec.{leb}
use lib.Ieee.{Float}
use Rattle.std.specs.Prelude.{Result, Ok, Err}
use Rattle.limits.specs.Limits.{capacity_limit}
use Rattle.cuttree.proofs.Tests.{by_cond, by-test, nonsense}
use Rattle.refusals.specs.declared.Refusal.{Refusal}
use Rattle.refusals.specs.declared.Refusal.TheVariants.{Channels, Capacity}
use Rattle.randomcuttree.specs.declared.RCFTree.{RCFTree}
use Rattle.randomcuttree.specs.Making.{channels_taken, capacity_taken, made_by}
use Rattle.treelist_text.specs.Output.{listed_by}
use Rattle.randomcuttree.proofs.Makings.{in_bounds}
use Rattle.samplerplustree.specs.declared.SamplerPlusTree.{SamplerPlusTree}
use Rattle.samplerplustree.specs.Making.{sampled_by}
use Rattle.runlayout.specs.Layout.{is_sampled, channels, capacity, share, initial}
use Rattle.run.specs.Outcome.{bare_made, made}

module _ (d c : ℕ) where
  abbrev pub Taken : Type 0
  Taken = (2 ≤ c) × (c ≤ capacity_limit)

  -- the first two tests
  tested : {A : Type 0} (x : Result A Refusal) (t : A) → cond (channels_taken d) (cond (capacity_taken c) x (Err Capacity)) (Err Channels) ≡ Ok t → Taken
  tested x t e = by-test (channels_taken d)
      (λ h. by-test (capacity_taken c)
      (λ g. in_bounds 2 capacity_limit c g)
      (λ g. let z = rw (h, g) at e in nonsense (cc)))
      (λ h. let z = rw h at e in nonsense (cc))

  pub taken : (s : Float) (tree : RCFTree) → made_by d c s ≡ Ok tree → Taken
  unfolding made_by
  taken s tree e = tested _ tree e

  pub taken_sampled : (s f : Float) (h : SamplerPlusTree) → sampled_by d c s f ≡ Ok h → Taken
  unfolding sampled_by
  taken_sampled s f h e = tested _ h e

  taken_bare : (s : Float) (m : Result RCFTree Refusal) (h : SamplerPlusTree) → made_by d c s ≡ m → bare_made m ≡ Ok h → Taken
  taken_bare s (Err r) h g e = nonsense (cc)
  taken_bare s (Ok t) h g e = taken s t g

-- of a run's making
pub taken_by : (run : List ℕ) (h : SamplerPlusTree) → made run ≡ Ok h → Taken (channels run) (capacity run)
taken_by run h e =
    let d = channels run in
    let c = capacity run in
    by_cond (λ (m : Result SamplerPlusTree Refusal). m ≡ Ok h → Taken d c) (is_sampled run) (sampled_by d c (share run) (initial run)) (bare_made (made_by d c (share run)))
    (λ _. taken_sampled d c (share run) (initial run) h) (λ _. taken_bare d c (share run) (made_by d c (share run)) h refl) e

-- a making that treelist takes is the tree's own
pub made_listed : (d c : ℕ) (s : Float) (tree : RCFTree) → listed_by d c s ≡ Ok tree → made_by d c s ≡ Ok tree
made_listed d c s tree = go (leb d 8)
  where
    go : (b : Bool) → cond b (made_by d c s) (Err Channels) ≡ Ok tree → made_by d c s ≡ Ok tree
    go true e = e
    go false e = cc
