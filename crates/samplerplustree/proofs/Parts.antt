-- A sampled tree's header, part by part. Assumes nothing.
use mathlib.Core.Path.{◌≡◌, sym, ap, ◌∙◌, subst}
use mathlib.Core.List.{List}
use Prim.Native.Nat.{ℕ, ◌≤◌}
use lib.ListN.{length}
use lib.Ieee.{Float}
use Rattle.limits.specs.Limits.{capacity_limit}
use Rattle.sampler.specs.declared.Sampler.{Sampler}
use Rattle.sampler.specs.Sample.{Entry}
use Rattle.cuttree.specs.Run as Bare
use Rattle.wholetree.specs.Whole.{whole}
use Rattle.sampledtree.specs.Sampled.{Sampled, with_sample}
use Rattle.treestore.specs.Arrays.{NodeStore}
use Rattle.randomcuttree.specs.declared.RCFTree.{RCFTree}
use Rattle.randomcuttree.specs.State.{State, header_of}
use Rattle.samplerplustree.specs.declared.SamplerPlusTree.{SamplerPlusTree}
use Rattle.samplerplustree.specs.State.{SampledState, head_of, sampler_of}
use Rattle.samplerplustree.specs.Entering.{SampledArrays}

module _ {d : ℕ} {s : Float} {X : Sampled (whole d)} {h : SamplerPlusTree} {a : NodeStore} {points : List (List Float)} {marks : List ℕ} {weights : List Float} {held : List ℕ} where
  module _ (S : SampledArrays d s X h a points marks weights held) where
    pub tree_of : State d X.capacity s X.world h.tree a points marks
    tree_of = subst (λ t. State d X.capacity s X.world t a points marks) (sym (ap (λ (y : SamplerPlusTree). y.tree) S.head_is)) S.tree_is

    pub size_is : h.sampler.current_size ≡ length X.sample
    size_is = ap (λ (y : SamplerPlusTree). y.sampler.current_size) S.head_is

    pub small : X.capacity ≤ capacity_limit
    small = S.tree_is.limits.3

  module _ (S : SampledState d s X h a points marks weights held) where
    pub arrays_of_lem : SampledArrays d s X h a points marks weights held
    arrays_of_lem = record { head_is = S.head_is; tree_is = S.tree_is; weights_are = S.weights_are; held_are = S.held_are }

    pub tree_state : State d X.capacity s X.world h.tree a points marks
    tree_state = tree_of arrays_of_lem

-- the header of another tree and sample
pub head_after : (d : ℕ) (s : Float) (X : Sampled (whole d)) (W : Bare.World (whole d)) (ks : List Entry) (t : RCFTree) (k : Sampler) (f : Float) → t ≡ header_of d X.capacity s W → k ≡ sampler_of X.capacity ks → f ≡ X.initial
    → record { tree = t; sampler = k; initial_accept_fraction = f } ≡ head_of d s (with_sample (whole d) X W ks)
head_after d s X W ks t k f e g m = ap (λ (y : RCFTree). record { tree = y; sampler = k; initial_accept_fraction = f }) e
    ∙ ap (λ (y : Sampler). record { tree = header_of d X.capacity s W; sampler = y; initial_accept_fraction = f }) g
    ∙ ap (λ (y : Float). record { tree = header_of d X.capacity s W; sampler = sampler_of X.capacity ks; initial_accept_fraction = y }) m
