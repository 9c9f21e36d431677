-- A making, place by place: which number or header it answers, and that an accepted one leaves the state of a fresh sampled tree. Assumes nothing.
use Rattle.refusals.specs.declared.Refusal.TheVariants as Why
use Rattle.refusals.specs.declared.Refusal.{Refusal}
use Rattle.std.specs.Prelude.{Result, Ok, Err}
use mathlib.Core.Path.{◌≡◌, refl, sym, ap, ◌∙◌, subst}
use mathlib.Core.Bool.{Bool, true, false, cond, ◌&&◌}
use mathlib.Core.List.{List, []}
use Prim.Native.Nat.{ℕ}
use native.Mathlib.Omega.{arith}
use lib.ListN.{replicate}
use lib.Ieee.{Float}
use Rattle.limits.specs.Limits.{capacity_limit}
use Rattle.readings.specs.Share.{is_share}
use Rattle.readings.specs.Number.{nought}
use Rattle.cuttree.proofs.Tests.{nonsense}
use Rattle.wholetree.specs.Whole.{whole}
use Rattle.sampledtree.proofs.Keeps.{fresh_agrees}
use Rattle.sampler.specs.declared.Sampler.{Sampler}
use Rattle.treestore.specs.Arrays.{NodeStore}
use Rattle.randomcuttree.specs.declared.RCFTree.{RCFTree}
use Rattle.randomcuttree.specs.Making.{channels_taken, capacity_taken, empty_tree, made_by, cleared, lent_by, MakeDone}
use Rattle.samplerplustree.specs.declared.SamplerPlusTree.{SamplerPlusTree}
use Rattle.samplerplustree.specs.State.{sampler_of}
use Rattle.samplerplustree.specs.Making.{empty_sampled, sampled_by, refusal_by, all_taken, SampledMade}

-- ---- the number told where the initial share is refused
module _ (d c : ℕ) (s : Float) where
  pub tells_1 : channels_taken d ≡ false → Why.Channels ≡ refusal_by d c s
  unfolding refusal_by
  tells_1 h = rw h refl

  pub tells_2 : channels_taken d ≡ true → capacity_taken c ≡ false → Why.Capacity ≡ refusal_by d c s
  unfolding refusal_by
  tells_2 D h = rw (D, h) refl

  pub tells_3 : channels_taken d ≡ true → capacity_taken c ≡ true → is_share s ≡ false → Why.CachedShare ≡ refusal_by d c s
  unfolding refusal_by
  tells_3 D C h = rw (D, C, h) refl

  pub tells_4 : channels_taken d ≡ true → capacity_taken c ≡ true → is_share s ≡ true → Why.InitialShare ≡ refusal_by d c s
  unfolding refusal_by
  tells_4 D C h = rw (D, C, h) refl

module _ (d c : ℕ) (s f : Float) (a : NodeStore) (weights : List Float) (held : List ℕ) where
  abbrev bad : Refusal → Result SamplerPlusTree Refusal
  bad n = Err n

  abbrev made_of : SamplerPlusTree → Result SamplerPlusTree Refusal
  made_of h = Ok h

  -- ---- refused: nothing is written
  refuse : (n : Refusal) → Err n ≡ sampled_by d c s f → all_taken d c s f ≡ false → SampledMade d c s f a a weights weights held held (Err n)
  refuse n e t = record { answer = e; arrays = rw t refl; weights_are = rw t refl; held_are = rw t refl; state = λ h z. nonsense (cc) }

  -- whichever of four tests fails, the number is the first one's
  pub share_refused : is_share f ≡ false → (n : Refusal) → n ≡ refusal_by d c s → SampledMade d c s f a a weights weights held held (Err n)
  unfolding refusal_by sampled_by
  share_refused F n e = refuse n (ap bad e ∙ go (channels_taken d) (capacity_taken c) (is_share s)) (none_taken (channels_taken d) (capacity_taken c) (is_share s))
    where
      go : (x y z : Bool) → bad (cond x (cond y (cond z Why.InitialShare Why.CachedShare) Why.Capacity) Why.Channels)
          ≡ cond x (cond y (cond z (cond (is_share f) (Ok (empty_sampled d c s f)) (Err Why.InitialShare)) (Err Why.CachedShare)) (Err Why.Capacity)) (Err Why.Channels)
      go false y z = refl
      go true false z = refl
      go true true false = refl
      go true true true = rw F refl

      none_taken : (x y z : Bool) → (x && (y && (z && is_share f))) ≡ false
      none_taken false y z = refl
      none_taken true false z = refl
      none_taken true true false = refl
      none_taken true true true = F

  module _ (F : is_share f ≡ true) (b : NodeStore) (r : Result RCFTree Refusal) (M : MakeDone d c s a b r) where
    pub tree_refused : (n : Refusal) → r ≡ Err n → SampledMade d c s f a b weights weights held held (Err n)
    unfolding made_by lent_by sampled_by
    tree_refused n e =
        let y = go (channels_taken d) (capacity_taken c) (is_share s) (sym e ∙ M.answer) in
        let same : b ≡ a = M.arrays ∙ ap (λ (t : Bool). cond t (cleared c) a) y.1 in
        subst (λ z. SampledMade d c s f a z weights weights held held (Err n)) (sym same) (refuse n y.0 y.2)
      where
        go : (x y z : Bool) → Err n ≡ cond x (cond y (cond z (Ok (empty_tree d c s)) (Err Why.CachedShare)) (Err Why.Capacity)) (Err Why.Channels)
            → (Err n ≡ cond x (cond y (cond z (cond (is_share f) (Ok (empty_sampled d c s f)) (Err Why.InitialShare)) (Err Why.CachedShare)) (Err Why.Capacity)) (Err Why.Channels))
            × ((x && (y && z)) ≡ false) × ((x && (y && (z && is_share f))) ≡ false)
        go false y z h = ((cc), refl, refl)
        go true false z h = ((cc), refl, refl)
        go true true false h = ((cc), refl, refl)
        go true true true h = nonsense (cc)

    module _ (tree : RCFTree) (e : r ≡ Ok tree) (sampler : Sampler) (weights' : List Float) (held' : List ℕ) (k : sampler ≡ record { capacity = tree.capacity; current_size = 0 }) (w : weights' ≡ replicate capacity_limit nought) (p : held' ≡ replicate capacity_limit 0) where
      abbrev head : SamplerPlusTree
      head = record { tree = tree; sampler = sampler; initial_accept_fraction = f }

      taken : (tree ≡ empty_tree d c s) × ((channels_taken d ≡ true) × (capacity_taken c ≡ true) × (is_share s ≡ true))
      unfolding made_by
      taken = go (channels_taken d) (capacity_taken c) (is_share s) (sym e ∙ M.answer)
        where
          go : (x y z : Bool) → Ok tree ≡ cond x (cond y (cond z (Ok (empty_tree d c s)) (Err Why.CachedShare)) (Err Why.Capacity)) (Err Why.Channels)
              → (tree ≡ empty_tree d c s) × ((x ≡ true) × (y ≡ true) × (z ≡ true))
          go false y z h = nonsense (cc)
          go true false z h = nonsense (cc)
          go true true false h = nonsense (cc)
          go true true true h = ((cc), (refl, refl, refl))

      head_is : head ≡ empty_sampled d c s f
      head_is = ap (λ (z : Sampler). record { tree = tree; sampler = z; initial_accept_fraction = f }) k ∙ ap (λ (z : RCFTree). record { tree = z; sampler = sampler_of z.capacity []; initial_accept_fraction = f }) taken.0

      pub made : SampledMade d c s f a b weights weights' held held' (Ok head)
      unfolding lent_by sampled_by
      made =
          let (D, C, E) = taken.1 in
          record {
            answer = rw (D, C, E, F) (ap made_of head_is);
            arrays = rw (D, C, E, F) (rw (D, C, E) at M.arrays);
            weights_are = rw (D, C, E, F) w;
            held_are = rw (D, C, E, F) p;
            state = λ h z points marks t.
                let S = M.state tree e points marks t in
                let same : h ≡ head = cc in
                record {
                  head_is = same ∙ head_is;
                  tree_is = rw taken.0 at S;
                  weights_are = w;
                  held_are = p;
                  agrees = fresh_agrees (whole d) c f S.limits.2 (omega (arith, S.limits.3));
                  initial_is = F;
                };
          }
