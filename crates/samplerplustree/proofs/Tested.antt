-- What the test tells, read off what is lent, and in document 01's words of a state. Assumes nothing.
use Rattle.refusals.specs.declared.Refusal.TheVariants as Why
use Rattle.refusals.specs.declared.Refusal.{Refusal}
use Rattle.std.specs.Prelude.{Result, Ok, Err}
use mathlib.Core.Path.{◌≡◌, refl, ap, ◌∙◌}
use mathlib.Core.Bool.{Bool, true, false, cond, not, ◌&&◌}
use mathlib.Core.Option.{Option, none, some}
use mathlib.Core.List.{List, [], ◌∷◌}
use Prim.Native.Nat.{ℕ, ◌^◌, ◌≤◌, ◌<◌}
use native.Mathlib.Omega.{arith}
use lib.Dec.{T, eqb, leb, ltb}
use lib.ListN.{length, get_or}
use lib.Ieee.{Float, nan, inf, fin, binary32, fits, lt}
use borrow.Author.Tests.{le-leb, lt-leb, leb-false, eq-eqb, ne_eqb, lt-ltb, le-ltb}
use Rattle.limits.specs.Limits.{point_limit}
use Rattle.readings.specs.Number.{is_number}
use Rattle.readings.specs.Weight.{is_weight}
use Rattle.startingchance.specs.Chance.{starts_by}
use Rattle.startingchance.proofs.Ends.{empty_starts}
use Rattle.sampler.specs.Sample.{Entry}
use Rattle.cuttree.proofs.Tests.{by-test, clash}
use Rattle.wholetree.specs.Reading.{Reading}
use Rattle.wholetree.specs.Whole.{whole}
use Rattle.layout.specs.Layout.{Table, mark}
use Rattle.layout.proofs.Tabs.{entry_of}
use Rattle.sampledtree.specs.Sampled as Paper
use Rattle.sampledtree.specs.Sampled.{Sampled, against}
use Rattle.treestore.specs.Arrays.{NodeStore}
use Rattle.samplerplustree.specs.declared.SamplerPlusTree.{SamplerPlusTree}
use Rattle.samplerplustree.specs.declared.Offer.{Offer}
use Rattle.samplerplustree.specs.declared.Offer.TheVariants.{Passes, Begins, Evicts}
use Rattle.samplerplustree.specs.State.{SampledState, SomeSampled, head_of, weights_of}
use Rattle.samplerplustree.specs.Offers.{arrival_checked, starts_read, offer_read, said, offered, OfferTold, SomeOffered}

-- an f32 is a weight if it is a number
pub weight_is : (x : Float) → T (fits binary32 x) → is_weight x ≡ is_number x
unfolding is_weight is_number
weight_is nan f = refl
weight_is (inf s) f = refl
weight_is (fin s m e) f = go (fits binary32 (fin s m e)) (not (s && eqb m 0)) f
  where
    go : (a b : Bool) → T a → b ≡ (a && b)
    go true b t = refl
    go false b t = absurd t

-- ---- the refusals
module _ (h : SamplerPlusTree) (marks : List ℕ) (i : ℕ) (w : Float) (n : ℕ) where
  pub tells_5 : point_limit ≤ i → Err Why.IndexAbove ≡ arrival_checked h marks i w n
  unfolding arrival_checked
  tells_5 l = rw (le-leb point_limit i l) refl

  module _ (l : i < point_limit) where
    pub tells_9 : get_or marks i 0 ≡ 0 → Err Why.NeverWritten ≡ arrival_checked h marks i w n
    unfolding arrival_checked
    tells_9 m = rw (lt-leb point_limit i l, eq-eqb (get_or marks i 0) 0 m) refl

    module _ (m : get_or marks i 0 ≡ 0 → ⊥) where
      pub tells_14 : is_number w ≡ false → Err Why.BadWeight ≡ arrival_checked h marks i w n
      unfolding arrival_checked
      tells_14 g = rw (lt-leb point_limit i l, ne_eqb (get_or marks i 0) 0 m, g) refl

      module _ (g : is_number w ≡ true) (c : ℕ) (e : c ≡ h.tree.capacity) where
        pub tells_11 : n < c → Err Why.FewWords ≡ arrival_checked h marks i w n
        unfolding arrival_checked
        tells_11 f = rw (lt-leb point_limit i l, ne_eqb (get_or marks i 0) 0 m, g, ← e, lt-ltb n c f) refl

        pub tells_none : c ≤ n → Ok tt ≡ arrival_checked h marks i w n
        unfolding arrival_checked
        tells_none f = rw (lt-leb point_limit i l, ne_eqb (get_or marks i 0) 0 m, g, ← e, le-ltb n c f) refl

-- ---- whether it starts
module _ (h : SamplerPlusTree) (x : ℕ) where
  pub full_never : eqb h.sampler.current_size h.sampler.capacity ≡ true → false ≡ starts_read h x
  full_never e = rw e refl

  pub otherwise : eqb h.sampler.current_size h.sampler.capacity ≡ false → (r : Bool) → r ≡ starts_by x h.sampler.current_size h.sampler.capacity h.initial_accept_fraction → r ≡ starts_read h x
  otherwise e r f = rw e f

-- ---- the offer, read off what is lent
module _ (h : SamplerPlusTree) (marks : List ℕ) (weights : List Float) (i : ℕ) (w : Float) (x n : ℕ) where
  pub reads_refused : (r : Refusal) → Err r ≡ arrival_checked h marks i w n → Err r ≡ offer_read h marks weights i w x n
  unfolding offer_read
  reads_refused r K = rw (← K) refl

  module _ (K : Ok tt ≡ arrival_checked h marks i w n) where
    pub reads_begins : starts_read h x ≡ true → (Ok Begins) ≡ offer_read h marks weights i w x n
    unfolding offer_read
    reads_begins b = rw (← K, b) refl

    module _ (b : starts_read h x ≡ false) where
      pub reads_evicts : lt w (get_or weights 0 nan) ≡ true → (Ok Evicts) ≡ offer_read h marks weights i w x n
      unfolding offer_read
      reads_evicts e = rw (← K, b, e) refl

      pub reads_passes : lt w (get_or weights 0 nan) ≡ false → (Ok Passes) ≡ offer_read h marks weights i w x n
      unfolding offer_read
      reads_passes e = rw (← K, b, e) refl

-- ---- the same of a state
said_cond : (b : Bool) (e : ℕ) (ks : List Entry) → cond b (Ok Evicts) (Ok Passes) ≡ said (cond b (Paper.evicts e ks) Paper.passes)
said_cond true e ks = refl
said_cond false e ks = refl

module _ (c : ℕ) (f w : Float) (x : ℕ) where
  -- an empty sample always starts, so that the first weight is never asked of one
  sample_says : (ks : List Entry) → (not (eqb 0 c) && starts_by x 0 c f) ≡ true → (b : Bool) → (not (eqb (length ks) c) && starts_by x (length ks) c f) ≡ b
      → cond b (Ok Begins) (cond (lt w (get_or (weights_of ks) 0 nan)) (Ok Evicts) (Ok Passes)) ≡ said (cond b Paper.begins (against ks w))
  sample_says ks H true e = refl
  sample_says [] H false e = clash _ H e
  sample_says (k ∷ ks) H false e = said_cond (lt w k.weight) k.index _

module _ (d : ℕ) (s : Float) (X : Sampled (whole d)) (h : SamplerPlusTree) (a : NodeStore) (points : List (List Float)) (marks : List ℕ) (weights : List Float) (held : List ℕ) (S : SampledState d s X h a points marks weights held) (i : ℕ) (w : Float) (x n : ℕ) (small : x < 2 ^ 64) where
  marked : i < point_limit → get_or marks i 0 ≡ mark (X.world.table i)
  marked l = entry_of point_limit (λ (j : ℕ). mark (X.world.table j)) marks (ap (λ (t : Table). t.written) S.tree_is.table_is) 0 i l

  starts_empty : (not (eqb 0 X.capacity) && starts_by x 0 X.capacity X.initial) ≡ true
  starts_empty =
      let l = S.tree_is.limits in
      rw (ne_eqb 0 X.capacity (λ e. omega (arith, l.2)), empty_starts x X.capacity X.initial small (omega (arith, l.2)) (omega (arith, l.3)) S.initial_is) refl

  told_written : (o : Option Reading) → X.world.table i ≡ o → leb point_limit i ≡ false → offer_read (head_of d s X) marks (weights_of X.sample) i w x n ≡ offered d X i w x n
  unfolding offer_read arrival_checked offered
  told_written none T l = let m : get_or marks i 0 ≡ 0 = marked (leb-false point_limit i l) ∙ ap mark T in rw (l, m, T) refl
  told_written (some p) T l =
      let m : get_or marks i 0 ≡ 1 = marked (leb-false point_limit i l) ∙ ap mark T in
      by-test (is_number w)
      (λ g. by-test (ltb n X.capacity)
      (λ f. rw (l, m, T, g, f) refl)
      (λ f. rw (l, m, T, g, f) (sample_says X.capacity X.initial w x X.sample starts_empty _ refl)))
      (λ g. rw (l, m, T, g) refl)

  told_state : offer_read (head_of d s X) marks (weights_of X.sample) i w x n ≡ offered d X i w x n
  unfolding offer_read arrival_checked offered
  told_state = by-test (leb point_limit i) (λ e. rw e refl) (λ e. told_written (X.world.table i) refl e)

pub offer_told : (h : SamplerPlusTree) (marks : List ℕ) (weights : List Float) (i : ℕ) (w : Float) (x n : ℕ) (r : Result Offer Refusal) → x < 2 ^ 64 → r ≡ offer_read h marks weights i w x n → OfferTold h marks weights i w x n r
offer_told h marks weights i w x n r small e = record {
  read = e;
  told = λ d s X a points held S. e ∙ ap (λ z. offer_read z marks weights i w x n) S.head_is ∙ ap (λ z. offer_read (head_of d s X) marks z i w x n) S.weights_are ∙ told_state d s X h a points marks weights held S i w x n small;
}

-- what was told of the lent state is what acting on it asks for
pub some_offered : (h : SamplerPlusTree) (o : Result Offer Refusal) (a : NodeStore) (points : List (List Float)) (marks : List ℕ) (weights : List Float) (held : List ℕ) (i : ℕ) (w : Float) (x n : ℕ) → OfferTold h marks weights i w x n o → SomeSampled h a points marks weights held
    → SomeOffered h o a points weights held i w n
some_offered h o a points marks weights held i w x n told S = record { channels = S.channels; share = S.share; world = S.world; marks = marks; chance = x; state = S.state; offer_is = told.told S.channels S.share S.world a points held S.state }
