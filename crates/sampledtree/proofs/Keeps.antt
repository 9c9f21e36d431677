-- A making leaves a sampled tree that agrees with its sample, and a put keeps it so.
use mathlib.Core.Path.{◌≡◌, refl, sym, ap, ◌∙◌}
use mathlib.Core.Bool.{false, not, cond}
use mathlib.Core.Option.{Option, none, some}
use mathlib.Core.List.{List, [], ◌∷◌}
use Prim.Native.Nat.{ℕ, ◌+◌}
use native.Mathlib.Omega.{arith}
use lib.Dec.{eqb, leb, ltb}
use lib.Ieee.{Float}
use Rattle.sampler.specs.Heap.{total}
use Rattle.sampler.specs.Sample.{Entry}
use Rattle.cuttree.specs.Setting.{Setting, Laws}
use Rattle.cuttree.specs.Tree.{Tree, sum_of}
use Rattle.cuttree.specs.Run as Bare
use Rattle.cuttree.specs.Run.{World, Answer, write, is_leaf, total_of}
use Rattle.cuttree.proofs.Tests.{by_cond, nonsense}
use Rattle.cuttree.proofs.Refused.{by_put}
use Rattle.cuttree.proofs.Room.{indexed, at_none}
use Rattle.cuttree.proofs.Keeps.{sound_call, inv_fresh}
use borrow.Author.Tests.{ltb-false}
use Rattle.sampledtree.specs.Sampled.{Sampled, put, call}
use Rattle.sampledtree.specs.Arrivals.{occurs, valued, kept_of, Agrees, EveryPut, FreshAgrees}

module _ (S : Setting) where
  open S use {Point, Raw, same, counted, good, point, indices}

  -- what is written for an index that no entry keeps is not asked for
  kept_write : (f : ℕ → Option Point) (i : ℕ) (p : Point) (ks : List Entry) (v : Point) → occurs ks i ≡ 0 → kept_of S (write S f i p) ks v ≡ kept_of S f ks v
  unfolding total
  kept_write f i p [] v h = refl
  kept_write f i p (k ∷ ks) v h = by_cond (λ (o : Option Point). valued S o v + kept_of S (write S f i p) ks v ≡ valued S (f k.index) v + kept_of S f ks v) (eqb k.index i) (some p) (f k.index)
      (λ e. nonsense (let z = rw e at h in omega (arith, z)))
      (λ _. ap (λ (n : ℕ). valued S (f k.index) v + n) (kept_write f i p ks v (omega (arith, h))))

  none_kept : (i : ℕ) (o : Option (Tree S)) → is_leaf S o i ≡ false → sum_of S (λ a q n. cond (eqb a i) n 0) (λ b. 0) o ≡ 0
  none_kept i none e = refl
  none_kept i (some t) e = at_none S (λ n. n) t i (omega (arith, ltb-false 0 (indexed S t i) e))

  module _ (L : Laws S) (X : Sampled S) (i : ℕ) (x : Raw) (A : Agrees S X) where
    abbrev SameTree : Answer S × World S → Type 0
    SameTree y = (y.1.tree ≡ X.world.tree) × (y.1.free ≡ X.world.free)

    same_tree : SameTree (Bare.call S X.capacity X.world (Bare.put i x))
    same_tree = by_put S X.capacity SameTree X.world (λ _. (refl, refl)) i x (λ U e. e)

    abbrev SameValues : Point → Answer S × World S → Type 0
    SameValues v y = kept_of S y.1.table X.sample v ≡ kept_of S X.world.table X.sample v

    same_values : (v : Point) → SameValues v (Bare.call S X.capacity X.world (Bare.put i x))
    same_values v = by_cond (SameValues v) (leb indices i) _ _ (λ _. refl) (λ _. by_cond (SameValues v) (not (counted x)) _ _ (λ _. refl) (λ _. by_cond (SameValues v) (not (good x)) _ _ (λ _. refl)
        (λ _. by_cond (SameValues v) (is_leaf S X.world.tree i) _ _ (λ _. refl) (λ e. kept_write X.world.table i (point x) X.sample v (sym (A.kept_are i) ∙ none_kept i X.world.tree e)))))

    put_agrees : Agrees S (call S X (put i x)).1
    put_agrees = record {
      sound = sound_call S X.capacity L X.world (Bare.put i x) A.sound;
      kept_are = λ j. ap (sum_of S _ _) same_tree.0 ∙ A.kept_are j;
      values_are = λ v. ap (sum_of S _ _) same_tree.0 ∙ A.values_are v ∙ sym (same_values v);
      total_is = ap (total_of S) same_tree.0 ∙ A.total_is;
      room = A.room;
      heap = A.heap;
      small = A.small;
    }

  pub every_put : Laws S → EveryPut S
  every_put L X i x A = put_agrees L X i x A

  pub fresh_agrees : FreshAgrees S
  unfolding total
  fresh_agrees c s h l = record { sound = (inv_fresh S c h).sound; kept_are = λ j. refl; values_are = λ v. refl; total_is = refl; room = omega arith; heap = record { each = λ n h. absurd (omega arith); ordered = λ n h l. absurd (omega arith) }; small = l }
