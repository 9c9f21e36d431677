-- What a call of each kind leaves of the path and the chances, as a step of a run. Laws.
use mathlib.Core.Path.{◌≡◌, refl, sym, subst}
use mathlib.Core.Bool.{true}
use mathlib.Core.List.{List}
use Prim.Native.Nat.{ℕ, ◌+◌}
use lib.Dec.{eqb}
use lib.Ieee.{Float, binary32, of_bits}
use borrow.Author.Tests.{ne_eqb}
use Rattle.cuttree.proofs.Tests.{by-test}
use Rattle.wholetree.specs.Whole.{whole}
use Rattle.sampledtree.specs.Sampled.{Sampled}
use Rattle.samplerplustree.specs.declared.SamplerPlusTree.{SamplerPlusTree}
use Rattle.nodeview.specs.Walking.{MemoryLeft}
use Rattle.arrivals.specs.Arrived.{WalksPath}
use Rattle.runlayout.specs.Layout.{RunCall, plain, arrives, reports, sample, number, double, channels, share, coordinates_at, arrival_words_at, plain_at, call_at, stands_at}
use Rattle.runsteps.specs.Standing.{Kept, Standing}
use Rattle.runsteps.specs.Steps.{WorkLeft, Works}
use Rattle.runsteps.proofs.Arrival.{sampled}

module _ (run : List ℕ) (p : ℕ) (h : SamplerPlusTree) (k : Kept) (path : List (List ℕ)) (chances : List Float) (path' : List (List ℕ)) (chances' : List Float) where
  by_call : (e : RunCall (channels run)) → call_at run (channels run) p ≡ e → ((X : Sampled (whole (channels run))) → Standing run X h k → WorkLeft (channels run) h.tree.cached k.arrays.boxes X e path chances path' chances')
      → Works run p h k path chances path' chances'
  by_call e there f X S = subst (λ (x : RunCall (channels run)). WorkLeft (channels run) h.tree.cached k.arrays.boxes X x path chances path' chances') (sym there) (f X S)

  pub arrival_works : number run p ≡ 6 → stands_at run p ≡ true → WalksPath (number run (p + 1)) (of_bits binary32 (number run (p + 2))) (double run (p + 3)) (arrival_words_at run p) h k.arrays k.points k.marks k.weights k.held path path' → chances' ≡ chances
      → Works run p h k path chances path' chances'
  arrival_works six stands w f = by_call (arrives (number run (p + 1)) (of_bits binary32 (number run (p + 2))) (double run (p + 3)) (arrival_words_at run p)) (rw six refl) (λ X S. (w (channels run) (share run) X (S.sample_is (sampled run p six stands)), f))

  pub report_works : number run p ≡ 7 → MemoryLeft h.tree k.arrays.nodes k.arrays.cuts k.arrays.copies k.points k.arrays.boxes (coordinates_at run p) path chances path' chances' → Works run p h k path chances path' chances'
  report_works seven left = by_call (reports (number run (p + 1)) (coordinates_at run p)) (rw seven refl) (λ X S. left (channels run) X.capacity (share run) X.world k.arrays k.marks S.tree_is (record { nodes_are = refl; cuts_are = refl; copies_are = refl; boxes_are = refl }))

  -- any other call is lent neither
  pub other_works : (number run p ≡ 6 → ⊥) → (number run p ≡ 7 → ⊥) → path' ≡ path → chances' ≡ chances → Works run p h k path chances path' chances'
  other_works x y e f = by-test (eqb (number run p) 11)
      (λ z. by_call sample (rw (ne_eqb (number run p) 6 x, ne_eqb (number run p) 7 y, z) refl) (λ X S. (e, f)))
      (λ z. by_call (plain (plain_at run (channels run) p)) (rw (ne_eqb (number run p) 6 x, ne_eqb (number run p) 7 y, z) refl) (λ X S. (e, f)))
