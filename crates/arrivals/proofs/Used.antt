-- The walk between an arrival's steps: what it leaves of the path, that it tells how many of the words are looked at, and that no others are. Assumes nothing.
use Rattle.refusals.specs.declared.Refusal.{Refusal}
use Rattle.std.specs.Prelude.{Result, Ok, Err}
use mathlib.Core.Path.{◌≡◌, refl, sym, ap, ◌∙◌}
use mathlib.Core.Bool.{true, false}
use mathlib.Core.List.{List}
use Prim.Native.Nat.{ℕ, ◌<◌}
use native.Mathlib.Omega.{arith}
use lib.ListN.{length, get_or, take}
use lib.Seq.{get_or-take}
use lib.Ieee.{Float}
use Rattle.cuttree.specs.Run.{World}
use Rattle.cuttree.proofs.Tests.{by-test, clash, cond_true, cond_false}
use Rattle.wholetree.specs.Whole.{whole}
use Rattle.sampledtree.specs.Sampled.{Sampled, admitted, arrive, call}
use Rattle.treestore.specs.declared.Found.{Found}
use Rattle.treestore.specs.Arrays.{NodeStore}
use Rattle.samplerplustree.specs.declared.Remaining.{Remaining}
use Rattle.samplerplustree.specs.declared.Offer.{Offer}
use Rattle.samplerplustree.specs.declared.Offer.TheVariants.{Passes, Begins, Evicts}
use Rattle.samplerplustree.specs.Offers.{offered}
use Rattle.samplerplustree.specs.Paths.{path_to}
use Rattle.samplerplustree.specs.Entering.{takes, world_remaining, entries_remaining, RemainingState, path_left, SeesBy}
use Rattle.samplerplustree.proofs.Parts.{tree_of}
use Rattle.samplerplustree.proofs.Paths.{by_seen, path_seen}
use Rattle.samplerplustree.proofs.Entered.{evicted_by, Ready, ready, written_remaining}
use Rattle.arrivals.specs.Words.{walk_in, words_used}
use Rattle.arrivals.specs.Arrived.{path_arrived}
use Rattle.arrivals.proofs.Enough.{add_within}
use Rattle.arrivals.proofs.Alike.{untaken_alike}

-- an offer that doesn't take the arrival evicts nothing
path_untaken : (d : ℕ) (X : Sampled (whole d)) (o : Result Offer Refusal) (path : List (List ℕ)) → takes o ≡ false → path_left d X o path ≡ path
path_untaken d X (Err n) path t = refl
path_untaken d X (Ok Passes) path t = refl
path_untaken d X (Ok Begins) path t = clash true refl t
path_untaken d X (Ok Evicts) path t = clash true refl t

module _ {d : ℕ} {s : Float} {X : Sampled (whole d)} {o : Result Offer Refusal} {l : Remaining} {a : NodeStore} {points : List (List Float)} {marks : List ℕ} {weights : List Float} {held : List ℕ} (L : RemainingState d s X o l a points marks weights held)
    (i : ℕ) (w : Float) (x n : ℕ) (told : o ≡ offered d X i w x n) where
  abbrev W : World (whole d)
  W = world_remaining d X o

  pub used_is : {before path : List (List ℕ)} {f : Found} → SeesBy l o a.nodes a.cuts points i before f path → f.walk ≡ words_used d X i o
  used_is {before} {path} {f} F = by-test (takes o)
      (λ t. let (p, P) = written_remaining d X i w n L.agrees x o told t in by_seen (tree_of L.arrays) P (F.taken t) (λ q r. f.walk ≡ walk_in (whole d) q r) (λ e. ap (λ (r : Found). r.walk) e.0) (λ u G. G.walked.count) ∙ sym (cond_true (takes o) _ 0 t))
      (λ t. ap (λ (r : Found). r.walk) (F.untaken t).0 ∙ sym (cond_false (takes o) _ 0 t))

  pub path_arrived_lem : (before : List (List ℕ)) {between path : List (List ℕ)} {f : Found} → between ≡ path_left d X o before → SeesBy l o a.nodes a.cuts points i between f path → path ≡ path_arrived d X i o before
  path_arrived_lem before e F = by-test (takes o)
      (λ t. let (p, P) = written_remaining d X i w n L.agrees x o told t in path_seen (tree_of L.arrays) P (F.taken t) ∙ ap (path_to d X.capacity W i) e ∙ sym (cond_true (takes o) _ before t))
      (λ t. (F.untaken t).1 ∙ e ∙ path_untaken d X o before t ∙ sym (cond_false (takes o) _ before t))

  -- ---- that no others are looked at
  module _ (first ws : List ℕ) (long : length first ≡ n) (long' : length ws ≡ n) where
    alike_below : (m : ℕ) → take m first ≡ take m ws → (j : ℕ) → j < m → get_or first j 0 ≡ get_or ws j 0
    alike_below m y j l = sym (get_or-take m first j 0 l) ∙ ap (λ (z : List ℕ). get_or z j 0) y ∙ get_or-take m ws j 0 l

    pub enough : take (words_used d X i o) first ≡ take (words_used d X i o) ws → call (whole d) X (arrive i w x first) ≡ call (whole d) X (arrive i w x ws)
    enough y = by-test (takes o)
        (λ t.
        let A : Ready d X i w first o (call (whole d) X (arrive i w x first)) = ready d X i w first L.agrees x o (told ∙ ap (offered d X i w x) (sym long)) t in
        let B : Ready d X i w ws o (call (whole d) X (arrive i w x ws)) = ready d X i w ws L.agrees x o (told ∙ ap (offered d X i w x) (sym long')) t in
        let m = walk_in (whole d) W.tree (W.table i) in
        let P = A.is_written in
        A.is_call_lem
        ∙ ap (admitted (whole d) X (entries_remaining o X.sample) (evicted_by o X.sample) w) (add_within (whole d) X.capacity m first ws (alike_below m (rw t at y)) (long ∙ sym long') W i A.point P (rw P (omega arith)))
        ∙ sym B.is_call_lem)
        (λ t. untaken_alike d X i w x n first ws (sym (ap takes told) ∙ t) long long')
