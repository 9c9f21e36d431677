-- An arrival as a step of a run. Laws.
use mathlib.Core.Path.{◌≡◌, refl, sym, ap, ◌∙◌, subst}
use mathlib.Core.Bool.{Bool, true, false}
use mathlib.Core.List.{List}
use Prim.Native.Nat.{ℕ, ◌+◌, ◌*◌, ◌≤◌}
use native.Mathlib.Omega.{arith}
use lib.ListN.{length, take}
use lib.Ieee.{Float, binary32, of_bits}
use lib.Seq.{sets}
use Rattle.little.specs.Little.{bytes_of}
use Rattle.cuttree.proofs.Tests.{clash}
use Rattle.wholetree.specs.Whole.{whole}
use Rattle.sampledtree.specs.Sampled.{Sampled, SampledAnswer, arrive, call}
use Rattle.treestore.specs.Arrays.{NodeStore}
use Rattle.randomcuttree.specs.declared.RCFTree.{RCFTree}
use Rattle.randomcuttree.specs.State.{State}
use Rattle.samplerplustree.specs.declared.SamplerPlusTree.{SamplerPlusTree}
use Rattle.samplerplustree.specs.State.{SampledState}
use Rattle.arrivals.specs.Arrived.{Arrived, Arrives, ReadsWords}
use Rattle.runlayout.specs.Layout.{RunCall, arrives, is_call, number, double, is_sampled, channels, capacity, share, arrival_words_at, call_at, stands_at}
use Rattle.runlayout.specs.Check.{width_of_kind}
use Rattle.runlayout.proofs.Rest.{is_call_lem}
use Rattle.runsteps.specs.Told.{told, left}
use Rattle.runsteps.specs.Standing.{Kept, kept, Standing}
use Rattle.runsteps.specs.Steps.{Room, room, words_left, room_left, Stepped}
use Rattle.runsteps.proofs.Widths.{length_told}
use Rattle.runsteps.proofs.Capacity.{arrival_keeps}
use Rattle.runsteps.proofs.Replies.{reply_long, first_numbers}

-- of a sampled tree's state, that of its tree
pub tree_state : (d : ℕ) (s : Float) (X : Sampled (whole d)) (h : SamplerPlusTree) (a : NodeStore) (points : List (List Float)) (marks : List ℕ) (weights : List Float) (held : List ℕ) → SampledState d s X h a points marks weights held
    → State d X.capacity s X.world h.tree a points marks
tree_state d s X h a points marks weights held S = subst (λ (t : RCFTree). State d X.capacity s X.world t a points marks) (sym (ap (λ (x : SamplerPlusTree). x.tree) S.head_is)) S.tree_is

-- kinds 6 and 11 stand in sampled runs alone
pub sampled_by_lem : (run : List ℕ) (p k : ℕ) → is_call false k ≡ false → number run p ≡ k → stands_at run p ≡ true → is_sampled run ≡ true
sampled_by_lem run p k f e h = go (is_sampled run) (subst (λ (n : ℕ). is_call (is_sampled run) n ≡ true) e (is_call_lem run p h))
  where
    go : (b : Bool) → is_call b k ≡ true → b ≡ true
    go true x = refl
    go false x = clash (is_call false k) x f

module _ (run : List ℕ) (p : ℕ) (six : number run p ≡ 6) where
  abbrev at : RunCall (channels run)
  at = arrives (number run (p + 1)) (of_bits binary32 (number run (p + 2))) (double run (p + 3)) (arrival_words_at run p)

  there : call_at run (channels run) p ≡ at
  there = rw six refl

  pub arrival_room : (w out : ℕ) (answers : List ℕ) → w ≡ width_of_kind (channels run) (capacity run) (number run p) (number run (p + 1)) → 4 * (out + w) ≤ length answers → 4 * (out + 4) ≤ length answers
  unfolding width_of_kind
  arrival_room w out answers e h = omega (arith, h, rw six at e)

  module _ (stands : stands_at run p ≡ true) where
    pub sampled : is_sampled run ≡ true
    sampled = sampled_by_lem run p 6 refl six stands

    module _ (out : ℕ) (h : SamplerPlusTree) (k : Kept) (r : Room) (h' : SamplerPlusTree) (a : NodeStore) (weights : List Float) (held words reply answers : List ℕ)
        (does : Arrives (number run (p + 1)) (of_bits binary32 (number run (p + 2))) (double run (p + 3)) (arrival_words_at run p) h k.arrays k.points k.marks k.weights k.held h' a weights held reply)
        (reads : ReadsWords (number run (p + 1)) (of_bits binary32 (number run (p + 2))) (double run (p + 3)) (arrival_words_at run p) h k.arrays k.points k.marks k.weights k.held r.words words) (X : Sampled (whole (channels run))) (S : Standing run X h k) where
      abbrev y : SampledAnswer (whole (channels run)) × Sampled (whole (channels run))
      y = call (whole (channels run)) X (arrive (number run (p + 1)) (of_bits binary32 (number run (p + 2))) (double run (p + 3)) (arrival_words_at run p))

      done : Arrived (channels run) (share run) y h' a k.points k.marks weights held reply
      done = does (channels run) (share run) X (S.sample_is sampled)

      words_are : words ≡ words_left (channels run) (share run) X at r.words
      words_are = reads (channels run) (share run) X (S.sample_is sampled)

      pub few : 4 ≤ length reply
      few = omega (arith, reply_long reply (told (channels run) (share run) X at) done.reply_is)

      pub stepped : answers ≡ sets r.answers (4 * out) (bytes_of (take 4 reply)) → Stepped run p out X r h' (kept a k.points k.marks weights held) (room words reply r.rows answers)
      stepped f =
          let first : take 4 reply ≡ told (channels run) (share run) X at = first_numbers reply (told (channels run) (share run) X at) 4 done.reply_is (length_told (channels run) (share run) X at) (omega arith) in
          record {
            standing = subst (λ (e : RunCall (channels run)). Standing run (left (channels run) (share run) X e) h' (kept a k.points k.marks weights held)) (sym there) (record {
              capacity_is = arrival_keeps (channels run) X (number run (p + 1)) (of_bits binary32 (number run (p + 2))) (double run (p + 3)) (arrival_words_at run p) ∙ S.capacity_is;
              tree_is = tree_state (channels run) (share run) y.1 h' a k.points k.marks weights held done.state;
              sample_is = λ _. done.state;
            });
            room_is = subst (λ (e : RunCall (channels run)). room words reply r.rows answers ≡ room_left (channels run) (share run) out X e r) (sym there) (rw (words_are, f, first, done.reply_is) refl);
          }
