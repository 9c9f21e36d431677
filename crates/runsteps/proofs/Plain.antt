-- A put, an add, a delete or a query as a step of a run, on either kind of tree. Laws.
use mathlib.Core.Path.{◌≡◌, refl, sym, ap, ◌∙◌, subst}
use mathlib.Core.Bool.{Bool, true, false, cond}
use mathlib.Core.List.{List}
use Prim.Native.Nat.{ℕ, ◌+◌, ◌*◌, ◌≤◌}
use native.Mathlib.Omega.{arith}
use borrow.Author.Tests.{ne_eqb}
use lib.Dec.{eqb}
use lib.ListN.{length, take}
use lib.Ieee.{Float}
use lib.Seq.{sets}
use Rattle.limits.specs.Limits.{capacity_limit}
use Rattle.little.specs.Little.{bytes_of}
use Rattle.cuttree.specs.Run.{World, Call, put, add, delete, query, copies_of, branch_of, box_of}
use Rattle.cuttree.specs.Run as Bare
use Rattle.cuttree.proofs.Tests.{clash}
use Rattle.wholetree.specs.Whole.{whole}
use Rattle.wholetree.proofs.Laws.{whole_laws}
use Rattle.sampledtree.specs.Sampled.{Sampled, with_sample}
use Rattle.sampledtree.specs.Arrivals.{Agrees}
use Rattle.sampledtree.proofs.Keeps.{every_put}
use Rattle.treestore.specs.Arrays.{NodeStore}
use Rattle.randomcuttree.specs.declared.RCFTree.{RCFTree}
use Rattle.randomcuttree.specs.State.{State}
use Rattle.samplerplustree.specs.declared.SamplerPlusTree.{SamplerPlusTree}
use Rattle.samplerplustree.specs.State.{SampledState}
use Rattle.answers.specs.Said.{reply_width}
use Rattle.calls.specs.Done.{Done, Does}
use Rattle.runlayout.specs.Layout.{RunCall, plain, is_call, number, is_sampled, channels, capacity, share, coordinates_at, words_at, IsPlain, plain_at, call_at, stands_at}
use Rattle.runlayout.specs.Check.{plain_width, width_of, width_of_kind}
use Rattle.runlayout.proofs.ByKind.{by_kind, width_kind}
use Rattle.runlayout.proofs.Rest.{is_call_lem}
use Rattle.runcalls.specs.Words.{words_after}
use Rattle.runsteps.specs.Told.{told, left}
use Rattle.runsteps.specs.Standing.{Kept, kept, Standing}
use Rattle.runsteps.specs.Steps.{Room, room, words_left, room_left, Stepped}
use Rattle.runsteps.proofs.Widths.{length_told, width_most}
use Rattle.runsteps.proofs.Replies.{reply_long, first_numbers}

-- a sampled tree's state where its tree alone has moved
module _ (d : ℕ) (s : Float) (X : Sampled (whole d)) (h : SamplerPlusTree) (a : NodeStore) (points : List (List Float)) (marks : List ℕ) (weights : List Float) (held : List ℕ) (S : SampledState d s X h a points marks weights held) where
  moved : (W : World (whole d)) (tree : RCFTree) (a' : NodeStore) (points' : List (List Float)) (marks' : List ℕ) → State d X.capacity s W tree a' points' marks' → Agrees (whole d) (with_sample (whole d) X W X.sample)
      → SampledState d s (with_sample (whole d) X W X.sample) (record { tree = tree; sampler = h.sampler; initial_accept_fraction = h.initial_accept_fraction }) a' points' marks' weights held
  moved W tree a' points' marks' T A = record {
    head_is = rw (T.header_is, S.head_is) refl;
    tree_is = subst (λ (t : RCFTree). State d X.capacity s W t a' points' marks') T.header_is T;
    weights_are = S.weights_are;
    held_are = S.held_are;
    agrees = A;
    initial_is = S.initial_is;
  }

module _ (run : List ℕ) (p : ℕ) where
  abbrev d : ℕ
  d = channels run

  abbrev e : Call (whole (channels run))
  e = plain_at run (channels run) p

  -- of a kind k, the call at the place
  abbrev of_kind : ℕ → Call (whole (channels run))
  of_kind k =
      cond (eqb k 3) (put (number run (p + 1)) (coordinates_at run p))
      (cond (eqb k 4) (add (number run (p + 1)) (words_at run p))
      (cond (eqb k 5) (delete (number run (p + 1)))
      (cond (eqb k 8) (query (copies_of (number run (p + 1))))
      (cond (eqb k 9) (query (branch_of (number run (p + 1))))
      (query (box_of (number run (p + 1))))))))

  module _ (o : IsPlain (number run p)) (stands : stands_at run p ≡ true) where
    there : call_at run (channels run) p ≡ plain (plain_at run (channels run) p)
    there = rw (ne_eqb (number run p) 6 o.0, ne_eqb (number run p) 7 o.1, ne_eqb (number run p) 11 o.2)

    -- in a sampled run it is a put or a query, and tree and sample agree on
    agrees_on : (X : Sampled (whole (channels run))) → is_sampled run ≡ true → Agrees (whole (channels run)) X → Agrees (whole (channels run)) (with_sample (whole (channels run)) X (Bare.call (whole (channels run)) X.capacity X.world (plain_at run (channels run) p)).1 X.sample)
    agrees_on X z A =
        by_kind (λ (k : ℕ). is_call true k ≡ true → IsPlain k → Agrees (whole (channels run)) (with_sample (whole (channels run)) X (Bare.call (whole (channels run)) X.capacity X.world (of_kind k)).1 X.sample))
        (λ _ _. every_put (whole (channels run)) (whole_laws (channels run)) X (number run (p + 1)) (coordinates_at run p) A)
        (λ x _. clash false x refl)
        (λ x _. clash false x refl)
        (λ _ n. absurd (n.0 refl))
        (λ _ n. absurd (n.1 refl))
        (λ _ _. A) (λ _ _. A) (λ _ _. A)
        (λ _ n. absurd (n.2 refl))
        (is_sampled run) (number run p) (is_call_lem run p stands)
        (subst (λ (b : Bool). is_call b (number run p) ≡ true) z (is_call_lem run p stands)) o

    words_there : (X : Sampled (whole (channels run))) (words : List ℕ) → words_after run p words ≡ words_left (channels run) (share run) X (plain (plain_at run (channels run) p)) words
    words_there X words =
        by_kind (λ (k : ℕ). cond (eqb k 4) (sets words 0 (take capacity_limit (words_at run p))) words ≡ words_left (channels run) (share run) X (plain (of_kind k)) words)
        refl refl refl refl refl refl refl refl refl (is_sampled run) (number run p) (is_call_lem run p stands)

    module _ (out w : ℕ) (h : SamplerPlusTree) (k : Kept) (r : Room) (tree : RCFTree) (a : NodeStore) (points : List (List Float)) (marks words reply answers : List ℕ)
        (W : w ≡ width_of_kind (channels run) (capacity run) (number run p) (number run (p + 1)))
        (does : Does (λ d. plain_at run d p) h.tree k.arrays k.points k.marks tree a points marks reply)
        (words_are : words ≡ words_after run p r.words) (X : Sampled (whole (channels run))) (S : Standing run X h k) where
      done : Done (channels run) X.capacity (share run) X.world (plain_at run (channels run) p) tree a points marks reply
      done = does (channels run) X.capacity (share run) X.world S.tree_is

      width_is : w ≡ plain_width (channels run) (plain_at run (channels run) p)
      width_is = W ∙ sym (width_kind run (channels run) (capacity run) p (is_sampled run) (is_call_lem run p stands)) ∙ ap (width_of (channels run) (capacity run)) there

      fits : w ≤ reply_width
      fits = omega (arith, width_is, width_most (channels run) (plain_at run (channels run) p) S.tree_is.limits.1)

      pub few : w ≤ length reply
      few = omega (arith, fits, reply_long reply _ done.reply_is)

      first : take w reply ≡ told (channels run) (share run) X (plain (plain_at run (channels run) p))
      first = first_numbers reply _ w done.reply_is (length_told (channels run) (share run) X (plain (plain_at run (channels run) p)) ∙ sym width_is) fits

      pub stepped : answers ≡ sets r.answers (4 * out) (bytes_of (take w reply))
          → Stepped run p out X r (record { tree = tree; sampler = h.sampler; initial_accept_fraction = h.initial_accept_fraction }) (kept a points marks k.weights k.held) (room words reply r.rows answers)
      stepped f = record {
        standing = subst (λ (x : RunCall (channels run)). Standing run (left (channels run) (share run) X x) (record { tree = tree; sampler = h.sampler; initial_accept_fraction = h.initial_accept_fraction }) (kept a points marks k.weights k.held)) (sym there) (record {
          capacity_is = S.capacity_is;
          tree_is = done.state;
          sample_is = λ z. moved (channels run) (share run) X h k.arrays k.points k.marks k.weights k.held (S.sample_is z) _ tree a points marks done.state (agrees_on X z (S.sample_is z).agrees);
        });
        room_is = subst (λ (x : RunCall (channels run)). room words reply r.rows answers ≡ room_left (channels run) (share run) out X x r) (sym there) (rw (words_are, words_there X r.words, f, first, done.reply_is) refl);
      }
