-- A run from its making on: refused, without room, or begun with a fresh tree and an unwritten table. Laws.
use mathlib.Core.Path.{◌≡◌, refl, sym, ap, ◌∙◌, subst}
use mathlib.Core.Bool.{Bool, true, false}
use mathlib.Core.Option.{none}
use mathlib.Core.List.{List, [], ◌∷◌}
use Prim.Native.Nat.{ℕ, ◌+◌, ◌/◌, ◌≤◌, ◌<◌}
use native.Mathlib.Omega.{arith}
use lib.ListN.{length}
use lib.Ieee.{Float}
use borrow.Author.Tests.{leb-true, leb-false}
use Rattle.cuttree.proofs.Tests.{cond_true, cond_false, clash, nonsense}
use Rattle.wholetree.specs.Whole.{whole}
use Rattle.sampledtree.specs.Sampled.{Sampled, fresh}
use Rattle.layout.specs.Layout.{table_of}
use Rattle.treestore.specs.Arrays.{NodeStore}
use Rattle.randomcuttree.specs.declared.RCFTree.{RCFTree}
use Rattle.std.specs.Prelude.{Result, Ok, Err}
use Rattle.refusals.specs.declared.Refusal.{Refusal}
use Rattle.refusals.specs.Refusals.{number}
use Rattle.randomcuttree.specs.Making.{MakeDone}
use Rattle.samplerplustree.specs.declared.SamplerPlusTree.{SamplerPlusTree}
use Rattle.samplerplustree.specs.Making.{SampledMade}
use Rattle.runlayout.specs.Layout.{is_sampled, making_width, channels, capacity, share, initial}
use Rattle.runlayout.specs.Check.{widths}
use Rattle.runsteps.specs.Told.{told_from}
use Rattle.runsteps.specs.Standing.{kept, Standing}
use Rattle.runsteps.proofs.Arrival.{tree_state}
use Rattle.runsteps.proofs.Capacity.{length_all}
use Rattle.run.specs.Outcome.{given, as_sampled, bare_made, made, begun, answered}
use Rattle.run.specs.Running.{Checks, Started}
use Rattle.run.specs.Makes.{Makes}
use Rattle.run.proofs.Given.{given_short}

pub sampled_width : (run : List ℕ) → is_sampled run ≡ true → making_width run ≡ 7
sampled_width run z = cond_true (is_sampled run) 7 5 z

-- ---- the making, by what is read of the run: channels d, capacity c, share s and initial share f
module _ (run : List ℕ) (a : NodeStore) (weights : List Float) (held : List ℕ) (d c : ℕ) (s : Float) (D : d ≡ channels run) (C : c ≡ capacity run) (S : s ≡ share run) (before : NodeStore) where
  pub of_sampled : (f : Float) (weights₀ : List Float) (held₀ : List ℕ) (r : Result SamplerPlusTree Refusal) → f ≡ initial run → is_sampled run ≡ true → SampledMade d c s f before a weights₀ weights held₀ held r → Makes run a weights held r
  of_sampled f weights₀ held₀ r F z m =
      let M : SampledMade (channels run) (capacity run) (share run) (initial run) before a weights₀ weights held₀ held r = rw (D, C, S, F) at m in
      record {
        answer = M.answer ∙ sym (cond_true (is_sampled run) _ _ z);
        standing = λ h e points marks t.
            let T = M.state h e points marks t in
            let at : begun run ≡ fresh (whole (channels run)) (capacity run) (initial run) = ap (fresh (whole (channels run)) (capacity run)) (cond_true (is_sampled run) _ _ z) in
            subst (λ (X : Sampled (whole (channels run))). Standing run X h (kept a points marks weights held)) (sym at)
            (record { capacity_is = refl; tree_is = tree_state (channels run) (share run) _ h a points marks weights held T; sample_is = λ _. T });
      }

  -- the header of a bare tree that is made
  of_tree : (m : Result RCFTree Refusal) (h : SamplerPlusTree) → bare_made m ≡ Ok h → m ≡ Ok h.tree
  of_tree (Err r) h e = nonsense (cc)
  of_tree (Ok t) h e = let z : as_sampled t ≡ h = cc in let y : t ≡ h.tree = ap (λ (x : SamplerPlusTree). x.tree) z in cc

  pub of_bare : (m : Result RCFTree Refusal) (r : Result SamplerPlusTree Refusal) → r ≡ bare_made m → is_sampled run ≡ false → MakeDone d c s before a m → Makes run a weights held r
  of_bare m r R z q =
      let M : MakeDone (channels run) (capacity run) (share run) before a m = rw (D, C, S) at q in
      record {
        answer = R ∙ ap bare_made M.answer ∙ sym (cond_false (is_sampled run) _ _ z);
        standing = λ h e points marks t. record {
          capacity_is = refl;
          tree_is = M.state h.tree (of_tree m h (sym R ∙ e)) points marks t;
          sample_is = λ y. clash (is_sampled run) y z;
        };
      }

-- ---- what the run gives by it
module _ (run lent : List ℕ) (a : NodeStore) (weights : List Float) (held : List ℕ) (r : Result SamplerPlusTree Refusal) (M : Makes run a weights held r) (b : Bool) (q : Checks run b lent) where
  abbrev numbers : List ℕ
  numbers = told_from (channels run) (share run) (begun run) q.calls

  numbers_length : length numbers ≡ widths (channels run) (capacity run) q.calls
  numbers_length = length_all (channels run) (capacity run) (share run) (begun run) q.calls refl

  -- the making's answer is the one that the run's is defined by
  by_making : (m : Result SamplerPlusTree Refusal) → r ≡ m → given (answered run m q.calls) lent ≡ given (answered run (made run) q.calls) lent
  by_making m h = ap (λ (x : Result SamplerPlusTree Refusal). given (answered run x q.calls) lent) (sym h ∙ M.answer)

  pub refused : (w : Refusal) (x : ℕ × List ℕ) → r ≡ Err w → x ≡ given (number w ∷ []) lent → x ≡ given (answered run (made run) q.calls) lent
  refused w x h e = e ∙ by_making (Err w) h

  module _ (h : SamplerPlusTree) (t : r ≡ Ok h) where
    pub no_room : b ≡ false → (15, lent) ≡ given (answered run (made run) q.calls) lent
    no_room e =
        let z : length lent / 4 < 1 + widths (channels run) (capacity run) q.calls = leb-false _ _ (sym q.enough_is ∙ e) in
        given_short (0 ∷ numbers) lent (omega (arith, z, numbers_length)) ∙ by_making (Ok h) t

    pub starts : (points : List (List Float)) (marks : List ℕ) → record { points = points; written = marks } ≡ table_of (λ i. none) → b ≡ true → Started run q.calls h (kept a points marks weights held) lent
    starts points marks u e = record {
      standing = M.standing h t points marks u;
      rest = q.rest;
      room = let z : 1 + widths (channels run) (capacity run) q.calls ≤ length lent / 4 = leb-true _ _ (sym q.enough_is ∙ e) in omega (arith, z);
    }

    pub answers : (x : ℕ × List ℕ) → x ≡ given (0 ∷ numbers) lent → x ≡ given (answered run (made run) q.calls) lent
    answers x e = e ∙ by_making (Ok h) t
