-- What an add and a delete leave, from what they answered. Assumes nothing.
use Rattle.std.specs.Prelude.{Result}
use Rattle.refusals.specs.declared.Refusal.{Refusal}
use Rattle.randomcuttree.specs.declared.Added.{Added}
use Rattle.randomcuttree.specs.declared.Deleted.{Deleted}
use mathlib.Core.Path.{◌≡◌, sym, ap, ◌∙◌, subst}
use mathlib.Core.List.{List}
use Prim.Native.Nat.{ℕ, ◌≤◌}
use native.Mathlib.Omega.{arith}
use lib.Dec.{leb}
use lib.ListN.{length, take, length-take}
use lib.Seq.{take_all, get_or-take}
use lib.Ieee.{Float}
use borrow.Author.Tests.{leb-true, leb-false, le-ltb}
use Rattle.limits.specs.Limits.{capacity_limit}
use Rattle.cuttree.specs.Run.{World, Answer, add, delete, call}
use Rattle.cuttree.proofs.Tests.{by-test}
use Rattle.cuttree.proofs.Words.{few_words_lem}
use Rattle.wholetree.specs.Whole.{whole}
use Rattle.randomcuttree.specs.declared.RCFTree.{RCFTree}
use Rattle.treestore.specs.Arrays.{NodeStore}
use Rattle.randomcuttree.specs.State.{State, header_of}
use Rattle.randomcuttree.specs.Answers.{add_says, header_added, header_deleted, AddDone, DeleteDone}
use Rattle.randomcuttree.proofs.Headers.{add_header, delete_header}
use Rattle.answers.specs.Said.{filled, add_numbers, delete_numbers, reply_width}
use Rattle.calls.specs.Done.{Does}

module _ (d c : ℕ) (W : World (whole d)) where
  -- no add takes more words than the capacity, which is 256 at most
  pub add_alike : c ≤ capacity_limit → (i : ℕ) (ws : List ℕ) → call (whole d) c W (add i (take capacity_limit ws)) ≡ call (whole d) c W (add i ws)
  add_alike h i ws = by-test (leb (length ws) capacity_limit)
      (λ t. ap (λ (y : List ℕ). call (whole d) c W (add i y)) (take_all capacity_limit ws (leb-true (length ws) capacity_limit t)))
      (λ t. let long = leb-false (length ws) capacity_limit t in few_words_lem (whole d) c (take capacity_limit ws) ws
      (λ j l. get_or-take capacity_limit ws j 0 (omega (arith, h, l)))
      (λ j l. le-ltb (length (take capacity_limit ws)) j (omega (arith, h, long, l, length-take capacity_limit ws)) ∙ sym (le-ltb (length ws) j (omega (arith, h, long, l)))) W i)

pub add_does : (tree : RCFTree) (a : NodeStore) (points : List (List Float)) (marks : List ℕ) (i : ℕ) (first : List ℕ) (r : Result Added Refusal) (b : NodeStore) (next : RCFTree) (reply : List ℕ)
    → AddDone tree a points marks i first r b → next ≡ header_added tree r → reply ≡ filled reply_width (add_numbers r)
    → (ws : List ℕ) → first ≡ take capacity_limit ws → Does (λ d. add i ws) tree a points marks next b points marks reply
add_does tree a points marks i first r b next reply D f g ws e d c s W S =
    let C = D d c s W S in
    let new : next ≡ header_of d c s (call (whole d) c W (add i first)).1 = f ∙ ap (λ t. header_added t r) S.header_is ∙ ap (header_added (header_of d c s W)) C.answer ∙ add_header d c s W i first in
    let same : call (whole d) c W (add i first) ≡ call (whole d) c W (add i ws) = ap (λ (y : List ℕ). call (whole d) c W (add i y)) e ∙ add_alike d c W S.limits.3 i ws in
    record {
      reply_is = g ∙ ap (λ y. filled reply_width (add_numbers y)) (C.answer ∙ ap (λ (y : Answer (whole d) × World (whole d)). add_says d (header_of d c s y.1) y.0) same);
      state = subst (λ (y : Answer (whole d) × World (whole d)). State d c s y.1 next b points marks) same (subst (λ t. State d c s (call (whole d) c W (add i first)).1 t b points marks) (sym new) C.state);
    }

pub delete_does : (tree : RCFTree) (a : NodeStore) (points : List (List Float)) (marks : List ℕ) (i : ℕ) (r : Result Deleted Refusal) (b : NodeStore) (next : RCFTree) (reply : List ℕ)
    → DeleteDone tree a points marks i r b → next ≡ header_deleted tree r → reply ≡ filled reply_width (delete_numbers r) → Does (λ d. delete i) tree a points marks next b points marks reply
delete_does tree a points marks i r b next reply D f g d c s W S =
    let C = D d c s W S in
    let new : next ≡ header_of d c s (call (whole d) c W (delete i)).1 = f ∙ ap (λ t. header_deleted t r) S.header_is ∙ ap (header_deleted (header_of d c s W)) C.answer ∙ delete_header d c s W i in
    record {
      reply_is = g ∙ ap (λ y. filled reply_width (delete_numbers y)) C.answer;
      state = subst (λ t. State d c s (call (whole d) c W (delete i)).1 t b points marks) (sym new) C.state;
    }
