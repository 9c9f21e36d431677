-- A put of the first coordinates of a long list answers and leaves what the put of all does. Assumes nothing.
use Rattle.std.specs.Prelude.{Result}
use Rattle.refusals.specs.declared.Refusal.{Refusal}
use mathlib.Core.Path.{◌≡◌, sym, ap, ◌∙◌, subst}
use mathlib.Core.Bool.{not, cond}
use mathlib.Core.List.{List}
use Prim.Native.Nat.{ℕ, ◌≤◌, ◌+◌}
use native.Mathlib.Omega.{arith}
use lib.Dec.{leb}
use lib.ListN.{length, take, length-take}
use lib.Seq.{take_all}
use lib.Ieee.{Float}
use borrow.Author.Tests.{leb-true, leb-false, ne_eqb}
use Rattle.limits.specs.Limits.{width, point_limit}
use Rattle.cuttree.specs.Run.{World, Answer, refused, index_above, coordinate_count, put, call}
use Rattle.cuttree.proofs.Tests.{by-test, cond_true}
use Rattle.wholetree.specs.Whole.{whole}
use Rattle.pointstore.specs.Puts.{put_says, Puts, Tabled}
use Rattle.pointstore.proofs.Puts.{puts_are_calls}
use Rattle.randomcuttree.specs.declared.RCFTree.{RCFTree}
use Rattle.randomcuttree.proofs.Parts.{dimensions_are}
use Rattle.treestore.specs.Arrays.{NodeStore}
use Rattle.randomcuttree.specs.State.{State}
use Rattle.randomcuttree.proofs.Standing.{puts_keep}
use Rattle.answers.specs.Said.{filled, put_numbers, reply_width}
use Rattle.calls.specs.Done.{Does}

module _ (d c : ℕ) (W : World (whole d)) (i : ℕ) where
  -- a list of another length is refused whatever is in it
  uncounted : (xs : List Float) → (length xs ≡ d → ⊥) → call (whole d) c W (put i xs) ≡ cond {A = Answer (whole d) × World (whole d)} (leb point_limit i) (refused index_above, W) (refused coordinate_count, W)
  uncounted xs n = ap (λ (y : Answer (whole d) × World (whole d)). cond {A = Answer (whole d) × World (whole d)} (leb point_limit i) (refused index_above, W) y) (cond_true _ _ _ (ap not (ne_eqb (length xs) d n)))

  -- so long a list is longer than any tree's
  put_alike : d ≤ width → (xs : List Float) → call (whole d) c W (put i (take (width + 1) xs)) ≡ call (whole d) c W (put i xs)
  put_alike h xs = by-test (leb (length xs) (width + 1))
      (λ t. ap (λ (y : List Float). call (whole d) c W (put i y)) (take_all (width + 1) xs (leb-true (length xs) (width + 1) t)))
      (λ t. let long = leb-false (length xs) (width + 1) t in uncounted (take (width + 1) xs) (λ x. omega (arith, x, length-take (width + 1) xs, h, long)) ∙ sym (uncounted xs (λ x. omega (arith, x, h, long))))

pub put_does : (tree : RCFTree) (copies : List ℕ) (points points' : List (List Float)) (marks marks' : List ℕ) (i : ℕ) (first : List Float) (r : Result Unit Refusal) (reply : List ℕ)
    → Puts tree.dimensions copies i first points marks points' marks' r → reply ≡ filled reply_width (put_numbers r)
    → (a : NodeStore) (xs : List Float) → a.copies ≡ copies → first ≡ take (width + 1) xs → Does (λ d. put i xs) tree a points marks tree a points' marks' reply
put_does tree copies points points' marks marks' i first r reply D f a xs g e d c s W S =
    let K = puts_keep d c s W tree a points marks S in
    let P = puts_are_calls d c W i first points marks copies points' marks' r (subst (λ (y : List ℕ). Tabled d c W points marks y) g K.0) (subst (λ (y : ℕ). Puts y copies i first points marks points' marks' r) (dimensions_are S) D) in
    let same : call (whole d) c W (put i first) ≡ call (whole d) c W (put i xs) = ap (λ (y : List Float). call (whole d) c W (put i y)) e ∙ put_alike d c W i S.limits.1 xs in
    record {
      reply_is = f ∙ ap (λ y. filled reply_width (put_numbers y)) (P.answer ∙ ap (λ (y : Answer (whole d) × World (whole d)). put_says d y.0) same);
      state = subst (λ (y : Answer (whole d) × World (whole d)). State d c s y.1 tree a points' marks') same (K.1 i first points' marks' r P);
    }
