-- What is heard of a call's answer, told as the code tells it, is that answer. Assumes nothing.
use mathlib.Core.Path.{◌≡◌, refl, ap, ap₂, ◌∙◌, sym, fun_ext}
use mathlib.Core.Option.{Option, none, some}
use mathlib.Core.List.{List}
use Prim.Native.Nat.{ℕ, ◌≤◌}
use lib.Dec.{ltb}
use lib.Ieee.{Float, nan}
use borrow.Author.Tests.{ltb-true, ltb-false}
use Rattle.limits.specs.Limits.{width}
use Rattle.readings.specs.Number.{nought, Number, number, zero}
use Rattle.readings.proofs.Ordered.{same_number, number_is}
use Rattle.cuttree.specs.Tree.{Tree, leaf, branch, lo, hi}
use Rattle.cuttree.specs.Run.{Refusal, index_above, coordinate_count, bad_coordinate, index_is_leaf, never_written, full, few_words, tree_empty, not_held, bad_weight, no_such_node, Answer, refused, branch_is, box_is, World, put, add, delete, call, copies_found, branch_found, box_found}
use Rattle.cuttree.proofs.Tests.{by-test, cond_true, cond_false}
use Rattle.cuttree.proofs.Refused.{by_put, by_add, by_delete}
use Rattle.wholetree.specs.Whole.{whole, ends}
use Rattle.wholetree.proofs.Readings.{tab_length, tab_at}
use Rattle.wholetree.proofs.Boxes.{tree_box}
use Rattle.pointstore.specs.Refusals.{refusal_of}
use Rattle.pointstore.specs.Puts.{put_says}
use Rattle.randomcuttree.specs.declared.RCFTree.{RCFTree}
use Rattle.randomcuttree.specs.Answers.{add_says, delete_says}
use Rattle.randomcuttree.specs.Queries.{copies_say, branch_says, box_says}
use Rattle.demand3.specs.Heard.{heard_refusal, end_in, heard_put, heard_add, heard_delete, heard_copies, heard_branch, heard_box}

pub refusal_is : (r : Refusal) → heard_refusal (refusal_of r) ≡ r
refusal_is index_above = refl
refusal_is coordinate_count = refl
refusal_is bad_coordinate = refl
refusal_is index_is_leaf = refl
refusal_is never_written = refl
refusal_is full = refl
refusal_is few_words = refl
refusal_is tree_empty = refl
refusal_is not_held = refl
refusal_is bad_weight = refl
refusal_is no_such_node = refl

number_value : (a : Number) → number a.value ≡ a
number_value a = same_number (number a.value) a (number_is a.value a.value_is_number)

nought_zero : number nought ≡ zero
unfolding zero
nought_zero = number_value zero

-- the ends of a box, which are zero beyond the row
end_is : (f : ℕ → Number) → ((i : ℕ) → width ≤ i → f i ≡ zero) → end_in (ends f) ≡ f
end_is f h = fun_ext (λ i. by-test (ltb i width)
    (λ e. ap number (cond_true _ _ _ (ap (ltb i) (tab_length width _) ∙ e) ∙ tab_at width (λ (j : ℕ). (f j).value) i nan (ltb-true i width e)) ∙ number_value (f i))
    (λ e. ap number (cond_false _ _ _ (ap (ltb i) (tab_length width _) ∙ e)) ∙ nought_zero ∙ sym (h i (ltb-false i width e))))

module _ (d : ℕ) where
  refused_is : (r : Refusal) → ◌≡◌ {A = Answer (whole d)} (refused (heard_refusal (refusal_of r))) (refused r)
  refused_is r = ap (λ (m : Refusal). refused m) (refusal_is r)

  module _ (c : ℕ) (W : World (whole d)) where
    pub heard_put_lem : (i : ℕ) (xs : List Float) → heard_put d (put_says d (call (whole d) c W (put i xs)).0) ≡ (call (whole d) c W (put i xs)).0
    heard_put_lem i xs = by_put (whole d) c (λ x. heard_put d (put_says d x.0) ≡ x.0) W refused_is i xs (λ U _. refl)

    pub heard_add_lem : (h : World (whole d) → RCFTree) (i : ℕ) (ws : List ℕ) → heard_add d (add_says d (h (call (whole d) c W (add i ws)).1) (call (whole d) c W (add i ws)).0) ≡ (call (whole d) c W (add i ws)).0
    heard_add_lem h i ws = by_add (whole d) c (λ x. heard_add d (add_says d (h x.1) x.0) ≡ x.0) W refused_is i ws (λ j n U _. refl)

    pub heard_delete_lem : (h : World (whole d) → RCFTree) (i : ℕ) → heard_delete d (delete_says d (h (call (whole d) c W (delete i)).1) (call (whole d) c W (delete i)).0) ≡ (call (whole d) c W (delete i)).0
    heard_delete_lem h i = by_delete (whole d) c (λ x. heard_delete d (delete_says d (h x.1) x.0) ≡ x.0) W refused_is i (λ j U _. refl)

  pub heard_copies_lem : (o : Option (Tree (whole d))) → heard_copies d (copies_say d (copies_found (whole d) o)) ≡ copies_found (whole d) o
  heard_copies_lem none = refl
  heard_copies_lem (some (leaf i q n)) = refl
  heard_copies_lem (some (branch b k l r)) = refl

  pub heard_branch_lem : (c : ℕ) (o : Option (Tree (whole d))) → heard_branch d (branch_says d (branch_found (whole d) c o)) ≡ branch_found (whole d) c o
  heard_branch_lem c none = refl
  heard_branch_lem c (some (leaf i q n)) = refl
  heard_branch_lem c (some (branch b k l r)) = ap (λ (v : Number). branch_is (record { cut = record { channel = k.channel; value = v }; left = _; right = _; mass = _ })) (number_value k.value)

  pub heard_box_lem : (o : Option (Tree (whole d))) → heard_box d (box_says d (box_found (whole d) o)) ≡ box_found (whole d) o
  heard_box_lem none = refl
  heard_box_lem (some (leaf i q n)) = refl
  heard_box_lem (some (branch b k l r)) =
      let B = tree_box d (branch b k l r) in
      ap₂ (λ (x y : ℕ → Number). box_is (record { lower = x; upper = y })) (end_is (lo (whole d) (branch b k l r)) B.beyond_lower) (end_is (hi (whole d) (branch b k l r)) B.beyond_upper)
