-- What a query of each kind gives, and that it leaves the lent state. Assumes nothing.
use Rattle.std.specs.Prelude.{Result}
use Rattle.refusals.specs.declared.Refusal.{Refusal}
use Rattle.boundingbox.specs.declared.BoundingBox.{BoundingBox}
use Rattle.randomcuttree.specs.declared.BranchRow.{BranchRow}
use mathlib.Core.Path.{◌≡◌, sym, ap, ◌∙◌, subst}
use mathlib.Core.List.{List}
use Prim.Native.Nat.{ℕ, min}
use native.Mathlib.Nat.{min-eq_left}
use lib.Ieee.{Float}
use borrow.Author.Tests.{ne_eqb}
use Rattle.limits.specs.Limits.{width}
use Rattle.cuttree.specs.Run.{Query, query, copies_of, branch_of, box_of}
use Rattle.cuttree.proofs.Tests.{cond_false}
use Rattle.randomcuttree.specs.declared.RCFTree.{RCFTree}
use Rattle.randomcuttree.proofs.Parts.{dimensions_are}
use Rattle.treestore.specs.Arrays.{NodeStore}
use Rattle.randomcuttree.specs.Queries.{copies_read, branch_read, BoxTold, BoxRead}
use Rattle.randomcuttree.proofs.Told.{copies_are_told, branches_are_told}
use Rattle.answers.specs.Said.{filled, count_numbers, branch_numbers, box_numbers, reply_width}
use Rattle.calls.specs.Done.{Does, Done, query_of}

module _ (tree : RCFTree) (k x : ℕ) (reply : List ℕ) where
  -- of the query that the kind k asks
  asked : (a : NodeStore) (points : List (List Float)) (marks : List ℕ) (q : Query) → query_of k x ≡ q → Does (λ d. query q) tree a points marks tree a points marks reply → Does (λ d. query (query_of k x)) tree a points marks tree a points marks reply
  asked a points marks q e D d c s W S = subst (λ (z : Query). Done d c s W (query z) tree a points marks reply) (sym e) (D d c s W S)

  pub copies_does : k ≡ 8 → (copies : List ℕ) (r : Result ℕ Refusal) → r ≡ copies_read tree copies x → reply ≡ filled reply_width (count_numbers r)
      → (a : NodeStore) (points : List (List Float)) (marks : List ℕ) → a.copies ≡ copies → Does (λ d. query (query_of k x)) tree a points marks tree a points marks reply
  copies_does e copies r T f a points marks g = asked a points marks (copies_of x) (ap (λ (z : ℕ). query_of z x) e) (λ d c s W S. record {
    reply_is = f ∙ ap (λ y. filled reply_width (count_numbers y)) (T ∙ copies_are_told tree copies x d c s W a points marks S g);
    state = S;
  })

  pub branch_does : k ≡ 9 → (nodes : List (List ℕ)) (cuts : List Float) (r : Result BranchRow Refusal) → r ≡ branch_read nodes cuts x → reply ≡ filled reply_width (branch_numbers r)
      → (a : NodeStore) (points : List (List Float)) (marks : List ℕ) → a.nodes ≡ nodes → a.cuts ≡ cuts → Does (λ d. query (query_of k x)) tree a points marks tree a points marks reply
  branch_does e nodes cuts r T f a points marks g h = asked a points marks (branch_of x) (ap (λ (z : ℕ). query_of z x) e) (λ d c s W S. record {
    reply_is = f ∙ ap (λ y. filled reply_width (branch_numbers y)) (T ∙ branches_are_told tree nodes cuts x d c s W a points marks S g h);
    state = S;
  })

  pub box_does : (k ≡ 8 → ⊥) → (k ≡ 9 → ⊥) → (nodes : List (List ℕ)) (points : List (List Float)) (boxes : List (List (List Float))) (r : Result BoundingBox Refusal) → BoxTold tree nodes points boxes x r → reply ≡ filled reply_width (box_numbers (min tree.dimensions width) r)
      → (a : NodeStore) (marks : List ℕ) → BoxRead a nodes boxes → Does (λ d. query (query_of k x)) tree a points marks tree a points marks reply
  box_does n m nodes points boxes r T f a marks g = asked a points marks (box_of x) (cond_false _ _ _ (ne_eqb k 8 n) ∙ cond_false _ _ _ (ne_eqb k 9 m)) (λ d c s W S. record {
    reply_is = f ∙ ap (λ y. filled reply_width (box_numbers y r)) (ap (λ (n : ℕ). min n width) (dimensions_are S) ∙ min-eq_left S.limits.1) ∙ ap (λ y. filled reply_width (box_numbers d y)) (T d c s W a marks S g);
    state = S;
  })
