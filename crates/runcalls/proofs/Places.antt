-- The call at a place of a run, by its kind: that it lies within the run, and which one it is. Assumes nothing.
use mathlib.Core.Path.{◌≡◌, refl, sym, ◌∙◌, subst}
use mathlib.Core.Bool.{true, cond}
use mathlib.Core.List.{List}
use Prim.Native.Nat.{ℕ, ◌+◌, ◌*◌, ◌≤◌}
use native.Mathlib.Omega.{arith}
use lib.Dec.{eqb}
use lib.ListN.{take}
use lib.Seq.{sets}
use lib.Ieee.{Float}
use borrow.Author.Tests.{eq-eqb, ne_eqb}
use Rattle.limits.specs.Limits.{capacity_limit}
use Rattle.cuttree.specs.Run.{Call, put, add, delete, query, copies_of, branch_of, box_of}
use Rattle.cuttree.proofs.Tests.{by-test, cond_true, cond_false}
use Rattle.wholetree.specs.Whole.{whole}
use Rattle.randomcuttree.specs.declared.RCFTree.{RCFTree}
use Rattle.treestore.specs.Arrays.{NodeStore}
use Rattle.randomcuttree.specs.State.{SomeState}
use Rattle.randomcuttree.specs.Queries.{SomeBoxRead}
use Rattle.calls.specs.Done.{Does, Done, query_of}
use Rattle.runlayout.specs.Layout.{size, number, coordinates_at, words_at, IsPlain, call_width, plain_at, stands_at}
use Rattle.runlayout.proofs.ByKind.{two_least}
use Rattle.runlayout.proofs.Rest.{within}
use Rattle.runcalls.specs.Words.{words_after}

-- the numbers of a call of kind k, whose third number is n and whose sixth is m
module _ (k n m p s : ℕ) (h : p + call_width k n m ≤ s) where
  of_put : k ≡ 3 → p + 3 + n ≤ s
  unfolding call_width
  of_put e = omega (arith, rw e at h)

  of_add : k ≡ 4 → p + 3 + 2 * n ≤ s
  unfolding call_width
  of_add e = omega (arith, rw e at h)

  of_any : IsPlain k → p + 2 ≤ s
  of_any o = omega (arith, h, two_least k n m o.2)

module _ (bytes : List ℕ) (p : ℕ) where
  module _ (o : IsPlain (number bytes p)) (h : stands_at bytes p ≡ true) where
    pub put_inside : (k : ℕ) → k ≡ number bytes p → k ≡ 3 → p + 3 + number bytes (p + 2) ≤ size bytes
    put_inside k e f = of_put (number bytes p) (number bytes (p + 2)) (number bytes (p + 5)) p (size bytes) (within bytes p h) (sym e ∙ f)

    pub add_inside : (k : ℕ) → k ≡ number bytes p → k ≡ 4 → p + 3 + 2 * number bytes (p + 2) ≤ size bytes
    add_inside k e g = of_add (number bytes p) (number bytes (p + 2)) (number bytes (p + 5)) p (size bytes) (within bytes p h) (sym e ∙ g)

    pub any_inside : p + 2 ≤ size bytes
    any_inside = of_any (number bytes p) (number bytes (p + 2)) (number bytes (p + 5)) p (size bytes) (within bytes p h) o

  -- the lent words after it, by its kind k
  module _ (k : ℕ) (e : k ≡ number bytes p) (words : List ℕ) where
    pub words_read_lem : k ≡ 4 → sets words 0 (take capacity_limit (words_at bytes p)) ≡ words_after bytes p words
    words_read_lem f = sym (cond_true _ _ _ (eq-eqb (number bytes p) 4 (sym e ∙ f)))

    pub words_kept : (k ≡ 4 → ⊥) → words ≡ words_after bytes p words
    words_kept f = sym (cond_false _ _ _ (ne_eqb (number bytes p) 4 (λ x. f (e ∙ x))))

  -- from what the call of the kind did to what the call at the place did
  module _ (tree : RCFTree) (a : NodeStore) (points : List (List Float)) (marks : List ℕ) (tree' : RCFTree) (b : NodeStore) (points' : List (List Float)) (marks' reply : List ℕ) (k : ℕ) (e : k ≡ number bytes p) where
    same : (x y : (d : ℕ) → Call (whole d)) → ((d : ℕ) → x d ≡ y d) → Does y tree a points marks tree' b points' marks' reply → Does x tree a points marks tree' b points' marks' reply
    same x y f D d c s W S = subst (λ (z : Call (whole d)). Done d c s W z tree' b points' marks' reply) (sym (f d)) (D d c s W S)

    pub put_there : k ≡ 3 → Does (λ d. put (number bytes (p + 1)) (coordinates_at bytes p)) tree a points marks tree' b points' marks' reply → Does (λ d. plain_at bytes d p) tree a points marks tree' b points' marks' reply
    put_there f = same (λ d. plain_at bytes d p) _ (λ d. rw (← e, f) refl)

    pub add_there : k ≡ 4 → Does (λ d. add (number bytes (p + 1)) (words_at bytes p)) tree a points marks tree' b points' marks' reply → Does (λ d. plain_at bytes d p) tree a points marks tree' b points' marks' reply
    add_there f = same (λ d. plain_at bytes d p) _ (λ d. rw (← e, f) refl)

    pub delete_there : k ≡ 5 → Does (λ d. delete (number bytes (p + 1))) tree a points marks tree' b points' marks' reply → Does (λ d. plain_at bytes d p) tree a points marks tree' b points' marks' reply
    delete_there f = same (λ d. plain_at bytes d p) _ (λ d. rw (← e, f) refl)

    queried : (d x : ℕ) → cond {A = Call (whole d)} (eqb (number bytes p) 8) (query (copies_of x)) (cond (eqb (number bytes p) 9) (query (branch_of x)) (query (box_of x))) ≡ query (query_of (number bytes p) x)
    queried d x = by-test (eqb (number bytes p) 8) (λ f. rw f refl) (λ f. by-test (eqb (number bytes p) 9) (λ g. rw (f, g) refl) (λ g. rw (f, g) refl))

    pub query_there : (k ≡ 3 → ⊥) → (k ≡ 4 → ⊥) → (k ≡ 5 → ⊥) → (x : ℕ) → x ≡ number bytes (p + 1) → Does (λ d. query (query_of k x)) tree a points marks tree' b points' marks' reply → Does (λ d. plain_at bytes d p) tree a points marks tree' b points' marks' reply
    query_there f g h x y = same (λ d. plain_at bytes d p) _ (λ d. cond_false _ _ _ (ne_eqb (number bytes p) 3 (λ x. f (e ∙ x))) ∙ cond_false _ _ _ (ne_eqb (number bytes p) 4 (λ x. g (e ∙ x))) ∙ cond_false _ _ _ (ne_eqb (number bytes p) 5 (λ x. h (e ∙ x)))
        ∙ queried d (number bytes (p + 1)) ∙ (rw (← e, ← y) refl))

-- what a query asks of its caller, of a lent state
pub readable : (tree : RCFTree) (a : NodeStore) (points : List (List Float)) (marks : List ℕ) → SomeState tree a points marks → SomeBoxRead tree a.nodes points a.boxes
readable tree a points marks S = record { lent = a; marks = marks; read = record { nodes_are = refl; boxes_are = refl }; state = S }
