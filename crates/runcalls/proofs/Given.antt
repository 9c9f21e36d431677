-- What a call of the run is given: an index, and the first entries of a list that may be longer than the array they are read to. Assumes nothing.
use mathlib.Core.Path.{◌≡◌, sym, ap, ◌∙◌, subst}
use mathlib.Core.List.{List, ◌++◌}
use Prim.Native.Nat.{ℕ, ◌+◌, ◌*◌, ◌≤◌, min}
use lib.ListN.{length, take, drop}
use lib.Seq.{sets}
use lib.Ieee.{Float, binary32, of_bits}
use Rattle.limits.specs.Limits.{width, capacity_limit}
use Rattle.cuttree.specs.Run.{put, add, delete}
use Rattle.wholetree.specs.Whole.{tab}
use Rattle.randomcuttree.specs.declared.RCFTree.{RCFTree}
use Rattle.treestore.specs.Arrays.{NodeStore}
use Rattle.calls.specs.Done.{Does}
use Rattle.runlayout.specs.Layout.{number, double, coordinates_at, words_at}
use Rattle.rungiven.proofs.Firsts.{firsts_written}
use Rattle.rungiven.proofs.Taken.{take_tab}

-- the call at the place p of the run, from what was read there: the index i, and n of the m entries that it says
module _ (bytes : List ℕ) (p : ℕ) (tree : RCFTree) (a : NodeStore) (points : List (List Float)) (marks : List ℕ) (tree' : RCFTree) (b : NodeStore) (points' : List (List Float)) (marks' reply : List ℕ) (i : ℕ) (at : i ≡ number bytes (p + 1)) where
  -- the first of them are the list that was read
  pub put_given : (m n : ℕ) (first : List Float) → m ≡ number bytes (p + 2) → n ≡ min m (width + 1) → first ≡ tab n (λ (j : ℕ). of_bits binary32 (number bytes (p + 3 + j)))
      → ((xs : List Float) → first ≡ take (width + 1) xs → Does (λ d. put i xs) tree a points marks tree' b points' marks' reply)
      → Does (λ d. put (number bytes (p + 1)) (coordinates_at bytes p)) tree a points marks tree' b points' marks' reply
  put_given m n first l e s D =
      let few = e ∙ ap (λ (y : ℕ). min y (width + 1)) l in
      subst (λ (y : ℕ). Does (λ d. put y (coordinates_at bytes p)) tree a points marks tree' b points' marks' reply) at (D (coordinates_at bytes p) (s ∙ sym (take_tab _ (width + 1) _ n few)))

  pub add_given : (m n : ℕ) (first : List ℕ) → m ≡ number bytes (p + 2) → n ≡ min m capacity_limit → first ≡ tab n (λ (j : ℕ). double bytes (p + 3 + 2 * j))
      → ((ws : List ℕ) → first ≡ take capacity_limit ws → Does (λ d. add i ws) tree a points marks tree' b points' marks' reply)
      → Does (λ d. add (number bytes (p + 1)) (words_at bytes p)) tree a points marks tree' b points' marks' reply
  add_given m n first l e s D =
      let few = e ∙ ap (λ (y : ℕ). min y capacity_limit) l in
      subst (λ (y : ℕ). Does (λ d. add y (words_at bytes p)) tree a points marks tree' b points' marks' reply) at (D (words_at bytes p) (s ∙ sym (take_tab _ capacity_limit _ n few)))

  pub delete_given : Does (λ d. delete i) tree a points marks tree' b points' marks' reply → Does (λ d. delete (number bytes (p + 1))) tree a points marks tree' b points' marks' reply
  delete_given = subst (λ (y : ℕ). Does (λ d. delete y) tree a points marks tree' b points' marks' reply) at

-- the lent words after an add, l₀ before it
pub words_given : (bytes : List ℕ) (p m n : ℕ) (l₀ first : List ℕ) → m ≡ number bytes (p + 2) → n ≡ min m capacity_limit → first ≡ tab n (λ (j : ℕ). double bytes (p + 3 + 2 * j)) → n ≤ length l₀
    → first ++ drop n l₀ ≡ sets l₀ 0 (take capacity_limit (words_at bytes p))
words_given bytes p m n l₀ first l e s h =
    let f : ℕ → ℕ = λ (j : ℕ). double bytes (p + 3 + 2 * j) in
    let few = e ∙ ap (λ (y : ℕ). min y capacity_limit) l in
    ap (λ (x : List ℕ). x ++ drop n l₀) s ∙ sym (firsts_written f l₀ n h) ∙ ap (sets l₀ 0) (sym (take_tab f capacity_limit _ n few))
