-- The arrival at a place of a run: that it lies within the run, and that it is the one of what was read there. Assumes nothing.
use mathlib.Core.Path.{◌≡◌, sym, ap, ◌∙◌}
use mathlib.Core.Bool.{true}
use mathlib.Core.List.{List, ◌++◌}
use Prim.Native.Nat.{ℕ, ◌+◌, ◌*◌, ◌≤◌, min}
use native.Mathlib.Omega.{arith}
use lib.Dec.{leb}
use lib.ListN.{length, take, drop, length-take, length-append, length-drop}
use lib.Seq.{sets, take_all, take_at, take-take}
use lib.Ieee.{Float, binary32, of_bits}
use borrow.Author.Tests.{leb-true, leb-false}
use Rattle.limits.specs.Limits.{capacity_limit}
use Rattle.cuttree.proofs.Tests.{by-test}
use Rattle.wholetree.specs.Whole.{whole, tab}
use Rattle.wholetree.proofs.Readings.{tab_length}
use Rattle.sampledtree.specs.Sampled.{Sampled}
use Rattle.treestore.specs.declared.Found.{Found}
use Rattle.treestore.specs.Arrays.{NodeStore}
use Rattle.samplerplustree.specs.declared.SamplerPlusTree.{SamplerPlusTree}
use Rattle.std.specs.Prelude.{Result}
use Rattle.refusals.specs.declared.Refusal.{Refusal}
use Rattle.samplerplustree.specs.declared.Offer.{Offer}
use Rattle.samplerplustree.specs.declared.Remaining.{Remaining}
use Rattle.samplerplustree.specs.State.{SampledState}
use Rattle.samplerplustree.specs.Offers.{offered, OfferTold}
use Rattle.samplerplustree.specs.Entering.{LeaveDone, LeavesPath, SeesBy}
use Rattle.arrivals.specs.Words.{words_used}
use Rattle.arrivals.specs.Arrived.{Arrives, EntersBy, words_read, ReadsWords, path_arrived, WalksPath}
use Rattle.arrivals.proofs.Alike.{offered_alike}
use Rattle.arrivals.proofs.Used.{used_is, path_arrived_lem}
use Rattle.runlayout.specs.Layout.{size, number, double, call_width, stands_at, arrival_words_at}
use Rattle.runlayout.proofs.Rest.{within}
use Rattle.rungiven.proofs.Firsts.{firsts_written}
use Rattle.rungiven.proofs.Taken.{take_tab}

-- the numbers of a call of kind 6, whose third number is n and whose sixth is m
of_arrival : (k n m p s : ℕ) → p + call_width k n m ≤ s → k ≡ 6 → p + 6 + 2 * m ≤ s
unfolding call_width
of_arrival k n m p s h e = omega (arith, rw e at h)

-- the first n of a list, and of these the first u
taken_both : (n u : ℕ) (l : List ℕ) → take u (take n l) ≡ take (min n u) l
taken_both n u l = by-test (leb u n)
    (λ t. let h = leb-true u n t in let e : u ≡ min n u = omega (arith, h) in take-take u n l h ∙ ap (λ (j : ℕ). take j l) e)
    (λ t. let h = leb-false u n t in let e : n ≡ min n u = omega (arith, h) in take_all u (take n l) (omega (arith, h, length-take n l)) ∙ ap (λ (j : ℕ). take j l) e)

-- words read to the front of the lent ones, l₀ before
pub read_there : (f : ℕ → ℕ) (k : ℕ) (l₀ first : List ℕ) → first ≡ tab k f → k ≤ length l₀ → (first ++ drop k l₀ ≡ sets l₀ 0 (tab k f)) × (take k (first ++ drop k l₀) ≡ tab k f)
read_there f k l₀ first e h =
    (ap (λ (l : List ℕ). l ++ drop k l₀) e ∙ sym (firsts_written f l₀ k h), ap (λ (l : List ℕ). take k (l ++ drop k l₀)) e ∙ take_at (tab k f) (drop k l₀) k (tab_length k f))

-- as many of the lent words are an arrival's before the first k are read as after it
pub as_long : (n k : ℕ) (l₀ first : List ℕ) → k ≤ length l₀ → length first ≡ length (take k l₀) → length (take n (first ++ drop k l₀)) ≡ length (take n l₀)
as_long n k l₀ first h e = omega (arith, length-take n (first ++ drop k l₀), length-take n l₀, length-append first (drop k l₀), length-drop k l₀, length-take k l₀)

module _ (bytes : List ℕ) (p : ℕ) where
  pub arrival_inside : (number bytes p ≡ 6) × (stands_at bytes p ≡ true) → p + 6 + 2 * number bytes (p + 5) ≤ size bytes
  arrival_inside h = of_arrival (number bytes p) (number bytes (p + 2)) (number bytes (p + 5)) p (size bytes) (within bytes p h.1) h.0

  -- what was read there: the index i, the weight's bits and the weight w, the word x for the starting chance, and of the m words that it says, n of
  -- which there is room for, the first k to the lent words l, l₀ before
  module _ (tree : SamplerPlusTree) (a : NodeStore) (points : List (List Float)) (marks : List ℕ) (weights : List Float) (held : List ℕ) (o : Result Offer Refusal) (i bits : ℕ) (w : Float) (x m n : ℕ)
      (index : i ≡ number bytes (p + 1)) (pattern : bits ≡ number bytes (p + 2)) (weight : w ≡ of_bits binary32 bits) (chance : x ≡ double bytes (p + 3)) (count : m ≡ number bytes (p + 5)) (few : n ≡ min m capacity_limit)
      (told : OfferTold tree marks weights i w x n o) where
    first : take capacity_limit (arrival_words_at bytes p) ≡ tab n (λ (j : ℕ). double bytes (p + 6 + 2 * j))
    first = take_tab _ capacity_limit _ n (few ∙ ap (λ (y : ℕ). min y capacity_limit) count)

    long : length (take capacity_limit (arrival_words_at bytes p)) ≡ n
    long = ap length first ∙ tab_length n _

    -- what remains of the arrival's first step, and what was found of its reading there
    module _ (remaining : Remaining) (b : NodeStore) (weights₁ : List Float) (held₁ : List ℕ) (L : LeaveDone tree o a points weights held remaining b weights₁ held₁)
        (path₀ before path : List (List ℕ)) (left : LeavesPath tree o a points weights held path₀ before) (f : Found) (F : SeesBy remaining o b.nodes b.cuts points i before f path) (k : ℕ) (used : k ≡ min n f.walk) (l₀ l : List ℕ)
        (read : (l ≡ sets l₀ 0 (tab k (λ (j : ℕ). double bytes (p + 6 + 2 * j)))) × (take k l ≡ tab k (λ (j : ℕ). double bytes (p + 6 + 2 * j)))) where
      module _ (d : ℕ) (s : Float) (X : Sampled (whole d)) (S : SampledState d s X tree a points marks weights held) where
        k_is : k ≡ min n (words_used d X i o)
        k_is = used ∙ ap (min n) (used_is (L d s X marks S) i w x n (told.told d s X a points held S) F)

        own : take (words_used d X i o) (take capacity_limit (arrival_words_at bytes p)) ≡ tab k (λ (j : ℕ). double bytes (p + 6 + 2 * j))
        own = ap (take (words_used d X i o)) first ∙ take_tab _ (words_used d X i o) n k k_is

        agree : take (words_used d X i o) (take n l) ≡ take (words_used d X i o) (take capacity_limit (arrival_words_at bytes p))
        agree = taken_both n (words_used d X i o) l ∙ ap (λ (j : ℕ). take j l) (sym k_is) ∙ read.1 ∙ sym own

        by_all : o ≡ offered d X i w x (length (arrival_words_at bytes p))
        by_all = told.told d s X a points held S ∙ ap (offered d X i w x) (sym long) ∙ offered_alike d X i w S.tree_is.limits.3 x (arrival_words_at bytes p)

        reads : l ≡ words_read d X i (offered d X i w x (length (arrival_words_at bytes p))) (arrival_words_at bytes p) l₀
        reads = read.0 ∙ ap (sets l₀ 0) (sym own) ∙ ap (λ (z : Result Offer Refusal). words_read d X i z (arrival_words_at bytes p) l₀) by_all

        walks : path ≡ path_arrived d X i (offered d X i w x (length (arrival_words_at bytes p))) path₀
        walks = path_arrived_lem (L d s X marks S) i w x n (told.told d s X a points held S) path₀ (left d s X marks S) F ∙ ap (λ (z : Result Offer Refusal). path_arrived d X i z path₀) by_all

      pub arrival_given : length (take n l) ≡ n → (tree' : SamplerPlusTree) (a' : NodeStore) (weights' : List Float) (held' reply : List ℕ)
          → ((y : ℕ) (ws marks : List ℕ) → length (take capacity_limit ws) ≡ length (take n l) → EntersBy o (length (take n l)) i w y (take n l) ws remaining b points marks weights₁ held₁ tree' a' weights' held' reply)
          → Arrives (number bytes (p + 1)) (of_bits binary32 (number bytes (p + 2))) (double bytes (p + 3)) (arrival_words_at bytes p) tree a points marks weights held tree' a' weights' held' reply
          × (ReadsWords (number bytes (p + 1)) (of_bits binary32 (number bytes (p + 2))) (double bytes (p + 3)) (arrival_words_at bytes p) tree a points marks weights held l₀ l
          × WalksPath (number bytes (p + 1)) (of_bits binary32 (number bytes (p + 2))) (double bytes (p + 3)) (arrival_words_at bytes p) tree a points marks weights held path₀ path)
      arrival_given all tree' a' weights' held' reply A =
          let does : Arrives i w x (arrival_words_at bytes p) tree a points marks weights held tree' a' weights' held' reply = λ d s X S. A x (arrival_words_at bytes p) marks (long ∙ sym all) d s X (L d s X marks S) (told.told d s X a points held S ∙ ap (offered d X i w x) (sym all)) (agree d s X S) in
          let words : ReadsWords i w x (arrival_words_at bytes p) tree a points marks weights held l₀ l = reads in
          let rows : WalksPath i w x (arrival_words_at bytes p) tree a points marks weights held path₀ path = walks in
          rw (← index, ← pattern, ← weight, ← chance) (does, (words, rows))
