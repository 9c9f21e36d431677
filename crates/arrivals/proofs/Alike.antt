-- An arrival with the first words of a long list answers and leaves what the arrival with all does, and one that is not taken what it does with any others. Assumes nothing.
use Rattle.refusals.specs.declared.Refusal.TheVariants as Why
use Rattle.std.specs.Prelude.{Err}
use mathlib.Core.Path.{◌≡◌, refl, sym, ap, ◌∙◌}
use mathlib.Core.Bool.{Bool, true, false, cond, not}
use mathlib.Core.Option.{Option, none, some}
use mathlib.Core.List.{List}
use Prim.Native.Nat.{ℕ, ◌≤◌}
use native.Mathlib.Omega.{arith}
use lib.Dec.{leb, ltb}
use lib.ListN.{length, take, length-take}
use lib.Seq.{take_all}
use lib.Ieee.{Float}
use borrow.Author.Tests.{leb-true, leb-false, le-ltb}
use Rattle.limits.specs.Limits.{capacity_limit, point_limit}
use Rattle.readings.specs.Number.{is_number}
use Rattle.cuttree.specs.Run as Bare
use Rattle.cuttree.specs.Run.{index_above, bad_weight, few_words}
use Rattle.cuttree.proofs.Tests.{by-test, clash}
use Rattle.wholetree.specs.Reading.{Reading}
use Rattle.wholetree.specs.Whole.{whole}
use Rattle.sampledtree.specs.Sampled.{Offer, passes, begins, evicts, offer, Sampled, SampledAnswer, admitted, taken, refuse, if_written, arrive, call}
use Rattle.samplerplustree.specs.Offers.{said, if_marked, offered}
use Rattle.samplerplustree.specs.Entering.{takes}
use Rattle.calls.proofs.Edits.{add_alike}

-- a list is short of c words where its first 256 are
short_alike : (c : ℕ) (ws : List ℕ) → c ≤ capacity_limit → ltb (length (take capacity_limit ws)) c ≡ ltb (length ws) c
short_alike c ws h = by-test (leb (length ws) capacity_limit)
    (λ t. ap (λ (y : List ℕ). ltb (length y) c) (take_all capacity_limit ws (leb-true (length ws) capacity_limit t)))
    (λ t. let long = leb-false (length ws) capacity_limit t in le-ltb (length (take capacity_limit ws)) c (omega (arith, h, long, length-take capacity_limit ws)) ∙ sym (le-ltb (length ws) c (omega (arith, h, long))))

module _ (d : ℕ) (X : Sampled (whole d)) (i : ℕ) (w : Float) where
  -- and no add takes more words than these
  taken_alike : X.capacity ≤ capacity_limit → (ws : List ℕ) (o : Offer) → taken (whole d) X i w (take capacity_limit ws) o ≡ taken (whole d) X i w ws o
  taken_alike h ws passes = refl
  taken_alike h ws begins = ap (admitted (whole d) X X.sample none w) (add_alike d X.capacity X.world h i ws)
  taken_alike h ws (evicts e ks) = ap (admitted (whole d) X ks (some e) w) (add_alike d X.capacity (Bare.call (whole d) X.capacity X.world (Bare.delete e)).1 h i ws)

  pub arrive_alike : X.capacity ≤ capacity_limit → (x : ℕ) (ws : List ℕ) → call (whole d) X (arrive i w x (take capacity_limit ws)) ≡ call (whole d) X (arrive i w x ws)
  arrive_alike h x ws =
      let o = offer X.capacity X.initial X.sample w x in
      ap (λ (b : Bool). tested b (taken (whole d) X i w (take capacity_limit ws) o)) (short_alike X.capacity ws h)
      ∙ ap (tested (ltb (length ws) X.capacity)) (taken_alike h ws o)
    where
      -- by whether words are short, and what is taken where they are not
      tested : Bool → SampledAnswer (whole d) × Sampled (whole d) → SampledAnswer (whole d) × Sampled (whole d)
      tested b y = refuse (whole d) X index_above (leb point_limit i) (if_written (whole d) X (X.world.table i) (refuse (whole d) X bad_weight (not (is_number w)) (refuse (whole d) X few_words b y)))

  -- where an offer does not take the arrival, its words are no matter but for their number
  pub untaken_alike : (x n : ℕ) (first ws : List ℕ) → takes (offered d X i w x n) ≡ false → length first ≡ n → length ws ≡ n → call (whole d) X (arrive i w x first) ≡ call (whole d) X (arrive i w x ws)
  unfolding offered
  untaken_alike x n first ws t e f = rw (e, f) (go (leb point_limit i) (X.world.table i) (not (is_number w)) (ltb n X.capacity) (offer X.capacity X.initial X.sample w x) t)
    where
      go : (above : Bool) (row : Option Reading) (bad few : Bool) (o : Offer) → takes (cond above (Err Why.IndexAbove) (if_marked row (cond bad (Err Why.BadWeight) (cond few (Err Why.FewWords) (said o))))) ≡ false
          → refuse (whole d) X index_above above (if_written (whole d) X row (refuse (whole d) X bad_weight bad (refuse (whole d) X few_words few (taken (whole d) X i w first o))))
          ≡ refuse (whole d) X index_above above (if_written (whole d) X row (refuse (whole d) X bad_weight bad (refuse (whole d) X few_words few (taken (whole d) X i w ws o))))
      go true row bad few o h = refl
      go false none bad few o h = refl
      go false (some r) true few o h = refl
      go false (some r) false true o h = refl
      go false (some r) false false passes h = refl
      go false (some r) false false begins h = clash true refl h
      go false (some r) false false (evicts e ks) h = clash true refl h

  -- and an offer is the same for the first 256 words
  pub offered_alike : X.capacity ≤ capacity_limit → (x : ℕ) (ws : List ℕ) → offered d X i w x (length (take capacity_limit ws)) ≡ offered d X i w x (length ws)
  unfolding offered
  offered_alike h x ws = rw (short_alike X.capacity ws h) refl
