-- A call leaves the capacity, so that as many numbers are answered as a run's calls tell. Laws.
use mathlib.Core.Path.{◌≡◌, refl, ap, ◌∙◌}
use mathlib.Core.Bool.{not}
use mathlib.Core.Option.{Option, none, some}
use mathlib.Core.List.{List, [], ◌∷◌}
use Prim.Native.Nat.{ℕ, ◌+◌}
use lib.Dec.{leb, ltb}
use lib.ListN.{length, length-append}
use lib.Ieee.{Float}
use Rattle.readings.specs.Number.{is_number}
use Rattle.sampler.specs.Sample.{Entry}
use Rattle.cuttree.specs.Run.{World, Answer, refused, written, added, deleted, copies_are, branch_is, box_is, add, delete, bad_weight, few_words}
use Rattle.cuttree.specs.Run as Bare
use Rattle.cuttree.proofs.Tests.{by_cond}
use Rattle.wholetree.specs.Reading.{Reading}
use Rattle.wholetree.specs.Whole.{whole}
use Rattle.sampledtree.specs.Sampled.{Offer, passes, begins, evicts, offer, Sampled, SampledAnswer, arrive, admitted, taken, refuse, if_written, call}
use Rattle.runlayout.specs.Layout.{RunCall, plain, arrives, reports, sample}
use Rattle.runlayout.specs.Check.{width_of, widths}
use Rattle.runsteps.specs.Told.{told, left, told_from}
use Rattle.runsteps.proofs.Widths.{length_told}

module _ (d : ℕ) (X : Sampled (whole d)) where
  by_add : (ks : List Entry) (e : Option ℕ) (w : Float) (r : Answer (whole d) × World (whole d)) → (admitted (whole d) X ks e w r).1.capacity ≡ X.capacity
  by_add ks e w (added j n, W) = refl
  by_add ks e w (refused r, W) = refl
  by_add ks e w (written, W) = refl
  by_add ks e w (deleted j, W) = refl
  by_add ks e w (copies_are n, W) = refl
  by_add ks e w (branch_is r, W) = refl
  by_add ks e w (box_is b, W) = refl

  by_offer : (i : ℕ) (w : Float) (ws : List ℕ) (o : Offer) → (taken (whole d) X i w ws o).1.capacity ≡ X.capacity
  by_offer i w ws passes = refl
  by_offer i w ws begins = by_add X.sample none w (Bare.call (whole d) X.capacity X.world (add i ws))
  by_offer i w ws (evicts e ks) = by_add ks (some e) w (Bare.call (whole d) X.capacity (Bare.call (whole d) X.capacity X.world (delete e)).1 (add i ws))

  by_written : (i : ℕ) (w : Float) (x : ℕ) (ws : List ℕ) (o : Option Reading)
      → (if_written (whole d) X o (refuse (whole d) X bad_weight (not (is_number w)) (refuse (whole d) X few_words (ltb (length ws) X.capacity) (taken (whole d) X i w ws (offer X.capacity X.initial X.sample w x))))).1.capacity ≡ X.capacity
  by_written i w x ws none = refl
  by_written i w x ws (some p) =
      by_cond (λ (y : SampledAnswer (whole d) × Sampled (whole d)). y.1.capacity ≡ X.capacity) (not (is_number w)) _ _ (λ _. refl)
      (λ _. by_cond (λ (y : SampledAnswer (whole d) × Sampled (whole d)). y.1.capacity ≡ X.capacity) (ltb (length ws) X.capacity) _ _ (λ _. refl) (λ _. by_offer i w ws (offer X.capacity X.initial X.sample w x)))

  pub arrival_keeps : (i : ℕ) (w : Float) (x : ℕ) (ws : List ℕ) → (call (whole d) X (arrive i w x ws)).1.capacity ≡ X.capacity
  arrival_keeps i w x ws = by_cond (λ (y : SampledAnswer (whole d) × Sampled (whole d)). y.1.capacity ≡ X.capacity) (leb (whole d).indices i) _ _ (λ _. refl) (λ _. by_written i w x ws (X.world.table i))

  left_keeps : (s : Float) (e : RunCall d) → (left d s X e).capacity ≡ X.capacity
  left_keeps s (plain e) = refl
  left_keeps s (arrives i w x ws) = arrival_keeps i w x ws
  left_keeps s (reports n xs) = refl
  left_keeps s sample = refl

-- the numbers of a list of calls
pub length_all : (d c : ℕ) (s : Float) (X : Sampled (whole d)) (cs : List (RunCall d)) → X.capacity ≡ c → length (told_from d s X cs) ≡ widths d c cs
length_all d c s X [] h = refl
length_all d c s X (e ∷ es) h =
    length-append (told d s X e) (told_from d s (left d s X e) es)
    ∙ ap (λ (n : ℕ). n + length (told_from d s (left d s X e) es)) (length_told d s X e ∙ ap (λ (n : ℕ). width_of d n e) h)
    ∙ ap (λ (n : ℕ). width_of d c e + n) (length_all d c s (left d s X e) es (left_keeps d X s e ∙ h))
