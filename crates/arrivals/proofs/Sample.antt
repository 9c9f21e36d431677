-- The numbers of slots, written one slot after another, and those of a sample. Assumes nothing.
use mathlib.Core.Path.{◌≡◌, refl, sym, ap, ◌∙◌}
use mathlib.Core.List.{List, [], ◌∷◌, ◌++◌, map}
use Prim.Native.Nat.{ℕ, zero, suc, ◌+◌, ◌-◌, ◌*◌, ◌≤◌}
use native.Mathlib.Omega.{arith}
use lib.ListN.{length, get_or, drop, replicate}
use lib.Seq.{sets, length-sets}
use lib.Ieee.{Float, nan, binary32, to_bits}
use Rattle.limits.specs.Limits.{capacity_limit}
use Rattle.readings.specs.Number.{nought}
use Rattle.little.specs.Little.{bytes_of}
use Rattle.sampler.specs.Sample.{Entry, entries_in}
use Rattle.sampler.proofs.Places.{entries_next}
use Rattle.wholetree.specs.Whole.{whole}
use Rattle.sampledtree.specs.Sampled.{Sampled}
use Rattle.treestore.specs.Arrays.{NodeStore}
use Rattle.samplerplustree.specs.declared.SamplerPlusTree.{SamplerPlusTree}
use Rattle.samplerplustree.specs.State.{SampledState}
use Rattle.answers.specs.Said.{filled}
use Rattle.answers.proofs.Told.{filled_length}
use Rattle.answers.proofs.Written.{then_more}
use Rattle.arrivals.specs.Sample.{entry_numbers, sample_numbers, SampleWidth, sample_read, SampleWritten}

-- ---- the slots: their numbers, and how many these are
numbers_append : (ks ls : List Entry) → entry_numbers (ks ++ ls) ≡ entry_numbers ks ++ entry_numbers ls
numbers_append [] ls = refl
numbers_append (k ∷ ks) ls = ap {B = List ℕ} (λ l. to_bits binary32 k.weight ∷ k.index ∷ l) (numbers_append ks ls)

numbers_length : (n : ℕ) (weights : List Float) (held : List ℕ) → length (entry_numbers (entries_in n weights held)) ≡ 2 * n
unfolding entries_in
numbers_length zero weights held = refl
numbers_length (suc n) weights held = omega (arith, numbers_length n (drop 1 weights) (drop 1 held))

module _ (weights : List Float) (held : List ℕ) (out i : ℕ) (e₀ e : List ℕ) (f : e ≡ sets e₀ (4 * out) (bytes_of (entry_numbers (entries_in i weights held)))) where
  pub same_answers : length e ≡ length e₀
  same_answers = ap length f ∙ length-sets e₀ (4 * out) (bytes_of (entry_numbers (entries_in i weights held)))

  -- one slot more is written
  pub slot_turn : (e' : List ℕ) (x y : ℕ) → x ≡ to_bits binary32 (get_or weights i nan) → y ≡ get_or held i 0 → e' ≡ sets e (4 * (out + 2 * i)) (bytes_of (x ∷ y ∷ []))
      → e' ≡ sets e₀ (4 * out) (bytes_of (entry_numbers (entries_in (i + 1) weights held)))
  slot_turn e' x y p q g =
      let next : i + 1 ≡ suc i = omega arith in
      let k : Entry = record { weight = get_or weights i nan; index = get_or held i 0 } in
      then_more out e₀ e e' (entry_numbers (entries_in i weights held)) (entry_numbers (k ∷ [])) (4 * (out + 2 * i)) (omega (arith, numbers_length i weights held)) f (rw (p, q) at g)
      ∙ ap (λ (l : List ℕ). sets e₀ (4 * out) (bytes_of l)) (sym (ap entry_numbers (ap (λ (n : ℕ). entries_in n weights held) next ∙ entries_next i weights held) ∙ numbers_append (entries_in i weights held) (k ∷ [])))

-- ---- the sample, whose numbers end in zeros
pub sample_width : SampleWidth
sample_width c ks = omega (arith, filled_length (2 * c) (entry_numbers ks))

-- zeros in the slots beyond the entries are the numbers filled up with
slots_filled : (c : ℕ) (ks : List Entry) (m : ℕ) → c ≤ length ks + m
    → entry_numbers (entries_in c (map (λ k. k.weight) ks ++ replicate m nought) (map (λ k. k.index) ks ++ replicate m 0)) ≡ filled (2 * c) (entry_numbers ks)
unfolding entries_in filled to_bits
slots_filled zero ks m h = refl
slots_filled (suc c) (k ∷ ks) m h =
    let two : suc (suc (2 * c)) ≡ 2 * suc c = omega arith in
    ap {B = List ℕ} (λ l. to_bits binary32 k.weight ∷ k.index ∷ l) (slots_filled c ks m (omega arith)) ∙ ap (λ (n : ℕ). filled n (entry_numbers (k ∷ ks))) two
slots_filled (suc c) [] zero h = absurd (omega arith)
slots_filled (suc c) [] (suc m) h =
    let two : suc (suc (2 * c)) ≡ 2 * suc c = omega arith in
    ap {B = List ℕ} (λ l. 0 ∷ 0 ∷ l) (slots_filled c [] m (omega arith)) ∙ ap (λ (n : ℕ). filled n []) two

sample_is : (d : ℕ) (s : Float) (X : Sampled (whole d)) (h : SamplerPlusTree) (a : NodeStore) (points : List (List Float)) (marks : List ℕ) (weights : List Float) (held : List ℕ)
    → SampledState d s X h a points marks weights held → sample_read h weights held ≡ sample_numbers X.capacity X.sample
sample_is d s X h a points marks weights held S =
    rw (S.head_is, S.weights_are, S.held_are) (ap {B = List ℕ} (λ l. 0 ∷ length X.sample ∷ l) (slots_filled X.capacity X.sample (capacity_limit - length X.sample) (omega (arith, S.agrees.room, S.tree_is.limits.3))))

pub sample_written : (h : SamplerPlusTree) (weights : List Float) (held before first after : List ℕ) (out size c : ℕ) → size ≡ h.sampler.current_size → c ≡ h.sampler.capacity
    → first ≡ sets before (4 * out) (bytes_of (0 ∷ size ∷ [])) → after ≡ sets first (4 * (out + 2)) (bytes_of (entry_numbers (entries_in c weights held))) → SampleWritten h weights held before out after
sample_written h weights held before first after out size c p q f g =
    let e : after ≡ sets before (4 * out) (bytes_of (sample_read h weights held)) = rw (← p, ← q) (then_more out before first after (0 ∷ size ∷ []) (entry_numbers (entries_in c weights held)) (4 * (out + 2)) (omega arith) f g) in
    record { read = e; told = λ d s X a points marks S. e ∙ ap (λ (l : List ℕ). sets before (4 * out) (bytes_of l)) (sample_is d s X h a points marks weights held S) }
