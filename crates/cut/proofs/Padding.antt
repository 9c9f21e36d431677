-- Channels that hold +0.0 in box and point change no cut. Assumes nothing.
use Rattle.std.proofs.Common.{◌≡◌, ℕ, zero, suc, ◌+◌, ◌-◌, ◌*◌, ◌/◌, ◌^◌, ◌<◌, ◌≤◌, Bool, true, false, cond, Some, List, sym, refl, ap, ◌∙◌, subst, le_trans, le_refl, arith}
use native.Mathlib.Nat.{sub_self}
use lib.Ieee.{Float, binary64, round, lt}
use lib.Ieee.Positive.{num, den}
use borrow.Table.Steps.{cases as by-test}
use Rattle.readings.specs.Coordinate.{rank}
use Rattle.boundingbox.specs.Ends.{least, greatest}
use Rattle.readings.specs.Number.{nought}
use Rattle.boundingbox.specs.Contained.{contains}
use Rattle.boundingbox.specs.Wholes.{side, sum_to}
use Rattle.boundingbox.proofs.Sums.{sum_padded}
use Rattle.boundingbox.proofs.Padding.{padded_contains}
use Rattle.cut.specs.declared.Cut.{Cut}
use Rattle.cut.specs.Paper.{falls, first, channel_at, rest_at}
use Rattle.cut.specs.Draw.{low_end, high_end, parts_at, separation}
use Rattle.cut.specs.Document.{number_drawn, channel_of, rest_of, cut_of, document_cut}
use Rattle.cut.specs.Laws.{Readings, Padded, PaddingCutsNothing}
use Rattle.cut.proofs.First.{Found}
use Rattle.cut.proofs.Stretched.{stretched}
use Rattle.cut.proofs.AsDocument.{as_document, some_side}
use Rattle.cut.proofs.Within.{channel_found}

-- a channel found among d is found among more
first_pad : (g : ℕ → ℕ) (q c k d i : ℕ) → Found g q c d i (first g q c d i) → first g q c (d + k) i ≡ first g q c d i
unfolding first
first_pad g q c k zero i f = absurd (none i f.within)
  where
    none : (i : ℕ) → i < i + 0 → ⊥
    none i h = omega arith
first_pad g q c k (suc d) i f = ap (λ (m : ℕ). first g q c m i) (next d k) ∙ by-test (falls g q c i) (λ t. rw t refl) (λ t. rw t (first_pad g q c k d (i + 1) (later t f)))
  where
    next : (d k : ℕ) → suc d + k ≡ suc (d + k)
    next d k = omega arith

    move : (i d x : ℕ) → x < i + suc d → x < i + 1 + d
    move i d x h = omega arith

    later : falls g q c i ≡ false → Found g q c (suc d) i (cond (falls g q c i) i (first g q c d (i + 1))) → Found g q c d (i + 1) (first g q c d (i + 1))
    later t f = let h = rw t at f in record { within = move i d (first g q c d (i + 1)) h.within; short_there = h.short_there; falls_there = h.falls_there }

-- ---- the cut
nought_least : least nought nought ≡ nought
unfolding least
nought_least = cond_same (lt nought nought) nought
  where
    cond_same : (b : Bool) (x : Float) → cond b x x ≡ x
    cond_same true x = refl
    cond_same false x = refl

nought_greatest : greatest nought nought ≡ nought
unfolding greatest
nought_greatest = cond_same (lt nought nought) nought
  where
    cond_same : (b : Bool) (x : Float) → cond b x x ≡ x
    cond_same true x = refl
    cond_same false x = refl

-- all channels of a row may be a tree's
pub none_padded : (n : ℕ) (lo hi p : List Float) → Padded lo hi p n n
none_padded n lo hi p = record { fewer = le_refl n; low = λ i a b. absurd (none i a b); high = λ i a b. absurd (none i a b); point = λ i a b. absurd (none i a b) }
  where
    none : (i : ℕ) → n ≤ i → i < n → ⊥
    none i a b = omega arith

pub fewer : (d n : ℕ) (lo hi p : List Float) → d ≤ n → Readings lo hi p n → Readings lo hi p d
fewer d n lo hi p l R = record {
  box = record {
    few = le_trans l R.box.few;
    lower = λ i h. R.box.lower i (le_trans h l);
    upper = λ i h. R.box.upper i (le_trans h l);
    ordered = λ i h. R.box.ordered i (le_trans h l);
  };
  point = λ i h. R.point i (le_trans h l);
}

-- a side of padding is zero
pub padded_side : (d n : ℕ) (lo hi p : List Float) → Padded lo hi p d n → (i : ℕ) → d ≤ i → i < n → side (low_end lo p) (high_end hi p) i ≡ 0
padded_side d n lo hi p Z i a b = rw (Z.low i a b, Z.high i a b, Z.point i a b, nought_least, nought_greatest) (sub_self (rank nought))

module _ (d k : ℕ) (lo hi p : List Float) (Z : Padded lo hi p d (d + k)) (R : Readings lo hi p (d + k)) where
  less : Readings lo hi p d
  less = fewer d (d + k) lo hi p Z.fewer R

  held : contains lo hi p p (d + k) ≡ contains lo hi p p d
  held = padded_contains lo hi p p d (d + k) Z.fewer Z.low Z.high Z.point Z.point

  abbrev g : ℕ → ℕ
  g = side (low_end lo p) (high_end hi p)

  sums : sum_to (side (low_end lo p) (high_end hi p)) (d + k) ≡ sum_to (side (low_end lo p) (high_end hi p)) d
  sums = sum_padded (side (low_end lo p) (high_end hi p)) d (d + k) Z.fewer (padded_side d (d + k) lo hi p Z)

  module _ (w : ℕ) (W : w < 2 ^ 64) (o : contains lo hi p p d ≡ false) where
    abbrev q : Float
    q = number_drawn (low_end lo p) (high_end hi p) d w

    numbers : number_drawn (low_end lo p) (high_end hi p) (d + k) w ≡ number_drawn (low_end lo p) (high_end hi p) d w
    unfolding number_drawn
    numbers = ap (λ (s : ℕ). round binary64 false (s * (w / 2 ^ 11)) (2 ^ 53)) sums

    channels : channel_at (side (low_end lo p) (high_end hi p)) (d + k) (num q) (den q) ≡ channel_at (side (low_end lo p) (high_end hi p)) d (num q) (den q)
    unfolding channel_at channel_of
    channels = first_pad g (num q) (den q) k d 0 (channel_found (low_end lo p) (high_end hi p) d (stretched lo hi p d less) w W (some_side lo hi p d less o))

    cuts : cut_of (low_end lo p) (high_end hi p) (d + k) w ≡ cut_of (low_end lo p) (high_end hi p) d w
    unfolding cut_of channel_of rest_of rest_at
    cuts = rw (numbers, channels) refl

  documents : (w : ℕ) → w < 2 ^ 64 → document_cut (d + k) lo hi p w ≡ document_cut d lo hi p w
  unfolding document_cut
  documents w W = rw held (by-test (contains lo hi p p d) (λ t. rw t refl) (λ t. rw t (ap (λ (c : Cut). Some (record { cut = c; parts = parts_at lo hi p c })) (cuts w W t))))

pub padding_cuts_nothing : PaddingCutsNothing
padding_cuts_nothing d n lo hi p w Z R W =
    subst (λ (m : ℕ). Padded lo hi p d m → Readings lo hi p m → separation m lo hi p w ≡ separation d lo hi p w) (sym (split d n Z.fewer))
    (λ Y Q. as_document (d + (n - d)) lo hi p w Q W ∙ documents d (n - d) lo hi p Y Q w W ∙ sym (as_document d lo hi p w (less d (n - d) lo hi p Y Q) W))
    Z R
  where
    split : (d n : ℕ) → d ≤ n → n ≡ d + (n - d)
    split d n h = omega arith
