-- The numbers that are chosen, in the tree: those of the cut that it keeps, before any draw, after a node's and where a box holds the point. Assumes nothing.
use mathlib.Core.Path.{◌≡◌, refl, sym, ap, ◌∙◌}
use mathlib.Core.Bool.{Bool, true, false, not, cond}
use mathlib.Core.List.{List}
use Prim.Native.Nat.{ℕ, suc, ◌^◌, ◌≤◌, ◌<◌}
use native.Mathlib.Omega.{arith}
use lib.Dec.{T}
use lib.Ieee.{Float, nan, inf, fin, binary32, is_nan, nan_bits, to_bits, of_bits}
use lib.Ieee.Bits.{of_bits-to_bits, nan_bits_is}
use Rattle.limits.specs.Limits.{width}
use Rattle.readings.specs.Number.{is_number, Number, zero as zero_number}
use Rattle.readings.proofs.Ordered.{value_fits}
use Rattle.cut.specs.declared.Cut.{Cut}
use Rattle.cut.specs.declared.Separation.{Separation}
use Rattle.std.specs.Prelude.{Option, Some, None}
use Rattle.cut.specs.Draw.{separation}
use Rattle.cuttree.specs.Setting.{CutOf}
use Rattle.cuttree.specs.Tree.{Tree, height, walk, parted, drawn}
use Rattle.cuttree.specs.Walk.{sub, kept}
use Rattle.cuttree.proofs.Tests.{cond_false, by-test}
use Rattle.cuttree.proofs.Loop.{kept_inside}
use Rattle.wholetree.specs.Reading.{Reading}
use Rattle.wholetree.specs.Whole.{whole, cut_in}
use Rattle.wholetree.specs.Box.{parted_in}
use Rattle.wholetree.proofs.Draws.{no_cut_holds, tree_cut, draw_is, parted_is}
use Rattle.wholetree.proofs.Boxes.{tree_box}
use Rattle.wholetree.proofs.Laws.{whole_laws}
use Rattle.layout.specs.Slots.{low_of, high_of}
use Rattle.drawing.specs.declared.Chosen.{Chosen}
use Rattle.drawing.specs.Choice.{none_chosen, chosen_at, chosen_by, Numbered}
use Rattle.drawing.specs.Drawing.{no_cut, word_at}

-- a number has bits of its own
pub number_not_nan : (x : Float) → T (is_number x) → T (not (is_nan x))
unfolding is_number is_nan
number_not_nan nan t = absurd t
number_not_nan (inf s) t = absurd t
number_not_nan (fin s m e) t = tt

pub bits_back : (x : Number) → of_bits binary32 (to_bits binary32 x.value) ≡ x.value
bits_back x = of_bits-to_bits binary32 x.value (value_fits x)

pub bits_number : (x : Number) → T (not (nan_bits binary32 (to_bits binary32 x.value)))
bits_number x = rw (nan_bits_is binary32 (to_bits binary32 x.value), bits_back x) (number_not_nan x.value x.value_is_number)

-- numbers that are picked one by one are those of the cut, or those chosen before
pub chosen_picked : (a : Bool) (s : Chosen) (m : ℕ) (k : Cut) (h n b : ℕ) → h ≡ cond a m s.height → n ≡ cond a k.dimension s.dimension → b ≡ cond a (to_bits binary32 k.value) s.bits
    → record { height = h; dimension = n; bits = b } ≡ chosen_at s m k a
chosen_picked true s m k h n b x y z = rw (x, y, z)
chosen_picked false s m k h n b x y z = rw (x, y, z)

-- a kept cut as numbers
abbrev pub numbers_of : ℕ × CutOf ℕ Number → Chosen
numbers_of x = record { height = x.0; dimension = x.1.channel; bits = to_bits binary32 x.1.value.value }

pub none_is : (d : ℕ) → none_chosen ≡ numbers_of (no_cut d)
unfolding to_bits zero_number
none_is d = refl

module _ (d c : ℕ) (t : Tree (whole d)) (p : Reading) (words : List ℕ) where
  abbrev pub kept_to : ℕ → ℕ × CutOf ℕ Number
  kept_to m = kept (whole d) t p (word_at words) (no_cut d) m

  -- the draw of the node of height m
  module _ (m : ℕ) (W : word_at words m < 2 ^ 64) (s : Option Separation) (e : separation width (low_of d c (sub (whole d) t m p)) (high_of d c (sub (whole d) t m p)) p.row (word_at words m) ≡ s) where
    pub numbered : Numbered s
    numbered = go s e
      where
        go : (s : Option Separation) → separation width (low_of d c (sub (whole d) t m p)) (high_of d c (sub (whole d) t m p)) p.row (word_at words m) ≡ s → Numbered s
        go None e = tt
        go (Some v) e = (tree_cut (tree_box d (sub (whole d) t m p)) p d (word_at words m) W v e).value_is_number

    pub chosen_on : chosen_by (numbers_of (kept_to m)) m s ≡ numbers_of (kept_to (suc m))
    chosen_on = go s e (parted_is (tree_box d (sub (whole d) t m p)) p d (word_at words m) W ∙ ap parted_in e) (draw_is (tree_box d (sub (whole d) t m p)) p d (word_at words m) W ∙ ap cut_in e)
      where
        go : (s : Option Separation) → separation width (low_of d c (sub (whole d) t m p)) (high_of d c (sub (whole d) t m p)) p.row (word_at words m) ≡ s → parted (whole d) (sub (whole d) t m p) p (word_at words m) ≡ parted_in s → drawn (whole d) (sub (whole d) t m p) p (word_at words m) ≡ cut_in s
            → chosen_by (numbers_of (kept_to m)) m s ≡ numbers_of (kept_to (suc m))
        go None e b x = ap numbers_of (sym (cond_false _ _ _ b))
        go (Some v) e b x = by-test v.parts (λ q. rw (q, b ∙ q, x, (tree_cut (tree_box d (sub (whole d) t m p)) p d (word_at words m) W v e).value_is)) (λ q. rw q (ap numbers_of (sym (cond_false _ _ _ (b ∙ q)))))

    -- no cut: nothing more is kept up to the root
    pub kept_held : m ≤ height (whole d) t p → s ≡ None → kept_to (walk (whole d) t p) ≡ kept_to m
    kept_held h n = kept_inside (whole d) (whole_laws d) m (walk (whole d) t p) p t (word_at words) (no_cut d) (omega arith) (omega arith) (no_cut_holds (tree_box d (sub (whole d) t m p)) p d (word_at words m) W (e ∙ n))
