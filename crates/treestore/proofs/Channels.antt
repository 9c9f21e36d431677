-- A cut that a tree draws is on one of the tree's channels, and the one that is kept is on one of the row's. Assumes nothing.
use mathlib.Core.Path.{◌≡◌, refl, sym}
use Prim.Native.Nat.{ℕ, zero, suc, ◌%◌, ◌^◌, ◌≤◌, ◌<◌}
use native.Mathlib.Nat.{mod-lt}
use native.Mathlib.Omega.{arith}
use lib.Pow.{pow_pos}
use Rattle.limits.specs.Limits.{width}
use Rattle.boundingbox.specs.Padding.{Padded}
use Rattle.cut.specs.declared.Separation.{Separation}
use Rattle.std.specs.Prelude.{Option, Some, None}
use Rattle.cut.specs.Draw.{separation}
use Rattle.cut.proofs.Turns.{drawn_below}
use Rattle.cuttree.specs.Setting.{Cut}
use Rattle.cuttree.specs.Tree.{Tree, lo, hi, drawn, parted, All}
use Rattle.cuttree.specs.Walk.{sub, kept}
use Rattle.cuttree.proofs.Tests.{by_cond}
use Rattle.readings.specs.Number.{Number}
use Rattle.wholetree.specs.Reading.{Reading}
use Rattle.wholetree.specs.Whole.{whole, ends, cut_in}
use Rattle.wholetree.proofs.Paper.{drawn_on_channels, tree_channels}
use Rattle.drawing.specs.Drawing.{no_cut}

module _ (d : ℕ) where
  -- where n channels draw what the row draws, the cut is on one of them
  draw_channel : (n : ℕ) (lo hi : ℕ → Number) (p : Reading) (w : ℕ) → 0 < n → separation width (ends lo) (ends hi) p.row (w % 2 ^ 64) ≡ separation n (ends lo) (ends hi) p.row (w % 2 ^ 64) → ((whole d).draw lo hi p w).channel < n
  draw_channel n lo hi p w h = go (separation width (ends lo) (ends hi) p.row (w % 2 ^ 64))
    where
      go : (s : Option Separation) → s ≡ separation n (ends lo) (ends hi) p.row (w % 2 ^ 64) → (cut_in s).channel < n
      go None e = h
      go (Some v) e = drawn_below n (ends lo) (ends hi) p.row (w % 2 ^ 64) v (sym e)

  -- so it is with the tree's d channels, beyond which its readings have +0.0
  pub tree_channel : (t : Tree (whole d)) (p : Reading) (w : ℕ) → 1 ≤ d → d ≤ width → All (whole d) (λ i q n. Padded q.row d width) t → Padded p.row d width → (drawn (whole d) t p w).channel < d
  tree_channel t p w l m h z = draw_channel d (lo (whole d) t) (hi (whole d) t) p w l (drawn_on_channels (tree_channels d t p m h z) (w % 2 ^ 64) (mod-lt w (pow_pos 64)))

  pub kept_channel : (t : Tree (whole d)) (p : Reading) (w : ℕ → ℕ) (m : ℕ) → (kept (whole d) t p w (no_cut d) m).1.channel < width
  kept_channel t p w zero = omega arith
  kept_channel t p w (suc m) = by_cond (λ (x : ℕ × Cut (whole d)). x.1.channel < width) (parted (whole d) (sub (whole d) t m p) p (w m)) _ _ (λ _. draw_channel width (lo (whole d) (sub (whole d) t m p)) (hi (whole d) (sub (whole d) t m p)) p (w m) (omega arith) refl) (λ _. kept_channel t p w m)
