-- The cut that a tree of d channels draws, though its rows may be wider: document 01's on those d channels, which stands to the paper's as `Papers` says. Both statements are proved in proofs/Paper.antt.
use Rattle.std.specs.Prelude.{◌≡◌, Bool, false, ℕ, ◌^◌, ◌≤◌, ◌<◌, Float}
use Rattle.limits.specs.Limits.{width}
use Rattle.boundingbox.specs.Contained.{contains}
use Rattle.boundingbox.specs.Padding.{Padded}
use Rattle.cut.specs.declared.Cut.{Cut}
use Rattle.cut.specs.Draw.{low_end, high_end}
use Rattle.cut.specs.Document.{cut_of}
use Rattle.cut.specs.Laws.{Papers}
use Rattle.cuttree.specs.Setting.{CutOf}
use Rattle.cuttree.specs.Tree.{Tree, lo, hi, All}
use Rattle.readings.specs.Number.{Number}
use Rattle.wholetree.specs.Reading.{Reading}
use Rattle.wholetree.specs.Whole.{ends, whole}
use Rattle.wholetree.specs.Box.{CoordinateBox}

-- a box of coordinates and a reading, both of d channels: +0.0 stands in the others
pub record OfChannels (d : ℕ) (lo hi : ℕ → Number) (p : Reading) : Type 0 where
  pub in_row : d ≤ width
  pub box : CoordinateBox lo hi
  pub lower : Padded (ends lo) d width
  pub upper : Padded (ends hi) d width
  pub point : Padded p.row d width

-- the box holds the reading
abbrev pub holds : ℕ → (ℕ → Number) → (ℕ → Number) → Reading → Bool
holds d lo hi p = contains (ends lo) (ends hi) p.row p.row d

-- the ends of the box with the reading in it
abbrev pub low_with : (ℕ → Number) → Reading → ℕ → Float
low_with lo p = low_end (ends lo) p.row

abbrev pub high_with : (ℕ → Number) → Reading → ℕ → Float
high_with hi p = high_end (ends hi) p.row

-- the channel and the f32 of a tree's cut
abbrev pub as_cut : CutOf ℕ Number → Cut
as_cut k = record { dimension = k.channel; value = k.value.value }

-- k is document 01's cut, on d channels, of the box with the reading in it
pub record PaperCut (d : ℕ) (lo hi : ℕ → Number) (p : Reading) (w : ℕ) (k : Cut) : Type 0 where
  pub channel_below : k.dimension < d
  pub document : k ≡ cut_of (low_with lo p) (high_with hi p) d w
  pub papers : Papers (low_with lo p) (high_with hi p) d w k

-- Where the box does not hold the reading, the tree draws that cut.
abbrev pub DrawsPaperCut : Type 0
DrawsPaperCut = (d : ℕ) (lo hi : ℕ → Number) (p : Reading) (w : ℕ) → OfChannels d lo hi p → holds d lo hi p ≡ false → w < 2 ^ 64 → PaperCut d lo hi p w (as_cut ((whole d).draw lo hi p w))

-- So it does at every tree whose leaves have readings of d channels.
abbrev pub TreesDrawPaperCut : Type 0
TreesDrawPaperCut = (d : ℕ) (t : Tree (whole d)) (p : Reading) (w : ℕ) → d ≤ width → All (whole d) (λ i q n. Padded q.row d width) t → Padded p.row d width
    → holds d (lo (whole d) t) (hi (whole d) t) p ≡ false → w < 2 ^ 64 → PaperCut d (lo (whole d) t) (hi (whole d) t) p w (as_cut ((whole d).draw (lo (whole d) t) (hi (whole d) t) p w))
