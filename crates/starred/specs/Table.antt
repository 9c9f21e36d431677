-- The table of document 01's starred cases, and the one check of all of them, which is computed.
use Rattle.std.specs.Prelude.{◌≡◌, refl, true, List, [], ◌∷◌, ℕ}
use Rattle.std.specs.Float.{binary32}
use Rattle.std.specs.Float.Ieee.{of_bits}
use Rattle.wholetree.specs.Whole.{whole}
use Rattle.sampledtree.specs.Sampled.{SampledCall, put as put_sampled, arrive}
use Rattle.starred.specs.Cases.{Case, cuts, narrows, lists, chances, samples, floats, all}
use Rattle.cuttree.specs.Run.{put, add}

-- an arrival of an index and the bits of a weight, with a word for the chance and two for the tree
abbrev arrival : ℕ → ℕ → SampledCall (whole 1)
arrival i w = arrive i (of_bits binary32 w) 0x8000_0000_0000_0000 (0x8000_0000_0000_0000 ∷ 0x8000_0000_0000_0000 ∷ [])

-- three readings, 0, 8 and 2, and arrivals of the first two with the weights −1 and −3
abbrev two_held : List (SampledCall (whole 1))
two_held = put_sampled 0 (floats (0 ∷ [])) ∷ put_sampled 1 (floats (0x4100_0000 ∷ [])) ∷ put_sampled 2 (floats (0x4000_0000 ∷ [])) ∷ arrival 0 0xbf80_0000 ∷ arrival 1 0xc040_0000 ∷ []

-- f32 bits: 0 is 00000000, 2 is 40000000, 4 is 40800000, 6 is 40C00000, 8 is 41000000
pub table : List Case
table =
    -- 'Leaf 0, point 8: word 0 cuts at 0; word 8000000000000000 at 4; all ones at 0, as 8 isn't below 8'
    cuts (0 ∷ []) (0x4100_0000 ∷ []) 0 0 0
    ∷ cuts (0 ∷ []) (0x4100_0000 ∷ []) 0x8000_0000_0000_0000 0 0x4080_0000
    ∷ cuts (0 ∷ []) (0x4100_0000 ∷ []) 0xffff_ffff_ffff_ffff 0 0
    -- 'Leaf (0,0), point (2,6): word 4000000000000000 cuts channel 0 at 0; 8000000000000000 channel 1 at 2'
    ∷ cuts (0 ∷ 0 ∷ []) (0x4000_0000 ∷ 0x40c0_0000 ∷ []) 0x4000_0000_0000_0000 0 0
    ∷ cuts (0 ∷ 0 ∷ []) (0x4000_0000 ∷ 0x40c0_0000 ∷ []) 0x8000_0000_0000_0000 1 0x4000_0000
    -- '1048576.0625 narrows to 1048576; 1048576.1875 to 1048576.25'
    ∷ narrows 0x4130_0000_1000_0000 0x4980_0000
    ∷ narrows 0x4130_0000_3000_0000 0x4980_0002
    -- 'The list above, its third add taking 2 words'
    ∷ lists 1 4
    (put 0 (floats (0 ∷ [])) ∷ put 1 (floats (0x4100_0000 ∷ [])) ∷ put 2 (floats (0x4000_0000 ∷ [])) ∷ add 0 [] ∷ add 1 (0x8000_0000_0000_0000 ∷ []) ∷ [])
    2 (0x8000_0000_0000_0000 ∷ 0x8000_0000_0000_0000 ∷ []) 2 2
    "id dimension cut left right mass\n0 0 40800000 1 5 3\n1 0 3F800000 4 6 2\n4 - - - - 1\n6 - - - - 1\n5 - - - - 1\n"
    -- 'Box 0 to 8, query 12: 3FD5555555555555; query 8: 0'; 12 is 41400000
    ∷ chances (0 ∷ []) (0x4100_0000 ∷ []) (0x4140_0000 ∷ []) 0x3fd5_5555_5555_5555
    ∷ chances (0 ∷ []) (0x4100_0000 ∷ []) (0x4100_0000 ∷ []) 0
    -- 'Capacity 2, initial share 1, three different readings, weights −1, −3, −1: the third is not accepted; −2 in its place evicts the first'
    ∷ samples 1 2 0x3ff0_0000_0000_0000 two_held (arrival 2 0xbf80_0000) []
    ∷ samples 1 2 0x3ff0_0000_0000_0000 two_held (arrival 2 0xc000_0000) (2 ∷ 0 ∷ [])
    ∷ []

pub starred : all table ≡ true
unfolding table all
starred = refl
