-- What is printed where an archive ends: the sample that is kept, then the tree, as bytes; and how long it is at most. Definitions and a statement.
use Rattle.std.specs.Prelude.{◌≡◌, refl, List, [], ◌∷◌, ◌++◌, ℕ, ◌+◌, ◌*◌, ◌≤◌, length, Float}
use Rattle.limits.specs.Limits.{capacity_limit}
use Rattle.std.specs.Float.{binary32}
use Rattle.std.specs.Float.Ieee.{of_bits, to_bits}
use Rattle.text.specs.Quoted.{bytes}
use Rattle.lines.specs.Lines.{digit, decimal_in, decimal, hex, last_number_field}
use Rattle.sampler.specs.Sample.{Entry}
use Rattle.wholetree.specs.Whole.{whole}
use Rattle.sampledtree.specs.Sampled.{Sampled}
use Rattle.treestore.specs.Arrays.{NodeStore}
use Rattle.samplerplustree.specs.declared.SamplerPlusTree.{SamplerPlusTree}
use Rattle.samplerplustree.specs.State.{SampledState}
use Rattle.printed.specs.Printed.{printed_tree, tree_limit}

-- The line of an arrival that is kept: 'the bits of the weight and the point index', the bits as 'cut bits 8 upper-case hexadecimal digits' are. Document 01,
-- 'Printed tree': 'One space stands between fields, and every line, the last too, ends in a line feed.'
unfoldable pub entry_line : (bits index : ℕ) → List ℕ
entry_line bits index = hex 8 bits ++ (32 ∷ []) ++ last_number_field index

example_entry : entry_line (to_bits binary32 (of_bits binary32 0xbf80_0000)) 7 ≡ bytes "BF800000 7\n"
unfolding entry_line decimal decimal_in hex digit of_bits to_bits
example_entry = refl

-- a line for each, 'in the heap's order'
abbrev pub entry_lines : List Entry → List ℕ
entry_lines [] = []
entry_lines (k ∷ ks) = entry_line (to_bits binary32 k.weight) k.index ++ entry_lines ks

-- 'a line of names, then lines of values'
abbrev pub sample_names : List ℕ
sample_names = bytes "weight index\n"

-- the sample, then the printed tree of document 01
abbrev pub end_lines : (d : ℕ) → Sampled (whole d) → List ℕ
end_lines d X = sample_names ++ entry_lines X.sample ++ printed_tree d X.capacity X.world.tree

-- 16,399 bytes: a line of names of 13, as many kept arrivals of 14 as a tree has leaves, and a tree
abbrev pub end_limit : ℕ
end_limit = 13 + capacity_limit * 14 + tree_limit

-- No sampled tree prints more. Proved in proofs/Sizes.antt.
abbrev pub EndFits : Type 0
EndFits = (d : ℕ) (s : Float) (X : Sampled (whole d)) (h : SamplerPlusTree) (a : NodeStore) (points : List (List Float)) (marks : List ℕ) (weights : List Float) (held : List ℕ)
    → SampledState d s X h a points marks weights held → length (end_lines d X) ≤ end_limit
