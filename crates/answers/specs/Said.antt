-- The numbers that a run's answers are made of (docs/LAYOUT.md, 'The answers'). Definitions.
use Rattle.std.specs.Prelude.{List, [], ◌∷◌, ◌++◌, ℕ, zero, suc, ◌+◌, ◌*◌, replicate, Float, Result, Ok, Err}
use Rattle.std.specs.Float.{binary32}
use Rattle.std.specs.Float.Ieee.{to_bits}
use Rattle.limits.specs.Limits.{width}
use Rattle.boundingbox.specs.Ends.{channel}
use Rattle.cuttree.specs.Run.{World, Answer, Call, put, add, delete, query, copies_of, branch_of, box_of, call}
use Rattle.wholetree.specs.Whole.{whole, tab}
use Rattle.refusals.specs.declared.Refusal.{Refusal}
use Rattle.refusals.specs.Refusals.{number}
use Rattle.pointstore.specs.Puts.{put_says}
use Rattle.boundingbox.specs.declared.BoundingBox.{BoundingBox}
use Rattle.randomcuttree.specs.declared.Added.{Added}
use Rattle.randomcuttree.specs.declared.Deleted.{Deleted}
use Rattle.randomcuttree.specs.declared.BranchRow.{BranchRow}
use Rattle.randomcuttree.specs.State.{header_of}
use Rattle.randomcuttree.specs.Answers.{add_says, delete_says}
use Rattle.randomcuttree.specs.Queries.{copies_say, branch_says, box_says}

-- docs/LAYOUT.md: 'Each answer begins with the refusal's number, 0 where there is none. A refused call changes nothing, and its other numbers are 0.'
abbrev pub put_numbers : Result Unit Refusal → List ℕ
put_numbers (Ok u) = 0 ∷ []
put_numbers (Err r) = number r ∷ []

-- 'refusal, the leaf's point index, words taken'
abbrev pub add_numbers : Result Added Refusal → List ℕ
add_numbers (Ok a) = 0 ∷ a.leaf ∷ a.words ∷ []
add_numbers (Err r) = number r ∷ 0 ∷ 0 ∷ []

-- 'refusal, the leaf's point index'
abbrev pub delete_numbers : Result Deleted Refusal → List ℕ
delete_numbers (Ok a) = 0 ∷ a.leaf ∷ []
delete_numbers (Err r) = number r ∷ 0 ∷ []

-- 'refusal, copies', and of a report 'refusal, number of rows written'
abbrev pub count_numbers : Result ℕ Refusal → List ℕ
count_numbers (Ok n) = 0 ∷ n ∷ []
count_numbers (Err r) = number r ∷ 0 ∷ []

-- 'refusal, channel, bits of the cut, left id, right id, mass'
abbrev pub branch_numbers : Result BranchRow Refusal → List ℕ
branch_numbers (Ok b) = 0 ∷ b.cut.dimension ∷ to_bits binary32 b.cut.value ∷ b.left ∷ b.right ∷ b.mass ∷ []
branch_numbers (Err r) = number r ∷ 0 ∷ 0 ∷ 0 ∷ 0 ∷ 0 ∷ []

-- 'refusal, then a lower end for each channel, then an upper end for each, as bits'
abbrev pub end_bits : ℕ → List Float → List ℕ
end_bits d xs = tab d (λ (i : ℕ). to_bits binary32 (channel xs i))

abbrev pub box_numbers : ℕ → Result BoundingBox Refusal → List ℕ
box_numbers d (Ok b) = 0 ∷ (end_bits d b.min_values ++ end_bits d b.max_values)
box_numbers d (Err r) = number r ∷ replicate (d + d) 0

-- the numbers of the longest answer, a box's
abbrev pub reply_width : ℕ
reply_width = 1 + 2 * width

-- the first n of xs, with 0 after its end
unfoldable pub filled : ℕ → List ℕ → List ℕ
filled zero xs = []
filled (suc n) [] = 0 ∷ filled n []
filled (suc n) (x ∷ xs) = x ∷ filled n xs

-- a tree of d channels, capacity c and the cached share s
module _ (d c : ℕ) (s : Float) where
  -- what a call's answer, and the world after it, say
  abbrev pub said : Call (whole d) → Answer (whole d) × World (whole d) → List ℕ
  said (put i x) r = put_numbers (put_says d r.0)
  said (add i ws) r = add_numbers (add_says d (header_of d c s r.1) r.0)
  said (delete i) r = delete_numbers (delete_says d (header_of d c s r.1) r.0)
  said (query (copies_of x)) r = count_numbers (copies_say d r.0)
  said (query (branch_of x)) r = branch_numbers (branch_says d r.0)
  said (query (box_of x)) r = box_numbers d (box_says d r.0)

  -- and those of a list of calls
  abbrev pub said_from : World (whole d) → List (Call (whole d)) → List ℕ
  said_from W [] = []
  said_from W (x ∷ xs) = said x (call (whole d) c W x) ++ said_from (call (whole d) c W x).1 xs
