-- The numbers that a run's answers are written as are those of docs/LAYOUT.md. Assumes nothing.
use mathlib.Core.Path.{◌≡◌, refl, ap}
use mathlib.Core.Option.{Option, none, some}
use mathlib.Core.List.{List, [], ◌∷◌}
use Prim.Native.Nat.{ℕ, ◌+◌, ◌*◌, ◌-◌}
use native.Mathlib.Omega.{arith}
use lib.ListN.{replicate}
use lib.Ieee.{Float}
use Rattle.cuttree.specs.Tree.{Tree, leaf, branch}
use Rattle.cuttree.specs.Run as Bare
use Rattle.cuttree.specs.Run.{World, Call, put, add, delete, query, copies_of, branch_of, box_of, look_in, copies_found, branch_found, box_found}
use Rattle.cuttree.proofs.Refused.{by_put, by_add, by_delete}
use Rattle.wholetree.specs.Whole.{whole}
use Rattle.sampledtree.specs.Sampled.{Sampled, SampledAnswer, plain as bare, not_accepted, accepted}
use Rattle.sampledtree.specs.Arrivals.{Arrives}
use Rattle.pointstore.specs.Refusals.{same_number}
use Rattle.pointstore.specs.Puts.{put_says}
use Rattle.randomcuttree.specs.State.{header_of}
use Rattle.randomcuttree.specs.Answers.{add_says, delete_says}
use Rattle.randomcuttree.specs.Queries.{copies_say, branch_says, box_says}
use Rattle.samplerplustree.specs.State.{head_of}
use Rattle.samplerplustree.specs.Updates.{update_says}
use Rattle.answers.specs.Said.{put_numbers, add_numbers, delete_numbers, count_numbers, branch_numbers, box_numbers, said}
use Rattle.arrivals.specs.Arrived as Code
use Rattle.runlayout.specs.Check.{plain_width}
use Rattle.demand3_outputs.specs.Run.{plain_numbers, arrival_numbers}

-- of a put, an add, a delete or a query
module _ (d c : ℕ) (s : Float) where
  abbrev numbers : Call (whole d) → Bare.Answer (whole d) → List ℕ
  numbers e a = plain_numbers d (plain_width d e) a

  copies_numbers_lem : (x : ℕ) (o : Option (Tree (whole d))) → count_numbers (copies_say d (copies_found (whole d) o)) ≡ numbers (query (copies_of x)) (copies_found (whole d) o)
  copies_numbers_lem x none = refl
  copies_numbers_lem x (some (leaf i q n)) = refl
  copies_numbers_lem x (some (branch b k l r)) = refl

  branch_numbers_lem : (x : ℕ) (o : Option (Tree (whole d))) → branch_numbers (branch_says d (branch_found (whole d) c o)) ≡ numbers (query (branch_of x)) (branch_found (whole d) c o)
  branch_numbers_lem x none = refl
  branch_numbers_lem x (some (leaf i q n)) = refl
  branch_numbers_lem x (some (branch b k l r)) = refl

  no_box_lem : ◌≡◌ {A = List ℕ} (16 ∷ replicate (d + d) 0) (16 ∷ replicate (1 + 2 * d - 1) 0)
  no_box_lem = let n : d + d ≡ 1 + 2 * d - 1 = omega arith in ap (λ (m : ℕ). 16 ∷ replicate m 0) n

  box_numbers_lem : (x : ℕ) (o : Option (Tree (whole d))) → box_numbers d (box_says d (box_found (whole d) o)) ≡ numbers (query (box_of x)) (box_found (whole d) o)
  box_numbers_lem x none = no_box_lem
  box_numbers_lem x (some (leaf i q n)) = no_box_lem
  box_numbers_lem x (some (branch b k l r)) = refl

  pub numbers_are : (W : World (whole d)) (e : Call (whole d)) → said d c s e (Bare.call (whole d) c W e) ≡ numbers e (Bare.call (whole d) c W e).0
  numbers_are W (put i xs) = by_put (whole d) c (λ x. put_numbers (put_says d x.0) ≡ numbers (put i xs) x.0) W (λ m. ap (λ (n : ℕ). n ∷ []) (same_number m)) i xs (λ U _. refl)
  numbers_are W (add i ws) = by_add (whole d) c (λ x. add_numbers (add_says d (header_of d c s x.1) x.0) ≡ numbers (add i ws) x.0) W (λ m. ap (λ (n : ℕ). n ∷ 0 ∷ 0 ∷ []) (same_number m)) i ws (λ j n U _. refl)
  numbers_are W (delete i) = by_delete (whole d) c (λ x. delete_numbers (delete_says d (header_of d c s x.1) x.0) ≡ numbers (delete i) x.0) W (λ m. ap (λ (n : ℕ). n ∷ 0 ∷ []) (same_number m)) i (λ j U _. refl)
  numbers_are W (query (copies_of x)) = copies_numbers_lem x (look_in (whole d) c W.tree x)
  numbers_are W (query (branch_of x)) = branch_numbers_lem x (look_in (whole d) c W.tree x)
  numbers_are W (query (box_of x)) = box_numbers_lem x (look_in (whole d) c W.tree x)

-- of an arrival
pub arrival_numbers_lem : (d : ℕ) (s : Float) (X : Sampled (whole d)) (i : ℕ) (w : Float) (ws : List ℕ) (z : SampledAnswer (whole d) × Sampled (whole d)) → Arrives (whole d) X i w ws z
    → Code.arrival_numbers (update_says d (head_of d s z.1) z.0) ≡ arrival_numbers d z.0
arrival_numbers_lem d s X i w ws (bare a, Y) ((r, e), same) = rw e (ap (λ (n : ℕ). n ∷ 0 ∷ 0 ∷ 0 ∷ []) (same_number r))
arrival_numbers_lem d s X i w ws (not_accepted, Y) same = refl
arrival_numbers_lem d s X i w ws (accepted j none, Y) A = refl
arrival_numbers_lem d s X i w ws (accepted j (some e), Y) A = refl
