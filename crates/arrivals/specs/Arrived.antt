-- An arrival's answer as numbers, and what an arrival gives and leaves. Definitions.
use Rattle.std.specs.Prelude.{◌≡◌, cond, List, [], ◌∷◌, ℕ, length, take, Float, Option, None, Some, Result, Ok, Err}
use Rattle.std.proofs.lemmas.List.Edits.{sets}
use Rattle.limits.specs.Limits.{capacity_limit}
use Rattle.wholetree.specs.Whole.{whole}
use Rattle.sampledtree.specs.Sampled.{Sampled, SampledAnswer, arrive, call}
use Rattle.treestore.specs.Arrays.{NodeStore}
use Rattle.samplerplustree.specs.declared.SamplerPlusTree.{SamplerPlusTree}
use Rattle.samplerplustree.specs.declared.Accepted.{Accepted}
use Rattle.refusals.specs.declared.Refusal.{Refusal}
use Rattle.refusals.specs.Refusals.{number}
use Rattle.samplerplustree.specs.declared.Offer.{Offer}
use Rattle.samplerplustree.specs.declared.Remaining.{Remaining}
use Rattle.samplerplustree.specs.State.{SampledState, head_of}
use Rattle.samplerplustree.specs.Updates.{update_says}
use Rattle.samplerplustree.specs.Offers.{offered}
use Rattle.samplerplustree.specs.Paths.{path_to}
use Rattle.samplerplustree.specs.Entering.{takes, world_remaining, RemainingState, path_left}
use Rattle.answers.specs.Said.{filled, reply_width}
use Rattle.arrivals.specs.Words.{words_used}

-- 'refusal, what became of it (0 not accepted, 1 accepted, 2 accepted and another evicted), the leaf's point index, the evicted point index'
abbrev pub accepted_numbers : (leaf : ℕ) (evicted : Option ℕ) → List ℕ
accepted_numbers j None = 0 ∷ 1 ∷ j ∷ 0 ∷ []
accepted_numbers j (Some e) = 0 ∷ 2 ∷ j ∷ e ∷ []

abbrev pub arrival_numbers : Result (Option Accepted) Refusal → List ℕ
arrival_numbers (Ok (Some a)) = accepted_numbers a.leaf a.evicted
arrival_numbers (Ok None) = 0 ∷ 0 ∷ 0 ∷ 0 ∷ []
arrival_numbers (Err r) = number r ∷ 0 ∷ 0 ∷ 0 ∷ []

-- the numbers of the answer, with 0 after them, and a state of the sampled world after the arrival
pub record Arrived (d : ℕ) (s : Float) (x : SampledAnswer (whole d) × Sampled (whole d)) (tree : SamplerPlusTree) (a : NodeStore) (points : List (List Float)) (marks : List ℕ) (weights : List Float) (held reply : List ℕ) : Type 0 where
  pub reply_is : reply ≡ filled reply_width (arrival_numbers (update_says d (head_of d s x.1) x.0))
  pub state : SampledState d s x.1 tree a points marks weights held

-- An arrival of the index i, the weight w, the word x for the starting chance and the words ws, whichever sampled world's the lent state is:
-- header, arrays and sample before it, with the table, then after it. The table is not written.
abbrev pub Arrives : ℕ → Float → ℕ → List ℕ → SamplerPlusTree → NodeStore → List (List Float) → List ℕ → List Float → List ℕ → SamplerPlusTree → NodeStore → List Float → List ℕ → List ℕ → Type 0
Arrives i w x ws tree a points marks weights held tree' a' weights' held' reply =
    (d : ℕ) (s : Float) (X : Sampled (whole d)) → SampledState d s X tree a points marks weights held
    → Arrived d s (call (whole d) X (arrive i w x ws)) tree' a' points marks weights' held' reply

-- the same from between the steps of an arrival of n words that the offer o was told for, where of the words `first` those that are looked at are the arrival's own
abbrev pub EntersBy : Result Offer Refusal → ℕ → ℕ → Float → ℕ → List ℕ → List ℕ → Remaining → NodeStore → List (List Float) → List ℕ → List Float → List ℕ → SamplerPlusTree → NodeStore → List Float → List ℕ → List ℕ → Type 0
EntersBy o n i w x first ws remaining a points marks weights held tree' a' weights' held' reply =
    (d : ℕ) (s : Float) (X : Sampled (whole d)) → RemainingState d s X o remaining a points marks weights held → o ≡ offered d X i w x n → take (words_used d X i o) first ≡ take (words_used d X i o) (take capacity_limit ws)
    → Arrived d s (call (whole d) X (arrive i w x ws)) tree' a' points marks weights' held' reply

-- the room for words after an arrival of the words ws that the offer o is told for: it reads as many as are looked at to the front
abbrev pub words_read : (d : ℕ) → Sampled (whole d) → ℕ → Result Offer Refusal → List ℕ → List ℕ → List ℕ
words_read d X i o ws words = sets words 0 (take (words_used d X i o) (take capacity_limit ws))

-- the room for words before an arrival and after it, whichever sampled world's the lent state is
abbrev pub ReadsWords : ℕ → Float → ℕ → List ℕ → SamplerPlusTree → NodeStore → List (List Float) → List ℕ → List Float → List ℕ → List ℕ → List ℕ → Type 0
ReadsWords i w x ws tree a points marks weights held words words' =
    (d : ℕ) (s : Float) (X : Sampled (whole d)) → SampledState d s X tree a points marks weights held → words' ≡ words_read d X i (offered d X i w x (length ws)) ws words

-- the path after an arrival that the offer o is told for: as the first step leaves it, and over that the walk of its reading in the tree that remains;
-- as before where the offer doesn't take the arrival
abbrev pub path_arrived : (d : ℕ) → Sampled (whole d) → ℕ → Result Offer Refusal → List (List ℕ) → List (List ℕ)
path_arrived d X i o path = cond (takes o) (path_to d X.capacity (world_remaining d X o) i (path_left d X o path)) path

-- the path before an arrival and after it, whichever sampled world's the lent state is
abbrev pub WalksPath : ℕ → Float → ℕ → List ℕ → SamplerPlusTree → NodeStore → List (List Float) → List ℕ → List Float → List ℕ → List (List ℕ) → List (List ℕ) → Type 0
WalksPath i w x ws tree a points marks weights held path path' =
    (d : ℕ) (s : Float) (X : Sampled (whole d)) → SampledState d s X tree a points marks weights held → path' ≡ path_arrived d X i (offered d X i w x (length ws)) path
