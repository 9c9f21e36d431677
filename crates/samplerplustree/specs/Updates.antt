-- What an arrival answers, refusals by name and document 01's values, and what it leaves. Definitions.
use Rattle.std.specs.Prelude.{◌≡◌, List, ℕ, Float, Option, None, Some, Result, Ok, Err}
use Rattle.std.proofs.Math.Option.{none, some}
use Rattle.cuttree.specs.Run.{refused, written, added, deleted, copies_are, branch_is, box_is}
use Rattle.wholetree.specs.Whole.{whole}
use Rattle.sampledtree.specs.Sampled.{Sampled, SampledAnswer, plain, not_accepted, accepted, arrive, call}
use Rattle.treestore.specs.Arrays.{NodeStore}
use Rattle.samplerplustree.specs.declared.SamplerPlusTree.{SamplerPlusTree}
use Rattle.samplerplustree.specs.declared.Accepted.{Accepted}
use Rattle.refusals.specs.declared.Refusal.{Refusal}
use Rattle.pointstore.specs.Refusals.{refusal_of}
use Rattle.samplerplustree.specs.State.{SampledState, head_of}

-- 'The answer: not accepted, or the leaf's index and the evicted index if any', with the header after the call
abbrev pub accepted_by : SamplerPlusTree → ℕ → Option ℕ → Result (Option Accepted) Refusal
accepted_by h j e = Ok (Some (record { tree = h; leaf = j; evicted = e }))

-- That, or the refusal. An arrival has no other answer.
abbrev pub update_says : (d : ℕ) → SamplerPlusTree → SampledAnswer (whole d) → Result (Option Accepted) Refusal
update_says d h (plain (refused r)) = Err (refusal_of r)
update_says d h not_accepted = Ok None
update_says d h (accepted j none) = accepted_by h j None
update_says d h (accepted j (some e)) = accepted_by h j (Some e)
update_says d h (plain written) = Ok None
update_says d h (plain (added j n)) = Ok None
update_says d h (plain (deleted j)) = Ok None
update_says d h (plain (copies_are n)) = Ok None
update_says d h (plain (branch_is r)) = Ok None
update_says d h (plain (box_is b)) = Ok None

-- the header after an answer: one that is refused or not accepted leaves it
abbrev pub head_updated : SamplerPlusTree → Result (Option Accepted) Refusal → SamplerPlusTree
head_updated h (Ok (Some x)) = x.tree
head_updated h (Ok None) = h
head_updated h (Err r) = h

-- What an arrival gives and leaves: header, arrays and sample of the sampled world after it. The table is not written.
pub record Updated (d : ℕ) (s : Float) (x : SampledAnswer (whole d) × Sampled (whole d)) (r : Result (Option Accepted) Refusal) (after : NodeStore) (points : List (List Float)) (marks : List ℕ) (weights : List Float) (held : List ℕ) : Type 0 where
  pub answer : r ≡ update_says d (head_of d s x.1) x.0
  pub state : SampledState d s x.1 (head_of d s x.1) after points marks weights held

-- An arrival, whichever sampled world's the lent state is. One that is refused or not accepted leaves the world as it is, so each array and the
-- header.
abbrev pub UpdateDone : SamplerPlusTree → NodeStore → List (List Float) → List ℕ → List Float → List ℕ → ℕ → Float → ℕ → List ℕ → Result (Option Accepted) Refusal → NodeStore → List Float → List ℕ → Type 0
UpdateDone h before points marks weights held i w x ws r after weights' held' =
    (d : ℕ) (s : Float) (X : Sampled (whole d)) → SampledState d s X h before points marks weights held → Updated d s (call (whole d) X (arrive i w x ws)) r after points marks weights' held'
