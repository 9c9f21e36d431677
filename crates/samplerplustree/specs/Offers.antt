-- What an arrival is told before anything moves: a refusal, or what the sample does with it. Definitions.
use Rattle.refusals.specs.declared.Refusal.TheVariants as Why
use Rattle.refusals.specs.declared.Refusal.{Refusal}
use Rattle.std.specs.Prelude.{◌≡◌, Bool, cond, not, ◌&&◌, List, ℕ, eqb, leb, ltb, length, get_or, Float, Option, Result, Ok, Err}
use Rattle.std.proofs.Math.Option as Math
use Rattle.std.proofs.Math.Option.{none, some}
use Rattle.std.specs.Result.{result_and}
use Rattle.std.specs.Float.{nan}
use Rattle.std.specs.Float.Ieee.{lt}
use Rattle.limits.specs.Limits.{point_limit}
use Rattle.readings.specs.Number.{is_number}
use Rattle.startingchance.specs.Chance.{starts_by}
use Rattle.wholetree.specs.Reading.{Reading}
use Rattle.wholetree.specs.Whole.{whole}
use Rattle.sampledtree.specs.Sampled as Paper
use Rattle.sampledtree.specs.Sampled.{Sampled, passes, begins, evicts, arrive, call}
use Rattle.treestore.specs.Arrays.{NodeStore}
use Rattle.samplerplustree.specs.declared.SamplerPlusTree.{SamplerPlusTree}
use Rattle.samplerplustree.specs.declared.Accepted.{Accepted}
use Rattle.samplerplustree.specs.declared.Offer.{Offer}
use Rattle.samplerplustree.specs.declared.Offer.TheVariants.{Passes, Begins, Evicts}
use Rattle.samplerplustree.specs.State.{SampledState}
use Rattle.samplerplustree.specs.Updates.{Updated}

-- 'arrival: 5; 9; 14 weight infinite, NaN or minus zero; 11 fewer than c words', in this order, of n words, if any
unfoldable pub arrival_checked : SamplerPlusTree → List ℕ → ℕ → Float → ℕ → Result Unit Refusal
arrival_checked h marks i w n =
    cond (leb point_limit i) (Err Why.IndexAbove)
    (cond (eqb (get_or marks i 0) 0) (Err Why.NeverWritten)
    (cond (is_number w)
    (cond (ltb n h.tree.capacity) (Err Why.FewWords) (Ok tt))
    (Err Why.BadWeight)))

-- whether the word x starts an arrival: the Rust draws none where the sample is full
abbrev pub starts_read : SamplerPlusTree → ℕ → Bool
starts_read h x = not (eqb h.sampler.current_size h.sampler.capacity) && starts_by x h.sampler.current_size h.sampler.capacity h.initial_accept_fraction

-- of whatever is lent: the refusal, else what the sample does; the largest weight is the first
unfoldable pub offer_read : SamplerPlusTree → List ℕ → List Float → ℕ → Float → ℕ → ℕ → Result Offer Refusal
offer_read h marks weights i w x n = result_and (arrival_checked h marks i w n)
    (cond (starts_read h x) (Ok Begins) (cond (lt w (get_or weights 0 nan)) (Ok Evicts) (Ok Passes)))

-- The same in document 01's words, of a sampled world.
abbrev pub said : Paper.Offer → Result Offer Refusal
said passes = (Ok Passes)
said begins = (Ok Begins)
said (evicts e ks) = (Ok Evicts)

abbrev pub if_marked : Math.Option Reading → Result Offer Refusal → Result Offer Refusal
if_marked none o = Err Why.NeverWritten
if_marked (some p) o = o

unfoldable pub offered : (d : ℕ) → Sampled (whole d) → ℕ → Float → ℕ → ℕ → Result Offer Refusal
offered d X i w x n =
    cond (leb point_limit i) (Err Why.IndexAbove)
    (if_marked (X.world.table i)
    (cond (not (is_number w)) (Err Why.BadWeight)
    (cond (ltb n X.capacity) (Err Why.FewWords)
    (said (Paper.offer X.capacity X.initial X.sample w x)))))

-- What the test tells: an equation over whatever is lent, which is what document 01 says of each sampled world whose state it is.
pub record OfferTold (h : SamplerPlusTree) (marks : List ℕ) (weights : List Float) (i : ℕ) (w : Float) (x n : ℕ) (r : Result Offer Refusal) : Type 0 where
  pub read : r ≡ offer_read h marks weights i w x n
  pub told : (d : ℕ) (s : Float) (X : Sampled (whole d)) (a : NodeStore) (points : List (List Float)) (held : List ℕ) → SampledState d s X h a points marks weights held → r ≡ offered d X i w x n

-- What the acting function asks of its caller: that the offer is what the test tells of the lent state, for some marks and some word.
pub record SomeOffered (h : SamplerPlusTree) (o : Result Offer Refusal) (a : NodeStore) (points : List (List Float)) (weights : List Float) (held : List ℕ) (i : ℕ) (w : Float) (n : ℕ) : Type 0 where
  pub channels : ℕ
  pub share : Float
  pub world : Sampled (whole channels)
  pub marks : List ℕ
  pub chance : ℕ
  pub state : SampledState channels share world h a points marks weights held
  pub offer_is : o ≡ offered channels world i w chance n

-- What it does, whichever sampled world's the lent state is and whichever marks and word the offer was told for: the arrival.
abbrev pub TakeDone : SamplerPlusTree → Result Offer Refusal → NodeStore → List (List Float) → List Float → List ℕ → ℕ → Float → List ℕ → Result (Option Accepted) Refusal → NodeStore → List Float → List ℕ → Type 0
TakeDone h o before points weights held i w ws r after weights' held' =
    (d : ℕ) (s : Float) (X : Sampled (whole d)) (marks : List ℕ) (x : ℕ) → SampledState d s X h before points marks weights held → o ≡ offered d X i w x (length ws)
    → Updated d s (call (whole d) X (arrive i w x ws)) r after points marks weights' held'
