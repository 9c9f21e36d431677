-- The answers of a byte run are as demand 3 says, and written. Assumes nothing.
use mathlib.Core.Path.{◌≡◌, refl, sym, ap, ap₂, ◌∙◌, subst}
use mathlib.Core.Bool.{Bool, true, cond}
use mathlib.Core.Option.{some}
use mathlib.Core.List.{List, [], ◌∷◌, ◌++◌}
use Prim.Native.Nat.{ℕ, ◌≤◌}
use native.Mathlib.Omega.{arith}
use lib.ListN.{length}
use lib.Ieee.{Float}
use Rattle.std.specs.Prelude.{Result, Ok}
use Rattle.limits.specs.Limits.{capacity_limit}
use Rattle.readings.specs.Number.{nought}
use Rattle.sampler.specs.Sample.{Entry}
use Rattle.cuttree.specs.Run as Bare
use Rattle.cuttree.specs.Run.{World, Call, put, add, delete, query, world_after}
use Rattle.cuttree.specs.Counts.{Counts, nothing, count}
use Rattle.cuttree.specs.Graph.{View}
use Rattle.cuttree.specs.Demand3.{view_of}
use Rattle.cuttree.proofs.Tests.{clash}
use Rattle.cuttree.proofs.Keeps.{Inv, inv_call, inv_fresh}
use Rattle.cuttree.proofs.Claims.{call_claim}
use Rattle.wholetree.specs.Whole.{whole}
use Rattle.wholetree.proofs.Laws.{whole_laws}
use Rattle.sampledtree.specs.Sampled.{Sampled, SampledAnswer, plain as bare, not_accepted, accepted, arrive, call}
use Rattle.sampledtree.specs.Arrivals.{Agrees, Arrives, counts_as}
use Rattle.sampledtree.proofs.Arrivals.{every_arrival}
use Rattle.sampledtree.proofs.Keeps.{every_put, fresh_agrees}
use Rattle.samplerplustree.specs.declared.SamplerPlusTree.{SamplerPlusTree}
use Rattle.refusals.specs.declared.Refusal.{Refusal}
use Rattle.samplerplustree.specs.State.{head_of}
use Rattle.samplerplustree.specs.Updates.{update_says}
use Rattle.nodeview.specs.Report.{report_of}
use Rattle.demand3.specs.Answered.{SameTree, SampleClaim}
use Rattle.demand3.proofs.Answered.{seen, leaves_tree, accepted_as}
use Rattle.demand3.proofs.Sampled.{sampled_at, kept_numbers}
use Rattle.demand3.proofs.Reports.{report_rows}
use Rattle.arrivals.specs.Arrived as Code
use Rattle.runlayout.specs.Layout.{RunCall, plain, arrives, reports, sample, is_sampled, channels, capacity, share, initial, calls}
use Rattle.runlayout.proofs.OfKind.{OfKind, AllOfKind, calls_kind}
use Rattle.runsteps.specs.Told.{told, left, told_from}
use Rattle.run.specs.Outcome.{given, made, begun, answered, outcome, outcome_of}
use Rattle.demand3_outputs.specs.Run.{RunAnswer, RunAnswers, numbers_of, all_numbers, count_call, RunClaim, RunAnswered, RunsAnswer}
use Rattle.demand3_outputs.proofs.Made.{taken_by}
use Rattle.demand3_outputs.proofs.Numbers.{numbers_are, arrival_numbers_lem}

-- what the calls of a run are answered
module _ (d : ℕ) (s : Float) where
  abbrev answer_to : Sampled (whole d) → (e : RunCall d) → RunAnswer d e
  answer_to X (plain e) = (Bare.call (whole d) X.capacity X.world e).0
  answer_to X (arrives i w x ws) = (call (whole d) X (arrive i w x ws)).0
  answer_to X (reports n xs) = report_of d X.capacity X.world n xs
  answer_to X sample = X.sample

  abbrev pub answers_to : Sampled (whole d) → (es : List (RunCall d)) → RunAnswers d es
  answers_to X [] = tt
  answers_to X (e ∷ es) = (answer_to X e, answers_to (left d s X e) es)

  -- and what they leave
  abbrev pub left_by : Sampled (whole d) → List (RunCall d) → Sampled (whole d)
  left_by X [] = X
  left_by X (e ∷ es) = left_by (left d s X e) es

-- A call, from a world that agrees with the counts, and with the sample where there is one.
module _ (d c : ℕ) (s : Float) (sampled : Bool) (f : Float) where
  abbrev at : World (whole d) → List Entry → Sampled (whole d)
  at W ks = sampled_at d c s f W ks

  pub record Kept (W : World (whole d)) (ks : List Entry) (K : Counts (whole d)) : Type 0 where
    pub counts : Inv (whole d) c W K
    pub agrees : sampled ≡ true → Agrees (whole d) (at W ks)

  -- the world and the sample that a call leaves, its claim, and the numbers of its answer
  record Step (W : World (whole d)) (K : Counts (whole d)) (e : RunCall d) (a : RunAnswer d e) (X : Sampled (whole d)) (ns : List ℕ) : Type 0 where
    world : World (whole d)
    entries : List Entry
    leaves : X ≡ at world entries
    kept : Kept world entries (count_call d c e a K)
    claim : RunClaim d c (view_of (whole d) c W K) K e a (view_of (whole d) c world (count_call d c e a K))
    numbers_are : ns ≡ numbers_of d c e a

  module _ (W : World (whole d)) (ks : List Entry) (K : Counts (whole d)) (k : Kept W ks K) where
    pub sample_kept : sampled ≡ true → SampleClaim d c (length ks) ks K
    sample_kept t = let A = k.agrees t in record { room = A.room; kept = kept_numbers d c s f W ks K k.counts A }

    plain_agrees : (e : Call (whole d)) → OfKind {d = d} sampled (plain e) → sampled ≡ true → Agrees (whole d) (at (Bare.call (whole d) c W e).1 ks)
    plain_agrees (put i xs) o t = every_put (whole d) (whole_laws d) (at W ks) i xs (k.agrees t)
    plain_agrees (add i ws) o t = clash sampled t o
    plain_agrees (delete i) o t = clash sampled t o
    plain_agrees (query q) o t = k.agrees t

    arrival : (i : ℕ) (w : Float) (x : ℕ) (ws : List ℕ) (z : SampledAnswer (whole d) × Sampled (whole d)) → Arrives (whole d) (at W ks) i w ws z
        → Step W K (arrives i w x ws) z.0 z.1 (Code.arrival_numbers (update_says d (head_of d s z.1) z.0))
    arrival i w x ws (bare a, Y) (r, same) = record { world = W; entries = ks; leaves = same; kept = k; claim = (r, λ q. refl); numbers_are = arrival_numbers_lem d s (at W ks) i w ws (bare a, Y) (r, same) }
    arrival i w x ws (not_accepted, Y) same = record { world = W; entries = ks; leaves = same; kept = k; claim = λ q. refl; numbers_are = refl }
    arrival i w x ws (accepted j m, Y) (A, top, agree) =
        let after = world_after (whole d) c W (counts_as (whole d) m i ws) in
        let H = view_of (whole d) c after (count_call d c (arrives i w x ws) (accepted j m) K) in
        let (I, answered) = accepted_as d c (λ T. SameTree d c T H) W K i ws j A.words m k.counts A.answered (λ K' I' q. refl) in
        record {
          world = after;
          entries = A.entries;
          leaves = A.leaves;
          kept = record { counts = I; agrees = λ _. subst (Agrees (whole d)) A.leaves agree };
          claim = (A.words, answered, tt);
          numbers_are = arrival_numbers_lem d s (at W ks) i w ws (accepted j m, Y) (A, top, agree);
        }

    step : (e : RunCall d) → OfKind sampled e → Step W K e (answer_to d s (at W ks) e) (left d s (at W ks) e) (told d s (at W ks) e)
    step (plain e) o = record {
      world = (Bare.call (whole d) c W e).1;
      entries = ks;
      leaves = refl;
      kept = record { counts = inv_call (whole d) c (whole_laws d) W K e k.counts; agrees = plain_agrees e o };
      claim = (call_claim (whole d) c (whole_laws d) W K e k.counts, leaves_tree d c W K (count (whole d) e (Bare.call (whole d) c W e).0 K) e);
      numbers_are = numbers_are d c s W e;
    }
    step (arrives i w x ws) o = arrival i w x ws (call (whole d) (at W ks) (arrive i w x ws)) (every_arrival (whole d) (whole_laws d) (at W ks) i w x ws (k.agrees o))
    step (reports n xs) o = record { world = W; entries = ks; leaves = refl; kept = k; claim = (report_rows d c K n xs W k.counts, λ q. refl); numbers_are = refl }
    step sample o = record { world = W; entries = ks; leaves = refl; kept = k; claim = (sample_kept o, λ q. refl); numbers_are = refl }

  -- All calls: what they leave, that they are answered, whatever is said of the last tree and the last counts, and told.
  pub record Runs (G : View (whole d)) (K : Counts (whole d)) (es : List (RunCall d)) (X : Sampled (whole d)) : Type 1 where
    pub world : World (whole d)
    pub entries : List Entry
    pub counts : Counts (whole d)
    pub leaves : left_by d s X es ≡ at world entries
    pub kept : Kept world entries counts
    pub answered : (P : View (whole d) → Counts (whole d) → Type 0) → P (view_of (whole d) c world counts) counts → RunAnswered d c P G K es (answers_to d s X es)
    pub told : told_from d s X es ≡ all_numbers d c es (answers_to d s X es)

  runs : (W : World (whole d)) (ks : List Entry) (K : Counts (whole d)) (es : List (RunCall d)) → Kept W ks K → AllOfKind sampled es → Runs (view_of (whole d) c W K) K es (at W ks)
  runs W ks K [] k o = record { world = W; entries = ks; counts = K; leaves = refl; kept = k; answered = λ P p. (seen d c W K k.counts, p); told = refl }
  runs W ks K (e ∷ es) k (o, os) =
      let T = step W ks K k e o in
      let K' = count_call d c e (answer_to d s (at W ks) e) K in
      let H = view_of (whole d) c T.world K' in
      let R = subst (Runs H K' es) (sym T.leaves) (runs T.world T.entries K' es T.kept os) in
      record {
        world = R.world;
        entries = R.entries;
        counts = R.counts;
        leaves = R.leaves;
        kept = R.kept;
        answered = λ P p. (seen d c W K k.counts, (H, T.claim, R.answered P p));
        told = ap₂ ◌++◌ T.numbers_are R.told;
      }

  -- from a fresh tree and an unwritten table
  pub runs_fresh : 2 ≤ c → c ≤ capacity_limit → (es : List (RunCall d)) → AllOfKind sampled es → Runs (view_of (whole d) c (Bare.fresh (whole d) c) (nothing (whole d))) (nothing (whole d)) es (at (Bare.fresh (whole d) c) [])
  runs_fresh room small es o =
      runs (Bare.fresh (whole d) c) [] (nothing (whole d)) es (record { counts = inv_fresh (whole d) c room; agrees = λ _. fresh_agrees (whole d) c f room (omega (arith, small)) }) o

-- A run's answers, with what P says besides of the last tree and the last counts.
pub runs_with : (P : (d c : ℕ) → View (whole d) → Counts (whole d) → Type 0) → ((d c : ℕ) (W : World (whole d)) (K : Counts (whole d)) → Inv (whole d) c W K → P d c (view_of (whole d) c W K) K)
    → (run lent : List ℕ) (es : List (RunCall (channels run))) (h : SamplerPlusTree) → calls run ≡ some es → made run ≡ Ok h
    → (as' : RunAnswers (channels run) es) × (G : View (whole (channels run)))
    × RunAnswered (channels run) (capacity run) (P (channels run) (capacity run)) G (nothing (whole (channels run))) es as'
    × (outcome run lent ≡ given (0 ∷ all_numbers (channels run) (capacity run) es as') lent)
runs_with P p run lent es h C M =
    let d = channels run in
    let c = capacity run in
    let s = share run in
    let (room, small) = taken_by run h M in
    let R = runs_fresh d c s (is_sampled run) (cond (is_sampled run) (initial run) nought) room small es (calls_kind run es C) in (
      answers_to d s (begun run) es,
      view_of (whole d) c (Bare.fresh (whole d) c) (nothing (whole d)),
      R.answered (P d c) (p d c R.world R.counts R.kept.counts),
      ap (λ o. outcome_of run o lent) C ∙ ap (λ (m : Result SamplerPlusTree Refusal). given (answered run m es) lent) M ∙ ap (λ (l : List ℕ). given (0 ∷ l) lent) R.told,
    )

pub runs_answer : RunsAnswer
runs_answer = runs_with (λ d c H N. Unit {0}) (λ d c W K I. tt)
