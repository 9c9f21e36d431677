-- A call of the run as a step: what it leaves of the tree, of the room that it is lent for its work and its answer, and of the path and the chances. Definitions.
use Rattle.std.specs.Prelude.{◌≡◌, List, ℕ, ◌*◌, length, take, Float}
use Rattle.std.proofs.lemmas.List.Edits.{sets}
use Rattle.limits.specs.Limits.{capacity_limit}
use Rattle.little.specs.Little.{bytes_of}
use Rattle.cuttree.specs.Run.{put, add, delete, query}
use Rattle.wholetree.specs.Whole.{whole}
use Rattle.sampledtree.specs.Sampled.{Sampled}
use Rattle.samplerplustree.specs.declared.SamplerPlusTree.{SamplerPlusTree}
use Rattle.samplerplustree.specs.Offers.{offered}
use Rattle.answers.specs.Said.{filled, reply_width}
use Rattle.nodeview.specs.Report.{report_of}
use Rattle.nodeview.specs.Told.{rows_after}
use Rattle.nodeview.specs.Walking.{tree_walked, Left}
use Rattle.arrivals.specs.Arrived.{words_read, path_arrived}
use Rattle.runlayout.specs.Layout.{RunCall, plain, arrives, reports, sample, channels, share, call_at}
use Rattle.runsteps.specs.Told.{told, left}
use Rattle.runsteps.specs.Standing.{Kept, Standing}

-- the room that is lent: for words, for the numbers of an answer, for the rows of a report, and for all answers' bytes
pub record Room : Type 0 where
  pub words : List ℕ
  pub reply : List ℕ
  pub rows : List (List ℕ)
  pub answers : List ℕ

abbrev pub room : List ℕ → List ℕ → List (List ℕ) → List ℕ → Room
room words reply rows answers = record { words = words; reply = reply; rows = rows; answers = answers }

module _ (d : ℕ) (s : Float) where
  -- an add reads its words from the front, as many as there is room for, and an arrival those that may be looked at; any other call leaves all
  abbrev pub words_left : Sampled (whole d) → RunCall d → List ℕ → List ℕ
  words_left X (plain (put i xs)) words = words
  words_left X (plain (add i ws)) words = sets words 0 (take capacity_limit ws)
  words_left X (plain (delete i)) words = words
  words_left X (plain (query q)) words = words
  words_left X (arrives i w x ws) words = words_read d X i (offered d X i w x (length ws)) ws words
  words_left X (reports n xs) words = words
  words_left X sample words = words

  -- the answer's numbers, with 0 after them; those of a report and of the sample go to the answers at once
  abbrev pub reply_left : Sampled (whole d) → RunCall d → List ℕ → List ℕ
  reply_left X (plain e) reply = filled reply_width (told d s X (plain e))
  reply_left X (arrives i w x ws) reply = filled reply_width (told d s X (arrives i w x ws))
  reply_left X (reports n xs) reply = reply
  reply_left X sample reply = reply

  abbrev pub rows_left : Sampled (whole d) → RunCall d → List (List ℕ) → List (List ℕ)
  rows_left X (plain e) rows = rows
  rows_left X (arrives i w x ws) rows = rows
  rows_left X (reports n xs) rows = rows_after (report_of d X.capacity X.world n xs) rows
  rows_left X sample rows = rows

  -- all of the room after a call whose answer begins at the answer number `out`
  abbrev pub room_left : ℕ → Sampled (whole d) → RunCall d → Room → Room
  room_left out X e r = room (words_left X e r.words) (reply_left X e r.reply) (rows_left X e r.rows) (sets r.answers (4 * out) (bytes_of (told d s X e)))

-- The path and the chances that arrivals and reports work in, k branches cached: an arrival leaves in the path and a report in both what their walks do, any
-- other call what they held.
abbrev pub WorkLeft : (d k : ℕ) → List (List (List Float)) → Sampled (whole d) → RunCall d → List (List ℕ) → List Float → List (List ℕ) → List Float → Type 0
WorkLeft d k boxes X (plain e) path chances path' chances' = (path' ≡ path) × (chances' ≡ chances)
WorkLeft d k boxes X (arrives i w x ws) path chances path' chances' = (path' ≡ path_arrived d X i (offered d X i w x (length ws)) path) × (chances' ≡ chances)
WorkLeft d k boxes X (reports n xs) path chances path' chances' = Left d X.capacity k boxes (tree_walked d X.world xs) ((whole d).point xs) path chances path' chances'
WorkLeft d k boxes X sample path chances path' chances' = (path' ≡ path) × (chances' ≡ chances)

module _ (run : List ℕ) (p : ℕ) where
  -- after the call at the place p, whichever tree the lent state is
  abbrev pub Works : SamplerPlusTree → Kept → List (List ℕ) → List Float → List (List ℕ) → List Float → Type 0
  Works h k path chances path' chances' = (X : Sampled (whole (channels run))) → Standing run X h k → WorkLeft (channels run) h.tree.cached k.arrays.boxes X (call_at run (channels run) p) path chances path' chances'

module _ (run : List ℕ) (p out : ℕ) where
  -- the call at the place p, answered from the answer number `out` on
  pub record Stepped (X : Sampled (whole (channels run))) (r : Room) (h : SamplerPlusTree) (k : Kept) (r' : Room) : Type 0 where
    pub standing : Standing run (left (channels run) (share run) X (call_at run (channels run) p)) h k
    pub room_is : r' ≡ room_left (channels run) (share run) out X (call_at run (channels run) p) r

  -- the same whichever tree the lent state is
  abbrev pub Steps : SamplerPlusTree → Kept → Room → SamplerPlusTree → Kept → Room → Type 0
  Steps h k r h' k' r' = (X : Sampled (whole (channels run))) → Standing run X h k → Stepped X r h' k' r'
