-- MASSES THAT COUNT LANTERNS (request A.2), of what is given out: of the answers that `sicklephlox_run` writes, and of the tree that `treelist` prints. The
-- statements, which are those of demand 3 for both with masses said besides: of a run's last tree, and of the lines. Every beginning of a run is a run.
use Rattle.std.specs.Prelude.{◌≡◌, ◌⊎◌, List, [], ◌∷◌, ◌++◌, map, ℕ, Ok}
use Rattle.std.proofs.Math.Option.{some}
use Rattle.cuttree.specs.Run.{Answer}
use Rattle.cuttree.specs.Counts.{Counts, count_all, nothing, NothingHeld, Values}
use Rattle.cuttree.specs.Graph.{View}
use Rattle.wholetree.specs.Reading.{Reading}
use Rattle.wholetree.specs.Whole.{whole}
use Rattle.randomcuttree.specs.declared.RCFTree.{RCFTree}
use Rattle.samplerplustree.specs.declared.SamplerPlusTree.{SamplerPlusTree}
use Rattle.runlayout.specs.Layout.{RunCall, channels, capacity, calls}
use Rattle.run.specs.Outcome.{given, made, outcome}
use Rattle.form.specs.Rows.{Op}
use Rattle.form.specs.Making.{Making, sixteenths_of}
use Rattle.form.specs.Form.{read, parsed}
use Rattle.lines.specs.Lines.{names_line}
use Rattle.rowcalls.specs.Ops.{call_of}
use Rattle.treelist_text.specs.Output.{output, listed_by}
use Rattle.demand3.specs.Answered.{Answered}
use Rattle.demand3_outputs.specs.Run.{RunAnswers, all_numbers, RunAnswered}
use Rattle.demand3_outputs.specs.Text.{Listing, told_rows}
use Rattle.masses.specs.Masses.{LinesWeigh}
use Rattle.masses_outputs.specs.Seen.{copies_of_all, MassClaim}

-- For every run in the layout whose making is accepted: the answers that are as demand 3 says, and masses in the last tree that count.
abbrev pub RunsCount : Type 0
RunsCount = (run lent : List ℕ) (es : List (RunCall (channels run))) (h : SamplerPlusTree) → calls run ≡ some es → made run ≡ Ok h
    → (as' : RunAnswers (channels run) es) × (G : View (whole (channels run)))
    × RunAnswered (channels run) (capacity run) (MassClaim (whole (channels run))) G (nothing (whole (channels run))) es as'
    × (outcome run lent ≡ given (0 ∷ all_numbers (channels run) (capacity run) es as') lent)

-- Of printed lines: there are none where nothing is held. Else each branch's mass is the sum of those that its sides are printed with, and the root's is the
-- total: the copies of all values held, each value once.
abbrev pub LinesCount : (d : ℕ) → Counts (whole d) → List ℕ → Type 0
LinesCount d K lines = (NothingHeld (whole d) K × (lines ≡ []))
    ⊎ ((x : ℕ) × (vs : List Reading) × Values (whole d) K vs × LinesWeigh x (copies_of_all (whole d) K vs) lines)

-- For every text in form whose making is accepted: the answers that are as demand 3 says, and lines of the last tree whose masses count, against the counts
-- of these answers.
abbrev pub TextsCount : Type 0
TextsCount = (text : List ℕ) (m : Making) (os : List Op) (tree : RCFTree) → parsed text ≡ read m os → listed_by m.channels m.capacity (sixteenths_of m.sixteenths) ≡ Ok tree
    → (as' : List (Answer (whole m.channels))) × (lines : List ℕ) × (G : View (whole m.channels))
    × Answered m.channels m.capacity (Listing m.channels lines) G (nothing (whole m.channels)) (map (call_of m.channels) os) as'
    × (output text ≡ told_rows m.channels 0 as' ++ (names_line ++ lines))
    × LinesCount m.channels (count_all (whole m.channels) (map (call_of m.channels) os) as' (nothing (whole m.channels))) lines
