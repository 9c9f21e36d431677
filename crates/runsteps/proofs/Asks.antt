-- A report and what the sample keeps as steps of a run: they leave the tree as it is. Laws.
use mathlib.Core.Path.{◌≡◌, refl, sym, ap, subst}
use mathlib.Core.Bool.{true}
use mathlib.Core.List.{List}
use Prim.Native.Nat.{ℕ, ◌+◌, ◌*◌, ◌≤◌}
use native.Mathlib.Omega.{arith}
use lib.ListN.{length}
use Rattle.limits.specs.Limits.{capacity_limit}
use Rattle.wholetree.specs.Whole.{whole}
use Rattle.sampledtree.specs.Sampled.{Sampled}
use Rattle.samplerplustree.specs.declared.SamplerPlusTree.{SamplerPlusTree}
use Rattle.nodeview.specs.Told.{SomeReportRead}
use Rattle.arrivals.specs.Sample.{SampleWritten}
use Rattle.runlayout.specs.Layout.{RunCall, reports, sample, size, number, is_sampled, channels, capacity, share, coordinates_at, call_width, call_at, stands_at}
use Rattle.runlayout.specs.Check.{width_of_kind}
use Rattle.runlayout.proofs.Rest.{within}
use Rattle.runreports.specs.Written.{ReportAt}
use Rattle.runsteps.specs.Told.{left}
use Rattle.runsteps.specs.Standing.{Kept, Standing, SomeStanding}
use Rattle.runsteps.specs.Steps.{Room, room, room_left, Stepped}
use Rattle.runsteps.proofs.Arrival.{sampled_by_lem}

module _ (run : List ℕ) (p : ℕ) (stands : stands_at run p ≡ true) where
  -- ---- kind 7
  module _ (seven : number run p ≡ 7) where
    report_there : call_at run (channels run) p ≡ reports (number run (p + 1)) (coordinates_at run p)
    report_there = rw seven refl

    pub report_inside : p + 3 + number run (p + 2) ≤ size run
    unfolding call_width
    report_inside = omega (arith, rw seven at (within run p stands))

    pub report_room : (w out : ℕ) (answers : List ℕ) → w ≡ width_of_kind (channels run) (capacity run) (number run p) (number run (p + 1)) → 4 * (out + w) ≤ length answers → 4 * (out + 2 + 5 * number run (p + 1)) ≤ length answers
    unfolding width_of_kind
    report_room w out answers e h = omega (arith, h, rw seven at e)

    pub readable : (h : SamplerPlusTree) (k : Kept) → SomeStanding run h k → SomeReportRead h.tree k.arrays.nodes k.arrays.cuts k.arrays.copies k.points k.arrays.boxes
    readable h k S = record {
      lent = k.arrays;
      marks = k.marks;
      read = record { nodes_are = refl; cuts_are = refl; copies_are = refl; boxes_are = refl };
      state = record { channels = channels run; capacity = S.world.capacity; share = share run; world = S.world.world; state = S.standing.tree_is };
    }

    pub reported : (out : ℕ) (h : SamplerPlusTree) (k : Kept) (r : Room) (rows : List (List ℕ)) (answers : List ℕ) → ReportAt h.tree k.arrays.nodes k.arrays.cuts k.arrays.copies k.points k.arrays.boxes run p out r.answers r.rows answers rows
        → (X : Sampled (whole (channels run))) → Standing run X h k → Stepped run p out X r h k (room r.words r.reply rows answers)
    reported out h k r rows answers R X S =
        let w = R (channels run) X.capacity (share run) X.world k.arrays k.marks S.tree_is (record { nodes_are = refl; cuts_are = refl; copies_are = refl; boxes_are = refl }) in
        record {
          standing = subst (λ (e : RunCall (channels run)). Standing run (left (channels run) (share run) X e) h k) (sym report_there) S;
          room_is = subst (λ (e : RunCall (channels run)). room r.words r.reply rows answers ≡ room_left (channels run) (share run) out X e r) (sym report_there) (rw (w.numbers, w.rows) refl);
        }

  -- ---- kind 11
  module _ (eleven : number run p ≡ 11) where
    sample_there : call_at run (channels run) p ≡ sample
    sample_there = rw eleven refl

    is_sampled_lem : is_sampled run ≡ true
    is_sampled_lem = sampled_by_lem run p 11 refl eleven stands

    capacity_there : (X : Sampled (whole (channels run))) (h : SamplerPlusTree) (k : Kept) → Standing run X h k → h.sampler.capacity ≡ X.capacity
    capacity_there X h k S = ap (λ (x : SamplerPlusTree). x.sampler.capacity) (S.sample_is is_sampled_lem).head_is

    pub sample_room : (w out : ℕ) (answers : List ℕ) (h : SamplerPlusTree) (k : Kept) → SomeStanding run h k → w ≡ width_of_kind (channels run) (capacity run) (number run p) (number run (p + 1)) → 4 * (out + w) ≤ length answers
        → (h.sampler.capacity ≤ capacity_limit) × (4 * (out + 2 + 2 * h.sampler.capacity) ≤ length answers)
    unfolding width_of_kind
    sample_room w out answers h k S e g =
        let c = capacity_there S.world h k S.standing in
        let n : w ≡ 2 + 2 * capacity run = rw eleven at e in
        (omega (arith, c, S.standing.tree_is.limits.3), omega (arith, c, S.standing.capacity_is, n))

    pub sampled_told : (out : ℕ) (h : SamplerPlusTree) (k : Kept) (r : Room) (answers : List ℕ) → SampleWritten h k.weights k.held r.answers out answers
        → (X : Sampled (whole (channels run))) → Standing run X h k → Stepped run p out X r h k (room r.words r.reply r.rows answers)
    sampled_told out h k r answers w X S = record {
      standing = subst (λ (e : RunCall (channels run)). Standing run (left (channels run) (share run) X e) h k) (sym sample_there) S;
      room_is = subst (λ (e : RunCall (channels run)). room r.words r.reply r.rows answers ≡ room_left (channels run) (share run) out X e r) (sym sample_there)
          (rw (w.told (channels run) (share run) X k.arrays k.points k.marks (S.sample_is is_sampled_lem)) refl);
    }
