-- What printing at an archive's end is told of a state, and what is then written. Laws.
use mathlib.Core.Path.{◌≡◌, refl, ap}
use mathlib.Core.Bool.{true}
use mathlib.Core.List.{List}
use Prim.Native.Nat.{ℕ, ◌+◌, ◌≤◌}
use native.Mathlib.Omega.{arith}
use lib.Ieee.{Float}
use lib.ListN.{length}
use Rattle.limits.specs.Limits.{width, capacity_limit}
use Rattle.readings.specs.Share.{is_share}
use Rattle.lines.specs.Lines.{Wrote}
use Rattle.lines.proofs.Writes.{then}
use Rattle.sampler.specs.Sample.{entries_in}
use Rattle.sampler.proofs.Places.{entries_read}
use Rattle.wholetree.specs.Whole.{whole}
use Rattle.sampledtree.specs.Sampled.{Sampled, SampledCall, sampled_after, fresh}
use Rattle.layout.specs.Layout.{table_of}
use Rattle.treestore.specs.Arrays.{NodeStore, arrays_of}
use Rattle.randomcuttree.specs.State.{cached_by}
use Rattle.samplerplustree.specs.declared.SamplerPlusTree.{SamplerPlusTree}
use Rattle.samplerplustree.specs.State.{weights_of, held_of, head_of, SampledState}
use Rattle.samplerplustree.proofs.Standing.{sampled_stand}
use Rattle.listing.specs.Printed.{SomeRead, PrintsTree}
use Rattle.archiveend.specs.End.{entry_lines, sample_names, end_limit}
use Rattle.archiveend.specs.Prints.{SomeEnd, PrintsEnd}
use Rattle.archiveend.proofs.Sizes.{end_fits}

-- ---- a state's sample and tree
module _ {d : ℕ} {s : Float} {X : Sampled (whole d)} {h : SamplerPlusTree} {a : NodeStore} {points : List (List Float)} {marks : List ℕ} {weights : List Float} {held : List ℕ} (S : SampledState d s X h a points marks weights held) where
  size_is : h.sampler.current_size ≡ length X.sample
  size_is = ap (λ (x : SamplerPlusTree). x.sampler.current_size) S.head_is

  entries_are : {n : ℕ} → n ≡ h.sampler.current_size → entries_in n weights held ≡ X.sample
  entries_are e = rw (e, size_is, S.weights_are, S.held_are) (entries_read X.sample _ _)

module _ (tree : SamplerPlusTree) (nodes : List (List ℕ)) (cuts : List Float) (copies : List ℕ) (weights : List Float) (held : List ℕ) where
  pub kept_few : SomeEnd tree nodes cuts copies weights held → {n : ℕ} → n ≡ tree.sampler.current_size → n ≤ capacity_limit
  kept_few w e = let S = w.state.state in omega (arith, size_is S, S.agrees.room, S.tree_is.limits.3)

  pub some_read : SomeEnd tree nodes cuts copies weights held → SomeRead tree.tree nodes cuts copies
  some_read w =
      let S = w.state.state in
      record {
        lent = w.lent;
        points = w.points;
        marks = w.marks;
        read = w.read;
        state = rw S.head_is (record { channels = _; capacity = _; share = _; world = _; state = S.tree_is });
      }

  -- the names, the entries and the tree, one after another
  pub ended : {at p q place n : ℕ} {before x y after : List ℕ} → Wrote before at sample_names p x → n ≡ tree.sampler.current_size → Wrote x p (entry_lines (entries_in n weights held)) q y
      → PrintsTree tree.tree nodes cuts copies q y place after → PrintsEnd tree nodes cuts copies weights held at before place after
  ended u e v F d s X a points marks S r =
      let one = then u (rw (entries_are S e) at v) in
      let two = F d X.capacity s X.world a points marks (rw S.head_is S.tree_is) r in
      then one two

  -- so at most as many bytes on
  pub fitting : SomeEnd tree nodes cuts copies weights held → {at place : ℕ} {before after : List ℕ} → PrintsEnd tree nodes cuts copies weights held at before place after → place ≤ at + end_limit
  fitting w F =
      let S = w.state.state in
      let v = F _ _ _ _ _ _ S w.read in
      omega (arith, v.next, end_fits _ _ _ _ _ _ _ _ _ S)

-- What printing asks is met: after any list of puts, arrivals and queries from a fresh sampled tree and an unwritten table.
pub ends_stand : (d c : ℕ) (s f : Float) → 1 ≤ d → d ≤ width → 2 ≤ c → c ≤ capacity_limit → is_share s ≡ true → is_share f ≡ true → (cs : List (SampledCall (whole d)))
    → let X = sampled_after (whole d) (fresh (whole d) c f) cs in let a = arrays_of d X.capacity (cached_by s X.capacity) X.world.tree X.world.free in
    SomeEnd (head_of d s X) a.nodes a.cuts a.copies (weights_of X.sample) (held_of X.sample)
ends_stand d c s f l m n o p q cs =
    let X = sampled_after (whole d) (fresh (whole d) c f) cs in
    record {
      lent = arrays_of d X.capacity (cached_by s X.capacity) X.world.tree X.world.free;
      points = (table_of X.world.table).points;
      marks = (table_of X.world.table).written;
      read = record { nodes_are = refl; cuts_are = refl; copies_are = refl };
      state = record { channels = d; share = s; world = X; state = sampled_stand d c s f l m n o p q cs };
    }
