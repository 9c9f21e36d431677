-- From a state to what the functions of one walk are told, and from what they leave to the state after a call. Assumes nothing.
use mathlib.Core.Path.{◌≡◌, refl, sym, ap, ◌∙◌, subst}
use mathlib.Core.Option.{Option, none, some}
use mathlib.Core.List.{List, []}
use Prim.Native.Nat.{ℕ, ◌-◌, ◌<◌}
use native.Mathlib.Omega.{arith}
use lib.Dec.{ltb}
use lib.ListN.{get_or}
use lib.Ieee.{Float}
use Rattle.limits.specs.Limits.{point_limit}
use Rattle.cuttree.specs.Tree.{Tree}
use Rattle.cuttree.specs.Run.{World, Answer, total_of}
use Rattle.cuttree.proofs.Tests.{at_most_one}
use Rattle.cuttree.proofs.Freed.{freed_used, freed_below}
use Rattle.cuttree.proofs.Leaves.{leaves_mass, leaves_branches}
use Rattle.wholetree.specs.Reading.{Reading}
use Rattle.wholetree.specs.Whole.{whole}
use Rattle.layout.specs.Layout.{Table, table_of, mark}
use Rattle.layout.proofs.Tabs.{entry_of}
use Rattle.treestore.specs.declared.Edited.{Edited}
use Rattle.treestore.specs.declared.Found.{Found}
use Rattle.treestore.specs.Arrays.{NodeStore, arrays_of, EditDone}
use Rattle.treestore.specs.Finds.{Sought, SomeSought, Finds, FoundIn}
use Rattle.treestore.specs.Edits.{Walking}
use Rattle.randomcuttree.specs.declared.RCFTree.{RCFTree}
use Rattle.randomcuttree.specs.State.{store_header, cached_by, State, Reachable, header_of, headed}
use Rattle.randomcuttree.specs.Answers.{Called}
use Rattle.randomcuttree.specs.Finds.{Seeks, Sees, SomeSeen}
use Rattle.randomcuttree.proofs.Parts.{cached_few, total_is}
use Rattle.randomcuttree.proofs.Given.{sound, once, narrow, point_at, leaves_stand, table_padded, stored, walks, boxed}

-- what was found, of the path as it is left
pub seen_there : {tree : RCFTree} {nodes : List (List ℕ)} {cuts : List Float} {points : List (List Float)} {i : ℕ} {before path : List (List ℕ)} {f : Found} → Sees tree nodes cuts points i before f path → Sees tree nodes cuts points i path f path
seen_there S = record {
  empty = λ z. ((S.empty z).0, refl);
  walked = λ n t p Q. let F = S.walked n t p Q in record { walked = F.walked; leaf_is = F.leaf_is; held_is = F.held_is; rest = refl };
}

module _ {d c : ℕ} {s : Float} {W : World (whole d)} {tree : RCFTree} {a : NodeStore} {points : List (List Float)} {marks : List ℕ} (H : State d c s W tree a points marks) where
  abbrev k : ℕ
  k = cached_by s c

  -- the state by the header of its world
  own : State d c s W (header_of d c s W) a points marks
  own = subst (λ x. State d c s W x a points marks) H.header_is H

  -- a refused call leaves the world, and so each array
  pub unchanged : {R : Type 0} (says : RCFTree → Answer (whole d) → R) (x : Answer (whole d) × World (whole d)) (y : Answer (whole d)) (r : R) → x ≡ (y, W) → r ≡ says (header_of d c s W) y → Called d c s says x r a points marks
  unchanged says x y r e f = subst (λ z. Called d c s says z r a points marks) (sym e) (record { answer = f; state = own })

  -- an accepted call: from what an edit answers and leaves
  pub changed : {R : Type 0} (says : RCFTree → Answer (whole d) → R) (x : Answer (whole d) × World (whole d)) (y : Answer (whole d)) (W' : World (whole d)) (e : Edited) (n : ℕ) (header : RCFTree) (b : NodeStore) (r : R) → x ≡ (y, W') → r ≡ says header y
      → header ≡ headed tree e.root n e.manager → n ≡ total_of (whole d) W'.tree → EditDone d c k W'.tree W'.free e b → W'.table ≡ W.table → Reachable d c x.1 → Called d c s says x r b points marks
  changed says x y W' e n header b r E f h N L t R =
      let same : header ≡ header_of d c s W' = h ∙ ap (λ z. headed z e.root n e.manager) H.header_is ∙ ap (λ (z : Edited). headed (header_of d c s W) z.root n z.manager) L.answer
      ∙ ap (λ z. headed (header_of d c s W) (header_of d c s W').root z (header_of d c s W').manager) N in
      subst (λ z. Called d c s says z r b points marks) (sym E) (record {
        answer = f ∙ ap (λ z. says z y) same;
        state = record {
          header_is = refl;
          arrays_are = L.arrays;
          table_is = H.table_is ∙ ap table_of (sym t);
          reachable = subst (Reachable d c) (ap (λ (z : Answer (whole d) × World (whole d)). z.1) E) R;
          limits = H.limits;
        };
      })

  -- the mark of an index tells whether it is written
  pub unwritten : (i : ℕ) → i < point_limit → get_or marks i 0 ≡ 0 → W.table i ≡ none
  unwritten i l e = go (W.table i) (sym (entry_of point_limit (λ (j : ℕ). mark (W.table j)) marks (ap (λ (x : Table). x.written) H.table_is) 0 i l) ∙ e)
    where
      go : (o : Option Reading) → mark o ≡ 0 → o ≡ none
      go none h = refl
      go (some p) h = absurd (omega (arith, h))

  pub is_written : (i : ℕ) → i < point_limit → (get_or marks i 0 ≡ 0 → ⊥) → (p : Reading) × (W.table i ≡ some p)
  is_written i l e = go (W.table i) refl
    where
      go : (o : Option Reading) → W.table i ≡ o → (p : Reading) × (W.table i ≡ some p)
      go none h = absurd (e (entry_of point_limit (λ (j : ℕ). mark (W.table j)) marks (ap (λ (x : Table). x.written) H.table_is) 0 i l ∙ ap mark h))
      go (some p) h = (p, h)

  -- a tree holds nothing exactly when there is none
  pub no_tree : tree.total ≡ 0 → W.tree ≡ none
  no_tree e = go W.tree refl
    where
      go : (o : Option (Tree (whole d))) → W.tree ≡ o → W.tree ≡ none
      go none h = h
      go (some t) h = absurd (omega (arith, e, total_is H ∙ ap (total_of (whole d)) h, leaves_mass (whole d) t (sound H.reachable h).filled, leaves_branches (whole d) t))

  pub a_tree : (tree.total ≡ 0 → ⊥) → (t : Tree (whole d)) × (W.tree ≡ some t)
  a_tree e = go W.tree refl
    where
      go : (o : Option (Tree (whole d))) → W.tree ≡ o → (t : Tree (whole d)) × (W.tree ≡ some t)
      go none h = absurd (e (total_is H ∙ ap (total_of (whole d)) h))
      go (some t) h = (t, h)

  -- ---- a walk of the reading p of index i in the tree t
  module _ {t : Tree (whole d)} (T : W.tree ≡ some t) {i : ℕ} (l : i < point_limit) {p : Reading} (P : W.table i ≡ some p) where
    sought : Sought d c (header_of d c s W).root a.nodes a.cuts points i t p
    sought = record { small = H.limits.3; channels_few = H.limits.1; index_small = l; walks = walks own T i p P; leaves = leaves_stand H.reachable T H.table_is; padded = table_padded H }

    pub some_sought : SomeSought (store_header tree) a.nodes a.cuts points i
    some_sought = subst (λ (x : RCFTree). SomeSought (store_header x) a.nodes a.cuts points i) (sym H.header_is) (record { tree = t; reading = p; sought = sought })

    module _ {before path : List (List ℕ)} {f : Found} (F : Finds (store_header tree) a.nodes a.cuts points i before f path) where
      pub found_in : FoundIn d c t p before f path
      found_in = subst (λ (x : RCFTree). Finds (store_header x) a.nodes a.cuts points i before f path) H.header_is F t p sought

      pub walking : Walking d c k t W.free p (header_of d c s W).root (header_of d c s W).manager a points path f.walk f.leaf (get_or points i [])
      walking =
          let S = sound H.reachable T in
          record {
            small = H.limits.3;
            some_room = H.limits.2;
            cached_few = cached_few s c;
            channels_few = H.limits.1;
            root_is = sought.walks.root_is;
            manager_is = refl;
            arrays_are = subst (λ o. a ≡ arrays_of d c k o W.free) T H.arrays_are;
            stored = stored H T;
            boxed = boxed H T;
            once = once H.reachable T;
            narrow = narrow H.reachable T;
            padded = table_padded H;
            proper = S.proper;
            free_once = λ j. omega (arith, S.numbers j, at_most_one (ltb j (c - 1)));
            walked = found_in.walked;
            index_is = found_in.leaf_is;
            row = point_at H.reachable T H.table_is i p P;
            row_padded = table_padded H i l;
            freeable = λ b e. (freed_below (whole d) p t b (c - 1) _ e (S.numbers b), omega (arith, S.numbers b, freed_used (whole d) p t b e, at_most_one (ltb b (c - 1))));
          }

  -- ---- an index that is written, in a tree that may be empty: what looking for it asks, and what is asked once it was looked for
  module _ {i : ℕ} {p : Reading} (P : W.table i ≡ some p) where
    pub seeks : Seeks tree a.nodes a.cuts points i
    seeks n = some_sought (a_tree n).1 (H.reachable.sound.inside i p P) P

    pub some_seen : {before path : List (List ℕ)} {f : Found} → Sees tree a.nodes a.cuts points i before f path → SomeSeen tree a points i path f
    some_seen S = record { channels = d; capacity = c; share = s; world = W; marks = marks; point = p; state = H; is_written = P; seen = seen_there S }
