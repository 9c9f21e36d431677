-- What a new value's place asks of the functions that write it, and what they give: from the record `Graft`.
use mathlib.Core.Path.{◌≡◌, sym, ◌∙◌, subst}
use mathlib.Core.Bool.{Bool, cond}
use mathlib.Core.Option.{some}
use mathlib.Core.List.{List}
use Prim.Native.Nat.{ℕ, ◌+◌, ◌-◌, ◌≤◌, ◌<◌}
use native.Mathlib.Omega.{arith}
use lib.Dec.{eqb}
use lib.ListN.{length, take, set}
use lib.Ieee.{Float}
use Rattle.limits.specs.Limits.{capacity_limit, branch_limit, point_limit, total_limit}
use Rattle.cut.specs.declared.Cut.{Cut}
use Rattle.cuttree.specs.Setting.{Setting, Cut as CutOf}
use Rattle.cuttree.specs.Tree.{Tree, id, height, mass, above}
use Rattle.cuttree.specs.Walk.{sub, graft}
use Rattle.cuttree.proofs.Masses.{mass_in}
use Rattle.wholetree.specs.Reading.{Reading}
use Rattle.wholetree.specs.Whole.{whole}
use Rattle.layout.specs.Slots.{row_of, field}
use Rattle.layout.proofs.Replaced.{in_sub}
use Rattle.layout.proofs.Trails.{path_node}
use Rattle.nodestore.specs.Rows.{mass_over, relink, heavier, Climb, row_for, mass_at}
use Rattle.nodestore.specs.Stored.{Arrays, Graft}
use Rattle.nodestore.proofs.Masses.{climb_low}
use Rattle.nodestore.proofs.Facts.{relinked, last_taken, root_replace}
use Rattle.walk.proofs.Ends.{walk_is}
use Rattle.nodestore.proofs.Grafts.{mass_at_lem, id_low, new_id, new_row, parent_low, new_climb, new_arrays}

module _ {d c n k b index h : ℕ} {N path : List (List ℕ)} {C : List Float} {K : List ℕ} {cut : Cut} {left : Bool} {t : Tree (whole d)} {p : Reading} {x : CutOf (whole d)} (w : Graft d c N C K path k b index cut left n t p h x) where
  abbrev S : Setting
  S = whole d

  within : h ≤ height S t p
  within = omega (arith, w.place)

  pub place_low : k < capacity_limit
  place_low = omega (arith, w.place, w.walked.count, w.walked.most)

  long : k ≤ length path
  long = omega (arith, w.walked.long, place_low)

  node_is : field path k 0 ≡ id S c (sub S t h p)
  node_is = path_node d c p path t (walk_is w.walked) k h w.place

  pub mass_asks : (o : ℕ) → o ≡ field path k 0 → (o < c → o < branch_limit) × (o - c < point_limit)
  mass_asks o e = rw (e ∙ node_is) (id_low d c t p N C K w.stored (sub S t h p) (in_sub d c h p t within))

  mass_is : (o : ℕ) → o ≡ field path k 0 → mass_at c N K o ≡ mass S (sub S t h p)
  mass_is o e = rw (e ∙ node_is) (mass_at_lem d c t p N C K w.stored (sub S t h p) (in_sub d c h p t within))

  pub mass_low : (o : ℕ) → o ≡ field path k 0 → mass_at c N K o ≤ total_limit - 1
  mass_low o e = omega (arith, mass_is o e, mass_in S (in_sub d c h p t within), w.room)

  row_is : (o m : ℕ) → o ≡ field path k 0 → m ≡ mass_at c N K o → row_for left (index + c) o m cut.dimension ≡ row_of d c (above S b x index p (sub S t h p))
  row_is o m e g = rw (g ∙ mass_is o e, e ∙ node_is, w.left_is, w.channel_is) (sym (new_row d c t p N C K w.stored h b index x within w.fresh w.small))

  pub insert_asks : (o m : ℕ) (row : List ℕ) → o ≡ field path k 0 → m ≡ mass_at c N K o → row ≡ row_for left (index + c) o m cut.dimension →
      (0 < length (take k path) → field (take k path) (length (take k path) - 1) 0 < branch_limit) × Climb 0 (total_limit - 1) (relink (set N b row) (take k path) (length (take k path)) o b) (take k path)
  insert_asks o m row e g r = rw (relinked path k long (set N b row) o b) (rw (r ∙ row_is o m e g, e ∙ node_is) (
    last_taken path k long (parent_low d c t p N C K w.stored h b index x within w.fresh w.small k path w.place (walk_is w.walked)),
    climb_low (new_climb d c t p N C K w.stored h b index x within w.fresh w.small k path w.place (walk_is w.walked) (total_limit - 1) w.room),
  ))

  pub placed_arrays : (o m : ℕ) (row : List ℕ) → o ≡ field path k 0 → m ≡ mass_at c N K o → row ≡ row_for left (index + c) o m cut.dimension →
      Arrays d c (mass_over heavier (take k path) (relink (set N b row) (take k path) (length (take k path)) o b)) (set C b cut.value) (set K index 1) (some (graft S b index p (h, x) t))
  placed_arrays o m row e g r = rw (relinked path k long (set N b row) o b) (rw (r ∙ row_is o m e g, e ∙ node_is, w.value_is)
      (new_arrays d c t p N C K w.stored h b index x within w.fresh w.small k path w.place (walk_is w.walked) w.new w.index_small))

  -- the root is the new branch where it stands above the root
  pub placed_root : (root : ℕ) → root ≡ id S c t → cond (eqb k 0) b root ≡ id S c (graft S b index p (h, x) t)
  placed_root root e = rw e (subst (λ y. cond (eqb k 0) y (id S c t) ≡ id S c (graft S b index p (h, x) t)) (new_id d c t p N C K w.stored h b index x within w.fresh w.small) (sym (root_replace d c t _ p h k w.place)))
