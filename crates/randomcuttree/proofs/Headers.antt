-- The header after an add or a delete is that of the world after it. Assumes nothing.
use mathlib.Core.Path.{◌≡◌, refl}
use mathlib.Core.List.{List}
use Prim.Native.Nat.{ℕ}
use lib.Ieee.{Float}
use Rattle.cuttree.specs.Run.{World, Answer, add, delete, call}
use Rattle.cuttree.proofs.Refused.{by_add, by_delete}
use Rattle.wholetree.specs.Whole.{whole}
use Rattle.randomcuttree.specs.State.{header_of}
use Rattle.randomcuttree.specs.Answers.{add_says, delete_says, header_added, header_deleted}

module _ (d c : ℕ) (s : Float) (W : World (whole d)) where
  abbrev HeaderAdded : Answer (whole d) × World (whole d) → Type 0
  HeaderAdded x = header_added (header_of d c s W) (add_says d (header_of d c s x.1) x.0) ≡ header_of d c s x.1

  pub add_header : (i : ℕ) (ws : List ℕ) → HeaderAdded (call (whole d) c W (add i ws))
  add_header i ws = by_add (whole d) c HeaderAdded W (λ m. refl) i ws (λ j n U _. refl)

  abbrev HeaderDeleted : Answer (whole d) × World (whole d) → Type 0
  HeaderDeleted x = header_deleted (header_of d c s W) (delete_says d (header_of d c s x.1) x.0) ≡ header_of d c s x.1

  pub delete_header : (i : ℕ) → HeaderDeleted (call (whole d) c W (delete i))
  delete_header i = by_delete (whole d) c HeaderDeleted W (λ m. refl) i (λ j U _. refl)
