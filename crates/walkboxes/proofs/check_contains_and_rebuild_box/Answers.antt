-- `check_contains_and_rebuild_box` meets its contract. Assumes nothing.
use borrow.Author.Tests.{lt-ltb, le-ltb}
use mathlib.Core.Path.{refl, sym, ◌∙◌}
use mathlib.Core.Bool.{true≢false, false≢true}
use Rattle.boxstore.proofs.Written.{written_other}
use Rattle.rowboxes.proofs.Rows.{small}
use Rattle.walkboxes.proofs.check_contains_and_rebuild_box.Goals as goal

pub returns-then-sizes-index : goal.returns-then-sizes-index
returns-then-sizes-index c = let h = c.if-sizes-index.true in
    record { rebuilt = record { answer = rw (le-ltb _ _ h); kept = λ _. refl; moved = λ _ d l u a b p q. sym (written_other _ _ _ _ h) }; padded = c.requires.padded.2 }

pub holds-requires : goal.holds-requires
holds-requires c = let p = c.requires in
    record { slot = small _ _ c.if-sizes-index.false c.args.sizes.now.few.1; padded = (p.padded.0, p.padded.2) }

pub returns-then-holds : goal.returns-then-holds
returns-then-holds c = record {
  rebuilt = record {
    answer = rw (lt-ltb _ _ c.if-sizes-index.false) (sym c.if-holds.true ∙ c.holds.ensures);
    kept = λ _. refl;
    moved = λ x. absurd (true≢false x);
  };
  padded = c.requires.padded.2;
}

pub rebuild_box-requires : goal.rebuild_box-requires
rebuild_box-requires c = let p = c.requires in
    let h = c.if-sizes-index.false in
    record { stands = (h, p.stands h); padded = (p.padded.1, p.padded.2) }

pub returns : goal.returns
returns c = let E = c.rebuild_box.ensures in record {
  rebuilt = record {
    answer = rw (lt-ltb _ _ c.if-sizes-index.false) (sym c.if-holds.false ∙ c.holds.ensures);
    kept = λ x. absurd (false≢true x);
    moved = λ _. E.kept;
  };
  padded = E.padded;
}
