-- `runlayout::check_calls` meets its contract: what is told of the calls from a place on, after the numbers used, is told of all. Assumes nothing.
use mathlib.Core.Path.{◌≡◌, refl, sym, ap, ◌∙◌}
use mathlib.Core.Bool.{Bool, true}
use mathlib.Core.Option.{Option, none, some}
use mathlib.Core.List.{List, []}
use Rattle.std.specs.Prelude.{Option as Maybe, Some}
use Prim.Native.Nat.{ℕ, ◌+◌, ◌<◌, min}
use native.Mathlib.Omega.{arith}
use borrow.Author.Tests.{leb-true, leb-false, le-leb, lt-leb}
use lib.Dec.{leb}
use Rattle.cuttree.proofs.Tests.{by-test}
use Rattle.runlayout.specs.Layout.{RunCall, with_call, size, number, is_sampled, width_at, stands_at, channels, capacity, call_at, rest_from}
use Rattle.runlayout.specs.Check.{width_of, width_of_kind, widths, verdict}
use Rattle.runlayout.proofs.ByKind.{width_kind}
use Rattle.runlayout.proofs.Rest.{within, is_call_lem, making_whole, making_fits, making_five, rest_end, rest_step, rest_out}
use Rattle.runlayout.proofs.check_calls.Goals as goal

-- where a sum is cut off: above all that may be lent
abbrev most : ℕ
most = 18446744073709551615

-- whether the numbers used and those to come, w of the next call and `rest` after it, are enough
counted : (lent used w rest : ℕ) → lent < 4611686018427387904 → leb (used + (w + rest)) lent ≡ leb (min (used + w) most + rest) lent
counted lent used w rest h = by-test (leb (used + (w + rest)) lent)
    (λ e. let l = leb-true (used + (w + rest)) lent e in e ∙ sym (le-leb (min (used + w) most + rest) lent (omega arith)))
    (λ e. let l = leb-false (used + (w + rest)) lent e in e ∙ sym (lt-leb (min (used + w) most + rest) lent (omega arith)))

module _ (d c lent used : ℕ) where
  ahead : lent < 4611686018427387904 → (x : RunCall d) (o : Option (List (RunCall d))) → verdict d c lent used (with_call x o) ≡ verdict d c lent (min (used + width_of d c x) most) o
  ahead h x none = refl
  ahead h x (some cs) = ap (λ (b : Bool). Some b) (counted lent used (width_of d c x) (widths d c cs) h)

ended : (run : List ℕ) (p : ℕ) → p ≡ size run → rest_from run (channels run) p ≡ some []
ended run p e = ap (rest_from run (channels run)) e ∙ rest_end run (channels run)

module _ (run : List ℕ) (lent p used : ℕ) (v : Maybe Bool) (few : lent < 4611686018427387904) where
  stands_then : (d c : ℕ) → p < size run → stands_at run p ≡ true → verdict d c lent used (rest_from run d p) ≡ v
      → verdict d c lent (min (used + width_of_kind d c (number run p) (number run (p + 1))) most) (rest_from run d (p + width_at run p)) ≡ v
  stands_then d c h t e =
      ap (λ (w : ℕ). verdict d c lent (min (used + w) most) (rest_from run d (p + width_at run p))) (sym (width_kind run d c p (is_sampled run) (is_call_lem run p t)))
      ∙ sym (ahead d c lent used few (call_at run d p) (rest_from run d (p + width_at run p))) ∙ sym (ap (verdict d c lent used) (rest_step run d p h t)) ∙ e

  -- the same of what the body has: w the width of the answer, u the numbers used with it and q the next place
  turn : (d c w u q : ℕ) → w ≡ width_of_kind d c (number run p) (number run (p + 1)) → u ≡ min (used + w) most → q ≡ width_at run p → p < size run → stands_at run p ≡ true
      → verdict d c lent used (rest_from run d p) ≡ v → verdict d c lent u (rest_from run d (p + q)) ≡ v
  turn d c w u q f g i h t e = rw (g, f, i, stands_then d c h t e)

pub is_sampled-sampled-requires : goal.is_sampled-sampled-requires
is_sampled-sampled-requires c = omega (arith, making_five c.args.run.now c.requires.0)

pub making_width-p-requires : goal.making_width-p-requires
making_width-p-requires c = omega (arith, making_five c.args.run.now c.requires.0)

pub loop-p-init : goal.loop-p-init
loop-p-init c = let e = c.making_width-p.ensures.0 in
    let r = c.args.run.now in
    (omega (arith, e, making_fits r c.requires.0), ap (λ (p : ℕ). verdict (channels r) (capacity r) c.args.lent 1 (rest_from r (channels r) p)) e)

pub stands_at-requires : goal.stands_at-requires
stands_at-requires c = (omega (arith, c.loop-p-test.true, c.size_of-n.ensures), making_whole c.args.run.now c.requires.0, c.is_sampled-sampled.ensures)

pub returns-then-not-stands_at : goal.returns-then-not-stands_at
returns-then-not-stands_at c = let l = c.loop-p in
    let r = c.args.run.now in
    let o : l.p < size r = omega (arith, c.loop-p-test.true, c.size_of-n.ensures) in
    sym (ap (verdict (channels r) (capacity r) c.args.lent l.used) (rest_out r (channels r) l.p o (sym c.stands_at.ensures ∙ c.if-not-stands_at.true))) ∙ l.invariant.1

pub answer_width-requires : goal.answer_width-requires
answer_width-requires c = (c.requires.0, omega (arith, c.loop-p-test.true, c.size_of-n.ensures))

pub width_at-p-requires : goal.width_at-p-requires
width_at-p-requires c = (omega (arith, c.loop-p-test.true, c.size_of-n.ensures), making_whole c.args.run.now c.requires.0)

pub loop-p-preserved : goal.loop-p-preserved
loop-p-preserved c = let l = c.loop-p in
    let r = c.args.run.now in
    let t : stands_at r l.p ≡ true = sym c.stands_at.ensures ∙ c.if-not-stands_at.false in
    let w = c.answer_width in (
      omega (arith, within r l.p t, c.width_at-p.ensures.0),
      turn r c.args.lent l.p l.used _ c.requires.1 (channels r) (capacity r) w.result _ _ w.ensures.0 c.saturating_add-used.ensures c.width_at-p.ensures.0 (omega (arith, c.loop-p-test.true, c.size_of-n.ensures)) t l.invariant.1,
    )

pub returns : goal.returns
returns c = let l = c.loop-p in
    let r = c.args.run.now in
    let e : l.p ≡ size r = omega (arith, c.loop-p-test.false, c.size_of-n.ensures, l.invariant.0) in
    ap (λ (n : ℕ). Some (leb n c.args.lent)) (omega arith) ∙ sym (ap (verdict (channels r) (capacity r) c.args.lent l.used) (ended r l.p e)) ∙ l.invariant.1
