-- Calls of a manager, one number more of a sequence, and a whole sequence. Laws.
use mathlib.Core.Path.{◌≡◌, refl, ◌∙◌}
use mathlib.Core.List.{List}
use Prim.Native.Nat.{ℕ, suc, ◌+◌, ◌-◌, ◌*◌, ◌/◌, ◌≤◌, ◌<◌}
use native.Mathlib.Omega.{arith}
use borrow.Author.Tests.{eq-eqb, ne_eqb}
use lib.ListN.{length}
use Rattle.limits.specs.Limits.{branch_limit}
use Rattle.intervalstoremanager.specs.declared.IntervalStoreManager.{IntervalStoreManager}
use Rattle.intervalstoremanager.specs.declared.Got.{Got}
use Rattle.std.specs.Prelude.{Option}
use Rattle.intervalstoremanager.specs.Stack.{fresh}
use Rattle.intervalstoremanager.specs.Rows.{layout, got_of, rows_got, released_of, rows_released}
use Rattle.little.specs.Little.{little16}
use Rattle.lines.specs.Lines.{Wrote}
use Rattle.lines.proofs.Writes.{then, long}
use Rattle.recorded.specs.declared.intervals.Called.{Called}
use Rattle.recorded.specs.declared.intervals.Reached.{Reached}
use Rattle.recorded.specs.Sequences.{getting, looking, look_bytes, gotten, taken, called, rows_called, rows_to, told_next, manager_next, rows_next, Told, Turned, new, after, sequence_answer}
use Rattle.recorded.proofs.Stores.{nothing}

module _ (m : IntervalStoreManager) (rows : List (List ℕ)) (i : ℕ) {r : Called} {rows' : List (List ℕ)} where
  pub called_got : i ≡ getting → {g : Option Got} → g ≡ got_of m rows → r ≡ gotten m g → rows' ≡ rows_got m rows → (r ≡ called m rows i) × (rows' ≡ rows_called m rows i)
  unfolding called rows_called
  called_got h e f k = (rw (eq-eqb i getting h) (rw e at f), rw (eq-eqb i getting h) k)

  pub called_released : (i ≡ getting → ⊥) → {g : Option IntervalStoreManager} → g ≡ released_of m rows i → r ≡ taken m i g → rows' ≡ rows_released m rows i → (r ≡ called m rows i) × (rows' ≡ rows_called m rows i)
  unfolding called rows_called
  called_released h e f k = (rw (ne_eqb i getting h) (rw e at f), rw (ne_eqb i getting h) k)

-- TURNS
module _ (m : IntervalStoreManager) (rows : List (List ℕ)) (i : ℕ) {l : List ℕ} {at : ℕ} {o : List ℕ} where
  pub turn_look : i ≡ looking → {p : ℕ} → Wrote l at (rows_to rows branch_limit) p o × (p ≡ at + look_bytes) → Turned m rows i at l (record { manager = m; place = p }) rows o
  unfolding told_next manager_next rows_next
  turn_look h w = record { manager_is = rw (eq-eqb i looking h); rows_are = rw (eq-eqb i looking h); wrote = rw (eq-eqb i looking h) w.0; few = omega (arith, w.1) }

  pub turn_call : (i ≡ looking → ⊥) → {c : Called} {t : Reached} {rows' : List (List ℕ)} → c ≡ called m rows i → rows' ≡ rows_called m rows i → Told c rows' at l t o → Turned m rows i at l t rows' o
  unfolding told_next manager_next rows_next
  turn_call h {c} {t} {rows'} e f w = record {
    manager_is = rw (ne_eqb i looking h) (rw e at w.manager_is);
    rows_are = rw (ne_eqb i looking h) f;
    wrote = rw (ne_eqb i looking h) (rw (e, f) at w.wrote);
    few = omega (arith, w.next);
  }

-- A SEQUENCE, of which i numbers are done
pub record Sequenced (given lent out : List ℕ) (state : Reached) (rows : List (List ℕ)) (i : ℕ) : Type 0 where
  pub some : 1 ≤ i
  pub within : i ≤ length given / 2
  pub manager_is : state.manager ≡ (after given (i - 1)).manager
  pub rows_are : rows ≡ (after given (i - 1)).rows
  pub wrote : Wrote lent 0 (after given (i - 1)).written state.place out
  pub few : state.place ≤ look_bytes * i

module _ (given : List ℕ) {lent out : List ℕ} where
  pub sequenced_start : (length given / 2 ≡ 0 → ⊥) → {size a : ℕ} {m : IntervalStoreManager} {rows : List (List ℕ)} {t : Reached} → size ≡ little16 given 0 → m ≡ new size → rows ≡ layout (fresh size) → a ≡ m.capacity → Told (record { answer = a; manager = m }) rows 0 lent t out → Sequenced given lent out t rows 1
  unfolding after
  sequenced_start h {size} {a} {m} {rows} {t} e f g k w = record {
    some = omega arith;
    within = omega arith;
    manager_is = w.manager_is ∙ (rw e at f);
    rows_are = rw e at g;
    wrote = rw e at (rw (k, f, g) at w.wrote);
    few = omega (arith, w.next);
  }

  pub sequenced_all : {state : Reached} {rows : List (List ℕ)} {i : ℕ} → Sequenced given lent out state rows i → length given / 2 ≤ i → Wrote lent 0 (sequence_answer given) state.place out
  unfolding sequence_answer
  sequenced_all {state} {rows} {i} d h =
      let z : i ≡ length given / 2 = omega (arith, d.within) in
      rw (ne_eqb (length given / 2) 0 (λ e. absurd (omega (arith, d.some)))) (rw z at d.wrote)

pub sequenced_next : {given lent out : List ℕ} {state : Reached} {rows : List (List ℕ)} {i : ℕ} → Sequenced given lent out state rows i → i < length given / 2 → {n : ℕ} → n ≡ little16 given (2 * i) → {state' : Reached} {rows' : List (List ℕ)} {out' : List ℕ} → Turned state.manager rows n state.place out state' rows' out' → Sequenced given lent out' state' rows' (i + 1)
unfolding after
sequenced_next {given} {lent} {out} {state} {rows} {i} d h {n} e {state'} {rows'} {out'} t =
    let z : i + 1 - 1 ≡ suc (i - 1) = omega (arith, d.some) in
    let y : 2 * suc (i - 1) ≡ 2 * i = omega (arith, d.some) in
    record {
      some = omega arith;
      within = omega arith;
      manager_is = rw (z, y) (rw (d.manager_is, d.rows_are, e) at t.manager_is);
      rows_are = rw (z, y) (rw (d.manager_is, d.rows_are, e) at t.rows_are);
      wrote = rw (z, y) (then d.wrote (rw (d.manager_is, d.rows_are, e) at t.wrote));
      few = omega (arith, d.few, t.few);
    }

pub sequenced_none : (given : List ℕ) → length given / 2 ≡ 0 → {l : List ℕ} → Wrote l 0 (sequence_answer given) 0 l
unfolding sequence_answer
sequenced_none given h = nothing (rw (eq-eqb (length given / 2) 0 h))

-- The turns up to the i-th: whatever was lent before the size was answered, what follows stands after it.
pub record Turns (given out₀ : List ℕ) (state₀ : Reached) (rows₀ : List (List ℕ)) (out : List ℕ) (state : Reached) (rows : List (List ℕ)) (i : ℕ) : Type 0 where
  pub within : i ≤ length given / 2
  pub few : state.place ≤ look_bytes * i
  pub same : length out ≡ length out₀
  pub follows : (lent : List ℕ) → Sequenced given lent out₀ state₀ rows₀ 1 → Sequenced given lent out state rows i

pub no_turns : {given out : List ℕ} {state : Reached} {rows : List (List ℕ)} → (length given / 2 ≡ 0 → ⊥) → state.place ≡ 0 + 8 → Turns given out state rows out state rows 1
no_turns h k = record { within = omega arith; few = omega arith; same = refl; follows = λ lent d. d }

pub one_turn : {given out₀ : List ℕ} {state₀ : Reached} {rows₀ : List (List ℕ)} {out : List ℕ} {state : Reached} {rows : List (List ℕ)} {i : ℕ} → Turns given out₀ state₀ rows₀ out state rows i → i < length given / 2 → {n : ℕ} → n ≡ little16 given (2 * i) → {state' : Reached} {rows' : List (List ℕ)} {out' : List ℕ} → Turned state.manager rows n state.place out state' rows' out' → Turns given out₀ state₀ rows₀ out' state' rows' (i + 1)
one_turn d h e t = record { within = omega arith; few = omega (arith, d.few, t.few); same = long t.wrote ∙ d.same; follows = λ lent s. sequenced_next (d.follows lent s) h e t }
