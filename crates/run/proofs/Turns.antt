-- A run from one call to the next, and at its end. Laws.
use mathlib.Core.Path.{◌≡◌, refl, sym, ap, ◌∙◌}
use mathlib.Core.Bool.{true}
use mathlib.Core.Option.{Option, some}
use mathlib.Core.List.{List, []}
use Prim.Native.Nat.{ℕ, ◌+◌, ◌*◌, ◌≤◌, ◌<◌}
use native.Mathlib.Omega.{arith}
use lib.ListN.{length}
use lib.Seq.{sets, length-sets}
use Rattle.little.specs.Little.{bytes_of}
use Rattle.little.proofs.Stored.{sets_append, length_bytes, bytes_append}
use Rattle.wholetree.specs.Whole.{whole}
use Rattle.sampledtree.specs.Sampled.{Sampled}
use Rattle.samplerplustree.specs.declared.SamplerPlusTree.{SamplerPlusTree}
use Rattle.runlayout.specs.Layout.{RunCall, size, number, is_sampled, channels, capacity, share, width_at, stands_at, call_at, rest_from}
use Rattle.runlayout.specs.Check.{width_of, widths, width_of_kind}
use Rattle.runlayout.proofs.ByKind.{width_kind}
use Rattle.runlayout.proofs.Rest.{rest_end, Begun, rest_call, is_call_lem}
use Rattle.runsteps.specs.Told.{told, left, told_from}
use Rattle.runsteps.specs.Standing.{Kept, SomeStanding}
use Rattle.runsteps.specs.Steps.{Room, Stepped, Steps}
use Rattle.runsteps.proofs.Widths.{length_told}
use Rattle.run.specs.Running.{Running}

module _ (run : List ℕ) where
  module _ (p out : ℕ) (h : SamplerPlusTree) (k : Kept) (answers final : List ℕ) (count : ℕ) (R : Running run p out h k answers final count) where
    -- at the end
    ended : (o : Option (List (RunCall (channels run)))) → rest_from run (channels run) p ≡ o → o ≡ some [] → R.calls ≡ []
    ended o e f = let z : some R.calls ≡ some [] = sym R.rest ∙ e ∙ f in cc

    pub last : p ≡ size run → (out ≡ count) × (answers ≡ final)
    last e =
        let z : R.calls ≡ [] = ended (rest_from run (channels run) p) refl (ap (λ (n : ℕ). rest_from run (channels run) n) e ∙ rest_end run (channels run)) in
        (omega (arith, R.numbers, ap (widths (channels run) (capacity run)) z), ap (λ (cs : List (RunCall (channels run))). sets answers (4 * out) (bytes_of (told_from (channels run) (share run) R.world cs))) (sym z) ∙ R.finish)

    module _ (l : p < size run) where
      begun : Begun run (channels run) p R.calls
      begun = rest_call run (channels run) p R.calls l R.rest

      -- what the call is told
      pub stands : stands_at run p ≡ true
      stands = begun.stands

      pub some_standing : SomeStanding run h k
      some_standing = record { world = R.world; standing = R.standing }

      abbrev here : RunCall (channels run)
      here = call_at run (channels run) p

      module _ (w : ℕ) (e : w ≡ width_of_kind (channels run) (capacity run) (number run p) (number run (p + 1))) where
        width_is : w ≡ width_of (channels run) (capacity run) here
        width_is = e ∙ sym (width_kind run (channels run) (capacity run) p (is_sampled run) (is_call_lem run p stands))

        rest_width : w + widths (channels run) (capacity run) begun.rest ≡ widths (channels run) (capacity run) R.calls
        rest_width = omega (arith, width_is, ap (widths (channels run) (capacity run)) begun.is)

        -- its answer's numbers find room
        pub fits : 4 * (out + w) ≤ length answers
        fits = omega (arith, rest_width, R.numbers, R.room)

        module _ (r : Room) (h' : SamplerPlusTree) (k' : Kept) (r' : Room) (steps : Steps run p out h k r h' k' r') (lent : r.answers ≡ answers) where
          abbrev numbers : List ℕ
          numbers = told (channels run) (share run) R.world here

          abbrev after : Sampled (whole (channels run))
          after = left (channels run) (share run) R.world here

          done : Stepped run p out R.world r h' k' r'
          done = steps R.world R.standing

          written : r'.answers ≡ sets answers (4 * out) (bytes_of numbers)
          written = ap (λ (x : Room). x.answers) done.room_is ∙ ap (λ (l : List ℕ). sets l (4 * out) (bytes_of numbers)) lent

          told_width : length numbers ≡ w
          told_width = length_told (channels run) (share run) R.world here ∙ ap (λ (c : ℕ). width_of (channels run) c here) R.standing.capacity_is ∙ sym width_is

          pub answers_length : length r'.answers ≡ length answers
          answers_length = ap length written ∙ length-sets answers (4 * out) (bytes_of numbers)

          -- the run at the next call
          pub turn : (next : ℕ) → next ≡ p + width_at run p → Running run next (out + w) h' k' r'.answers final count
          turn next g =
              let others = told_from (channels run) (share run) after begun.rest in
              let place : 4 * (out + w) ≡ 4 * out + length (bytes_of numbers) = omega (arith, length_bytes numbers, told_width) in
              record {
                world = after;
                calls = begun.rest;
                standing = done.standing;
                rest = ap (λ (n : ℕ). rest_from run (channels run) n) g ∙ begun.after;
                room = omega (arith, R.room, answers_length);
                numbers = omega (arith, R.numbers, rest_width);
                finish =
                    ap (λ (n : ℕ). sets r'.answers n (bytes_of others)) place ∙ ap (λ (l : List ℕ). sets l (4 * out + length (bytes_of numbers)) (bytes_of others)) written
                    ∙ sym (sets_append answers (4 * out) (bytes_of numbers) (bytes_of others)) ∙ ap (λ (l : List ℕ). sets answers (4 * out) l) (sym (bytes_append numbers others))
                    ∙ ap (λ (cs : List (RunCall (channels run))). sets answers (4 * out) (bytes_of (told_from (channels run) (share run) R.world cs))) (sym begun.is) ∙ R.finish;
              }
