-- `runsteps::write_reply` meets its contract. Assumes nothing.
use mathlib.Core.Path.{◌≡◌, refl, sym, ap, ◌∙◌}
use mathlib.Core.List.{List, [], ◌∷◌, ◌++◌}
use Prim.Native.Nat.{ℕ, zero, suc, ◌+◌, ◌*◌, ◌≤◌, ◌<◌}
use native.Mathlib.Omega.{arith}
use lib.ListN.{length, get_or, take}
use lib.Seq.{sets, length-sets}
use Rattle.little.specs.Little.{bytes32, bytes_of}
use Rattle.little.proofs.Stored.{sets_append, length_bytes, bytes_append}
use Rattle.runsteps.proofs.write_reply.Goals as goal

length_first : (i : ℕ) (xs : List ℕ) → i ≤ length xs → length (take i xs) ≡ i
length_first zero xs h = refl
length_first (suc i) [] h = absurd (omega arith)
length_first (suc i) (x ∷ xs) h = ap suc (length_first i xs (omega arith))

take_next : (i : ℕ) (xs : List ℕ) → i < length xs → take (suc i) xs ≡ take i xs ++ (get_or xs i 0 ∷ [])
take_next i [] h = absurd (omega arith)
take_next zero (x ∷ xs) h = refl
take_next (suc i) (x ∷ xs) h = ap {B = List ℕ} (λ l. x ∷ l) (take_next i xs (omega arith))

same : (out i : ℕ) (reply e₀ e : List ℕ) → e ≡ sets e₀ (4 * out) (bytes_of (take i reply)) → length e ≡ length e₀
same out i reply e₀ e h = ap length h ∙ length-sets e₀ (4 * out) (bytes_of (take i reply))

-- one number more is written
step : (out i : ℕ) (reply e₀ e e' : List ℕ) → i < length reply → e ≡ sets e₀ (4 * out) (bytes_of (take i reply)) → e' ≡ sets e (4 * (out + i)) (bytes32 (get_or reply i 0))
    → e' ≡ sets e₀ (4 * out) (bytes_of (take (i + 1) reply))
step out i reply e₀ e e' h f g =
    let x = get_or reply i 0 in
    let next : i + 1 ≡ suc i = omega arith in
    let w : 4 * (out + i) ≡ 4 * out + length (bytes_of (take i reply)) = omega (arith, length_bytes (take i reply), length_first i reply (omega arith)) in
    g ∙ ap (λ (n : ℕ). sets e n (bytes32 x)) w ∙ ap (λ (l : List ℕ). sets l (4 * out + length (bytes_of (take i reply))) (bytes32 x)) f
    ∙ sym (sets_append e₀ (4 * out) (bytes_of (take i reply)) (bytes32 x))
    ∙ ap (λ (l : List ℕ). sets e₀ (4 * out) l) (sym (bytes_append (take i reply) (x ∷ []))) ∙ ap (λ (l : List ℕ). sets e₀ (4 * out) (bytes_of l)) (sym (ap (λ (n : ℕ). take n reply) next ∙ take_next i reply h))

pub put_u32-requires : goal.put_u32-requires
put_u32-requires c = let l = c.loop-i in
    omega (arith, c.requires.1, c.loop-i-test.true, same c.args.out l.i c.args.reply.now c.args.answers.now l.answers l.invariant)

pub loop-i-preserved : goal.loop-i-preserved
loop-i-preserved c = let l = c.loop-i in
    step c.args.out l.i c.args.reply.now c.args.answers.now l.answers _ (omega (arith, c.requires.0, c.loop-i-test.true)) l.invariant c.put_u32.ensures

pub returns : goal.returns
returns c = let l = c.loop-i in
    let e : l.i ≡ c.args.n = omega arith in
    l.invariant ∙ ap (λ (i : ℕ). sets c.args.answers.now (4 * c.args.out) (bytes_of (take i c.args.reply.now))) e
