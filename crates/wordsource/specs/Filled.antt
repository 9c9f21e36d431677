-- What the source of words answers, and what it leaves of a lent list, for every key, start and list. Definitions and statements.
use Rattle.std.specs.Prelude.{◌≡◌, refl, Bool, true, false, ◌&&◌, cond, List, ℕ, ◌+◌, ◌-◌, ◌<◌, eqb, ltb, leb, length, get_or, Result, Ok, Err}
use Rattle.refusals.specs.declared.Refusal.{Refusal}
use Rattle.refusals.specs.declared.Refusal.TheVariants.{KeyLength, PastStream}
use Rattle.wordsource.specs.Stream.{key_bytes, stream_word, word_limit, stream_words}

-- Whether the stream has so many words from the start on; '22' is 'a start at 2^35 or above, or a stretch running past word 2^35 − 1'. A stretch of no words has to
-- start below 2^35 too.
abbrev pub is_stretch : (start count : ℕ) → Bool
is_stretch start count = ltb start word_limit && leb (start + count) word_limit

at_the_end : is_stretch word_limit 0 ≡ false
at_the_end = refl

none_before_it : is_stretch (word_limit - 1) 0 ≡ true
none_before_it = refl

last_word : (is_stretch (word_limit - 1) 1 ≡ true) × (is_stretch (word_limit - 1) 2 ≡ false)
last_word = (refl, refl)

-- THE ANSWER, how many words are written, and the list after it: 'A key of another length is 21; next' 22; then every slot has its word, slot i the word
-- start + i (`EachSlot`). A refused list stays as it was.
unfoldable pub filled : (key : List ℕ) (start : ℕ) (words : List ℕ) → Result ℕ Refusal × List ℕ
filled key start words =
    cond (eqb (length key) key_bytes)
    (cond (is_stretch start (length words)) (Ok (length words), stream_words key start (length words)) (Err PastStream, words))
    (Err KeyLength, words)

-- Slot by slot. Proved in proofs/Slots.antt, as is what follows.
abbrev pub EachSlot : Type 0
EachSlot = (key : List ℕ) (start count i d : ℕ) → i < count → get_or (stream_words key start count) i d ≡ stream_word key (start + i)

-- 'Two starts agree wherever they overlap', of the code: two calls with one key, each answered as its contract ensures it, have the same word wherever the slots'
-- numbers in the stream are the same.
abbrev pub StartsAgree : Type 0
StartsAgree = (key : List ℕ) (m n : ℕ) (us vs us' vs' : List ℕ) (p q : ℕ) → (Ok p, us') ≡ filled key m us → (Ok q, vs') ≡ filled key n vs
    → (i j d : ℕ) → i < p → j < q → m + i ≡ n + j → get_or us' i d ≡ get_or vs' j d
