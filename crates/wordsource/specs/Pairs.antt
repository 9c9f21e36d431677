-- The eight words of a block's sixteen numbers: word k is the numbers 2k and 2k + 1, the lower half first. Definitions.
use Rattle.std.specs.Prelude.{List, [], ◌∷◌, ℕ, zero, suc, ◌+◌, ◌*◌, get_or}

abbrev pub pair_at : (block : List ℕ) (k : ℕ) → ℕ
pair_at block k = get_or block (2 * k) 0 + 4294967296 * get_or block (2 * k + 1) 0

-- so many of them, from word k on
unfoldable pub words_of : (block : List ℕ) (k count : ℕ) → List ℕ
words_of block k zero = []
words_of block k (suc count) = pair_at block k ∷ words_of block (k + 1) count
