-- The words of a key (document 02, A.6): a stream of 2^35 words, each by its number. Definitions.
use Rattle.std.specs.Prelude.{◌≡◌, refl, List, [], ◌∷◌, ℕ, zero, suc, ◌+◌, ◌*◌, ◌/◌, ◌%◌, ◌^◌, replicate}
use Rattle.little.specs.Little.{little64}
use Rattle.chacha20.specs.Block.{quarter_round, quarter_at, columns, diagonals, inner_blocks, block_of, chacha20_block}

-- 'a 32-byte key, nonce zero': a nonce of RFC 8439 has 12 bytes
abbrev pub key_bytes : ℕ
key_bytes = 32

abbrev pub zero_nonce : List ℕ
zero_nonce = replicate 12 0

-- THE WORD n of a key: 'block counter from 0, each word being eight keystream bytes with the low byte first'. The keystream is block after block (RFC 8439, 2.4),
-- and a block has 64 bytes, so word n is number n % 8 of the eight of block n / 8.
unfoldable pub stream_word : (key : List ℕ) (n : ℕ) → ℕ
stream_word key n = little64 (chacha20_block key (n / 8) zero_nonce) (8 * (n % 8))

-- RFC 8439, A.1, vector 1: the keystream of a key of zeros begins 76 b8 e0 ad a0 f1 3d 90
first_word : stream_word (replicate 32 0) 0 ≡ 0x903d_f1a0_ade0_b876
unfolding stream_word chacha20_block block_of inner_blocks columns diagonals quarter_at quarter_round
first_word = refl

-- The stream ends where the block counter, a number of 32 bits, does: 2^32 blocks of eight words.
abbrev pub word_limit : ℕ
word_limit = 2 ^ 35

-- so many words from number n on
unfoldable pub stream_words : (key : List ℕ) (n count : ℕ) → List ℕ
stream_words key n zero = []
stream_words key n (suc count) = stream_word key n ∷ stream_words key (n + 1) count
