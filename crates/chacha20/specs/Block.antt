-- The ChaCha20 block function of RFC 8439, for every key, counter and nonce: its own steps, in its order. Definitions.
use Rattle.std.specs.Prelude.{◌≡◌, ℕ, zero, suc, ◌+◌, ◌-◌, ◌*◌, ◌/◌, ◌%◌, ◌^◌, List, [], ◌∷◌, bit_xor, slice_index, slice_set, refl}
use Rattle.little.specs.Little.{little32, bytes_of}
use Rattle.chacha20.specs.declared.Quarter.{Quarter}

-- RFC 8439, 2.1: + is 'integer addition modulo 2^32', <<< n 'an n-bit left roll (towards the high bits)', both of numbers of 32 bits. Its ^ is `bit_xor`.
abbrev pub plus : ℕ → ℕ → ℕ
plus a b = (a + b) % 2 ^ 32

abbrev pub roll : (n x : ℕ) → ℕ
roll n x = x * 2 ^ n % 2 ^ 32 + x / 2 ^ (32 - n)

-- RFC 8439, 2.1: 'a += b; d ^= a; d <<<= 16; c += d; b ^= c; b <<<= 12; a += b; d ^= a; d <<<= 8; c += d; b ^= c; b <<<= 7;'
unfoldable pub quarter_round : (a b c d : ℕ) → Quarter
quarter_round a b c d =
    let a₁ = plus a b in
    let d₁ = roll 16 (bit_xor d a₁) in
    let c₁ = plus c d₁ in
    let b₁ = roll 12 (bit_xor b c₁) in
    let a₂ = plus a₁ b₁ in
    let d₂ = roll 8 (bit_xor d₁ a₂) in
    let c₂ = plus c₁ d₂ in
    let b₂ = roll 7 (bit_xor b₁ c₂) in
    record { a = a₂; b = b₂; c = c₂; d = d₂ }

-- RFC 8439, 2.1.1, 'Test Vector for the ChaCha Quarter Round'
rfc_2_1_1 : quarter_round 0x1111_1111 0x0102_0304 0x9b8d_6f43 0x0123_4567 ≡ record { a = 0xea2a_92f4; b = 0xcb1c_f8ce; c = 0x4581_472e; d = 0x5881_c4bb }
unfolding quarter_round
rfc_2_1_1 = refl

-- RFC 8439, 2.2: QUARTERROUND(x, y, z, w), the quarter round of the numbers at four places of a state of sixteen
unfoldable pub quarter_at : (x y z w : ℕ) → List ℕ → List ℕ
quarter_at x y z w s =
    let q = quarter_round (slice_index s x) (slice_index s y) (slice_index s z) (slice_index s w) in
    slice_set (slice_set (slice_set (slice_set s x q.a) y q.b) z q.c) w q.d

-- RFC 8439, 2.3: 'column rounds' and 'diagonal rounds', of four quarter rounds each; in 2.3.1 inner_block is one of each
unfoldable pub columns : List ℕ → List ℕ
columns s = quarter_at 3 7 11 15 (quarter_at 2 6 10 14 (quarter_at 1 5 9 13 (quarter_at 0 4 8 12 s)))

unfoldable pub diagonals : List ℕ → List ℕ
diagonals s = quarter_at 3 4 9 14 (quarter_at 2 7 8 13 (quarter_at 1 6 11 12 (quarter_at 0 5 10 15 s)))

abbrev pub inner_block : List ℕ → List ℕ
inner_block s = diagonals (columns s)

-- inner_block n times
unfoldable pub inner_blocks : ℕ → List ℕ → List ℕ
inner_blocks zero s = s
inner_blocks (suc n) s = inner_block (inner_blocks n s)

-- RFC 8439, 2.3: 'we add the original input words to the output words', each to each
abbrev pub added : List ℕ → List ℕ → List ℕ
added [] ys = []
added (x ∷ xs) [] = []
added (x ∷ xs) (y ∷ ys) = plus x y ∷ added xs ys

-- RFC 8439, 2.3: 'ChaCha20 runs 20 rounds': inner_block has two, and runs ten times
unfoldable pub block_of : List ℕ → List ℕ
block_of s = added (inner_blocks 10 s) s

-- RFC 8439, 2.3: constants, the key's eight numbers 'in 4-byte chunks' read 'in little-endian order', the block counter, and the nonce's three
abbrev pub state_of : (key : List ℕ) (counter : ℕ) (nonce : List ℕ) → List ℕ
state_of key counter nonce =
    0x6170_7865 ∷ 0x3320_646e ∷ 0x7962_2d32 ∷ 0x6b20_6574
    ∷ little32 key 0 ∷ little32 key 4 ∷ little32 key 8 ∷ little32 key 12
    ∷ little32 key 16 ∷ little32 key 20 ∷ little32 key 24 ∷ little32 key 28
    ∷ counter ∷ little32 nonce 0 ∷ little32 nonce 4 ∷ little32 nonce 8 ∷ []

-- THE BLOCK, 64 bytes, of a key of 32 bytes, a counter and a nonce of 12 bytes. RFC 8439, 2.3: 'serialize the result by sequencing the words one-by-one in little-endian
-- order'
unfoldable pub chacha20_block : (key : List ℕ) (counter : ℕ) (nonce : List ℕ) → List ℕ
chacha20_block key counter nonce = bytes_of (block_of (state_of key counter nonce))
