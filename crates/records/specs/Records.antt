-- The parts of a test record, the bytes that are made for it, and what is compared.
use Rattle.std.specs.Prelude.{cond, ◌&&◌, List, [], ◌∷◌, ◌++◌, ℕ, zero, suc, ◌+◌, ◌-◌, ◌*◌, ◌/◌, ◌%◌, leb, length, take, drop}
use Rattle.sheets.specs.Bytes.{two_bytes_at}

-- The number that the eight bytes from a place on make, low byte first; bytes behind the end count as 0
unfoldable pub number_at : List ℕ → ℕ → ℕ
number_at bytes at =
    two_bytes_at bytes at + 65536 * two_bytes_at bytes (at + 2) + 4294967296 * two_bytes_at bytes (at + 4) + 281474976710656 * two_bytes_at bytes (at + 6)

-- The first bytes, as many as asked, or none where there are fewer
unfoldable pub front : ℕ → List ℕ → List ℕ
front count bytes = cond (leb count (length bytes)) (take count bytes) []

-- The product of two numbers where it is at most 4096, and 0 otherwise
unfoldable pub small_product : ℕ → ℕ → ℕ
small_product one other = cond (leb (one * other) 4096) (one * other) 0

-- ------------------------------------------------------------------
-- Bytes that are made

-- So many bytes, each made of a state that then gives way to the next
unfoldable pub made : (ℕ → ℕ) → (ℕ → ℕ) → ℕ → ℕ → List ℕ
made byte next zero state = []
made byte next (suc count) state = byte state ∷ made byte next count (next state)

-- The bits of a number, the lowest first
abbrev pub low_bits : ℕ → ℕ → List ℕ
low_bits count number = made (λ rest. rest % 2) (λ rest. rest / 2) count number

-- The next state of the generator
unfoldable pub next_state : ℕ → ℕ
next_state state = (state * 1103515245 + 12345) % 2147483648

-- The byte that a state gives: one from the middle of the next
unfoldable pub state_byte : ℕ → ℕ
state_byte state = next_state state / 65536 % 256

-- So many bytes from a seed
abbrev pub seeded : ℕ → ℕ → List ℕ
seeded count seed = made state_byte next_state count (seed % 2147483648)

-- A buffer whose bytes from a start up to an end come from a seed, where it has them all
unfoldable pub filled_part : ℕ → ℕ → ℕ → List ℕ → List ℕ
filled_part start end seed buffer =
    cond (leb start end && leb end (length buffer)) (take start buffer ++ seeded (end - start) seed ++ drop end buffer) buffer

-- ------------------------------------------------------------------
-- What is compared

-- The digest of bytes behind those that gave this sum: every byte and the length count
unfoldable pub digest_from : ℕ → List ℕ → ℕ
digest_from sum [] = sum
digest_from sum (byte ∷ bytes) = digest_from ((sum * 257 + byte + 1) % 4294967291) bytes
