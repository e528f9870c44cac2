-- Bytes as numbers, and numbers as bytes.
use Rattle.std.specs.Prelude.{List, [], ◌∷◌, ℕ, zero, suc, ◌+◌, ◌*◌, ◌/◌, ◌%◌, ◌<◌, get_or}

-- "Little-endian": the number of some bytes, the least first
abbrev pub little_endian : List ℕ → ℕ
little_endian [] = 0
little_endian (b ∷ bytes) = b + 256 * little_endian bytes

-- byte i
abbrev pub byte_at : List ℕ → ℕ → ℕ
byte_at s i = get_or s i 0

-- "64 bits": the eight bytes from i on
abbrev pub word_at : List ℕ → ℕ → ℕ
word_at s i =
    little_endian
    (byte_at s i ∷ byte_at s (i + 1) ∷ byte_at s (i + 2) ∷ byte_at s (i + 3) ∷ byte_at s (i + 4) ∷ byte_at s (i + 5) ∷ byte_at s (i + 6) ∷ byte_at s (i + 7) ∷ [])

-- and back: the k least bytes of a number, the least first
abbrev pub bytes_of : ℕ → ℕ → List ℕ
bytes_of zero n = []
bytes_of (suc k) n = n % 256 ∷ bytes_of k (n / 256)

-- bytes, as a lent slice of them is
abbrev pub AreBytes : List ℕ → Type 0
AreBytes s = (i : ℕ) → byte_at s i < 256
