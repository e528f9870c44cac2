-- Numbers and their bytes, both ways, and bytes by their places.
use mathlib.Core.Path.{◌≡◌, refl, sym, ap, ◌∙◌}
use mathlib.Core.List.{List, [], ◌∷◌}
use Prim.Native.Nat.{ℕ, zero, suc, ◌+◌, ◌*◌, ◌/◌, ◌%◌, ◌^◌, ◌≤◌, ◌<◌}
use native.Mathlib.Omega.{arith}
use lib.ListN.{length, take, drop}
use lib.Seq.{get_or-drop, drop-cons}
use Rattle.log_file.specs.Bytes.{little_endian, byte_at, word_at, bytes_of, AreBytes}

-- a number that fits k bytes is the one that its k bytes are
pub of-its-bytes : (k n : ℕ) → n < 256 ^ k → little_endian (bytes_of k n) ≡ n
of-its-bytes zero n h = omega arith
of-its-bytes (suc k) n h = let e = of-its-bytes k (n / 256) (omega arith) in omega arith

-- the k bytes of s from i on, each by its place
abbrev pub bytes_at : ℕ → ℕ → List ℕ → List ℕ
bytes_at zero i s = []
bytes_at (suc k) i s = byte_at s i ∷ bytes_at k (suc i) s

pub bytes-taken : (k i : ℕ) (s : List ℕ) → i + k ≤ length s → bytes_at k i s ≡ take k (drop i s)
bytes-taken zero i s h = refl
bytes-taken (suc k) i s h = rw (drop-cons s i 0 (omega arith), bytes-taken k (suc i) s (omega arith))

module _ (s : List ℕ) (are : AreBytes s) where
  -- bytes are those of the number that they are
  pub bytes_back : (k i : ℕ) → bytes_of k (little_endian (bytes_at k i s)) ≡ bytes_at k i s
  bytes_back zero i = refl
  bytes_back (suc k) i =
      let b = byte_at s i in
      let n = little_endian (bytes_at k (suc i) s) in
      let small = are i in
      let e : (b + 256 * n) % 256 ≡ b = omega arith in
      let q : (b + 256 * n) / 256 ≡ n = omega arith in
      rw (e, q, bytes_back k (suc i))

  pub number_small : (k i : ℕ) → little_endian (bytes_at k i s) < 256 ^ k
  number_small zero i = omega arith
  number_small (suc k) i = let small = are i in let r = number_small k (suc i) in let g : byte_at s i + 256 * little_endian (bytes_at k (suc i) s) < 256 ^ suc k = omega arith in g

  -- bytes from a place on are bytes
  pub bytes-behind : (at : ℕ) → AreBytes (drop at s)
  bytes-behind at i = let h = are (at + i) in rw (get_or-drop at s i 0) h

-- a byte
pub one_byte : (b : ℕ) → b < 256 → b % 256 ≡ b
one_byte b h = omega arith

-- what is read at a place is read at the beginning of what is there
pub byte-place : (s : List ℕ) (at k : ℕ) → byte_at s (at + k) ≡ byte_at (drop at s) k
byte-place s at k = sym (get_or-drop at s k 0)

pub word-place : (s : List ℕ) (at k : ℕ) → word_at s (at + k) ≡ word_at (drop at s) k
word-place s at k =
    cc (byte-place s at k, next 1, next 2, next 3, next 4, next 5, next 6, next 7)
  where
    next : (j : ℕ) → byte_at s (at + k + j) ≡ byte_at (drop at s) (k + j)
    next j = let e : at + k + j ≡ at + (k + j) = omega arith in ap (byte_at s) e ∙ byte-place s at (k + j)
