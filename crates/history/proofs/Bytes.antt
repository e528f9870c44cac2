-- A log's records in two parts.
use mathlib.Core.Path.{◌≡◌, refl, sym, ap, ◌∙◌}
use mathlib.Core.List.{List, [], ◌++◌}
use Prim.Native.Nat.{ℕ, zero, suc, ◌+◌, ◌*◌, ◌/◌, ◌≤◌, ◌<◌}
use native.Mathlib.Nat.{add_assoc}
use native.Mathlib.Omega.{arith}
use lib.ListN.{get_or, length, take, drop, length-append, length-drop, take-append-drop, get_or-append}
use lib.Seq.{get_or-append-add, length-take-le, take_at, drop-drop}
use Rattle.std.specs.Simd.{first_chunks}
use Rattle.log_file.specs.Bytes.{byte_at, word_at}
use Rattle.log_file.specs.Records.{record_bytes, record_of}
use Rattle.history.specs.Replays.{calls_from, calls_of}

-- ---- a record in the first part, and one in the second

module _ (a b : List ℕ) where
  byte-first : (i : ℕ) → i < length a → byte_at (a ++ b) i ≡ byte_at a i
  byte-first i h = get_or-append a b 0 i h

  word_first : (i : ℕ) → i + 8 ≤ length a → word_at (a ++ b) i ≡ word_at a i
  word_first i h =
      rw (
        byte-first i (omega arith),
        byte-first (i + 1) (omega arith),
        byte-first (i + 2) (omega arith),
        byte-first (i + 3) (omega arith),
        byte-first (i + 4) (omega arith),
        byte-first (i + 5) (omega arith),
        byte-first (i + 6) (omega arith),
        byte-first (i + 7) (omega arith),
      )

  record-first : (i : ℕ) → i + record_bytes ≤ length a → record_of (a ++ b) i ≡ record_of a i
  unfolding record_of
  record-first i h =
      rw (
        byte-first i (omega arith),
        byte-first (i + 1) (omega arith),
        byte-first (i + 2) (omega arith),
        byte-first (i + 3) (omega arith),
        byte-first (i + 4) (omega arith),
        byte-first (i + 5) (omega arith),
        byte-first (i + 6) (omega arith),
        byte-first (i + 7) (omega arith),
        word_first (i + 8) (omega arith),
        word_first (i + 16) (omega arith),
        word_first (i + 24) (omega arith),
        word_first (i + 32) (omega arith),
        word_first (i + 40) (omega arith),
      )

  record-second : (i : ℕ) → record_of (a ++ b) (length a + i) ≡ record_of b i
  unfolding record_of
  record-second i = simp (add_assoc, get_or-append-add)

  -- ---- the calls of some records

  calls-first : (k at : ℕ) → at + record_bytes * k ≤ length a → calls_from k (a ++ b) at ≡ calls_from k a at
  unfolding calls_from
  calls-first zero at h = refl
  calls-first (suc k) at h = rw (record-first at (omega arith), calls-first k (at + record_bytes) (omega arith))

  calls-second : (k at : ℕ) → calls_from k (a ++ b) (length a + at) ≡ calls_from k b at
  unfolding calls_from
  calls-second zero at = refl
  calls-second (suc k) at = rw (record-second at, add_assoc (length a) at record_bytes, calls-second k (at + record_bytes))

-- ---- records as chunks

chunk-at : (m : ℕ) (s : List ℕ) (i : ℕ) → i < m → get_or (first_chunks record_bytes m s) i [] ≡ take record_bytes (drop (record_bytes * i) s)
chunk-at zero s i h = absurd (omega arith)
chunk-at (suc m) s zero h = refl
chunk-at (suc m) s (suc i) h =
    let e : record_bytes + record_bytes * i ≡ record_bytes * suc i = omega arith in
    chunk-at m (drop record_bytes s) i (omega arith) ∙ ap (take record_bytes) (drop-drop (record_bytes * i) record_bytes s ∙ ap (λ (n : ℕ). drop n s) e)

-- a chunk is the record at its place
pub chunk-record : (m : ℕ) (s : List ℕ) (i : ℕ) → i < m → record_bytes * m ≤ length s → record_of (get_or (first_chunks record_bytes m s) i []) 0 ≡ record_of s (record_bytes * i)
chunk-record m s i h within =
    let front = take (record_bytes * i) s in
    let rest = drop (record_bytes * i) s in
    let size : length front ≡ record_bytes * i = length-take-le (record_bytes * i) s (omega arith) in
    let long : length (take record_bytes rest) ≡ record_bytes = length-take-le record_bytes rest (omega (arith, length-drop (record_bytes * i) s)) in
    let place : length front + 0 ≡ record_bytes * i = omega (arith, size) in
    ap (λ (b : List ℕ). record_of b 0) (chunk-at m s i h)
    ∙ sym (record-first (take record_bytes rest) (drop record_bytes rest) 0 (omega (arith, long)))
    ∙ ap (λ (b : List ℕ). record_of b 0) (take-append-drop record_bytes rest)
    ∙ sym (record-second front rest 0)
    ∙ ap (λ (b : List ℕ). record_of b (length front + 0)) (take-append-drop (record_bytes * i) s)
    ∙ ap (record_of s) place

calls-join : (j k : ℕ) (bytes : List ℕ) (at : ℕ) → calls_from (j + k) bytes at ≡ calls_from j bytes at ++ calls_from k bytes (at + record_bytes * j)
unfolding calls_from
calls-join zero k bytes at =
    let n : 0 + k ≡ k = omega arith in
    let p : at + record_bytes * 0 ≡ at = omega arith in
    rw (n, p)
calls-join (suc j) k bytes at =
    let n : suc j + k ≡ suc (j + k) = omega arith in
    let p : at + record_bytes + record_bytes * j ≡ at + record_bytes * suc j = omega arith in
    rw (n, calls-join j k bytes (at + record_bytes), p)

pub calls_count : (k : ℕ) (bytes : List ℕ) (at : ℕ) → length (calls_from k bytes at) ≡ k
unfolding calls_from
calls_count zero bytes at = refl
calls_count (suc k) bytes at = ap suc (calls_count k bytes (at + record_bytes))

-- whole records and what comes behind them
pub calls-parts : (a b : List ℕ) (j : ℕ) → length a ≡ record_bytes * j → calls_of (a ++ b) ≡ calls_of a ++ calls_of b
unfolding calls_of
calls-parts a b j e =
    let m : ℕ = length b / record_bytes in
    let n : length (a ++ b) / record_bytes ≡ j + m = omega (arith, length-append a b) in
    let first : length a / record_bytes ≡ j = omega arith in
    let place : 0 + record_bytes * j ≡ length a + 0 = omega arith in
    ap (λ (k : ℕ). calls_from k (a ++ b) 0) n
    ∙ calls-join j m (a ++ b) 0
    ∙ rw (place, calls-second a b m 0, calls-first a b j 0 (omega arith), first)

pub records-within : (bytes : List ℕ) (n : ℕ) → n ≤ length (calls_of bytes) → record_bytes * n ≤ length bytes
unfolding calls_of
records-within bytes n h = omega (arith, calls_count (length bytes / record_bytes) bytes 0)

-- the first n calls are those of the first n records
pub calls-front : (bytes : List ℕ) (n : ℕ) → n ≤ length (calls_of bytes) → take n (calls_of bytes) ≡ calls_of (take (record_bytes * n) bytes)
unfolding calls_of
calls-front bytes n h =
    let a = take (record_bytes * n) bytes in
    let size : length a ≡ record_bytes * n = length-take-le (record_bytes * n) bytes (records-within bytes n h) in
    let count : length (calls_of a) ≡ n = calls_count (length a / record_bytes) a 0 ∙ (omega arith) in
    ap (λ (s : List ℕ). take n (calls_of s)) (sym (take-append-drop (record_bytes * n) bytes))
    ∙ ap (take n) (calls-parts a (drop (record_bytes * n) bytes) n size)
    ∙ take_at (calls_of a) (calls_of (drop (record_bytes * n) bytes)) n count
