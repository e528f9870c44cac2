-- Request W-213 in one statement: its sentences as laws of any words, and figures.
use Rattle.std.specs.Prelude.{◌≡◌, cond, ◌≢◌, List, [], ◌∷◌, ℕ, zero, suc, ◌+◌, ◌-◌, ◌*◌, ◌/◌, ◌^◌, ◌≤◌, ◌<◌, ltb, length, get_or, Ok, Err}
use Rattle.rows.specs.Rows.{key_at, Sorted}
use Rattle.rows.specs.Lookup.{place_of, read_from, rows_read, lookup, digits}
use Rattle.rows.specs.declared.Lookup.{Lookup}

-- how many rows are read, and which of them is read after j others
abbrev pub reads : List ℕ → ℕ → ℕ → ℕ → ℕ
reads s w n k = length (rows_read s w n k)

abbrev pub read_after : List ℕ → ℕ → ℕ → ℕ → ℕ → ℕ
read_after s w n k j = get_or (rows_read s w n k) j 0

-- n rows of two words: pool 0, and the numbers from `first` on
unfoldable pub numbered : ℕ → ℕ → List ℕ
numbered first zero = []
numbered first (suc n) = 0 ∷ first ∷ numbered (suc first) n

-- number k, which is its own key in pool 0, looked up among the numbers 1 to n: the rows read, and the answer
abbrev pub read_among : ℕ → ℕ → List ℕ
read_among n k = rows_read (numbered 1 n) 2 n k

abbrev pub lookup_among : ℕ → ℕ → Lookup
lookup_among n k = lookup (numbered 1 n) 2 n k

-- the first of 1, 2, 3, 1,023 and 1,024 rows is found by 1, 2, 2, 10 and 11 reads, as many as the number has binary digits; the place for a new row behind
-- 1,024 by 10
pub record LookupFigures : Type 0 where
  pub of-1 : (read_among 1 1 ≡ (0 ∷ [])) × (lookup_among 1 1 ≡ record { place = Ok 0; reads = 1 }) × (digits 1 ≡ 1)
  pub of-2 : (read_among 2 1 ≡ (1 ∷ 0 ∷ [])) × (lookup_among 2 1 ≡ record { place = Ok 0; reads = 2 }) × (digits 2 ≡ 2)
  pub of-3 : (read_among 3 1 ≡ (1 ∷ 0 ∷ [])) × (lookup_among 3 1 ≡ record { place = Ok 0; reads = 2 }) × (digits 3 ≡ 2)
  pub of-1023 : (read_among 1_023 1 ≡ (511 ∷ 255 ∷ 127 ∷ 63 ∷ 31 ∷ 15 ∷ 7 ∷ 3 ∷ 1 ∷ 0 ∷ [])) × (digits 1_023 ≡ 10)
  pub of-1024 : (read_among 1_024 1 ≡ (512 ∷ 256 ∷ 128 ∷ 64 ∷ 32 ∷ 16 ∷ 8 ∷ 4 ∷ 2 ∷ 1 ∷ 0 ∷ [])) × (digits 1_024 ≡ 11)
  pub behind-1024 : (read_among 1_024 1_025 ≡ (512 ∷ 768 ∷ 896 ∷ 960 ∷ 992 ∷ 1_008 ∷ 1_016 ∷ 1_020 ∷ 1_022 ∷ 1_023 ∷ [])) × (lookup_among 1_024 1_025 ≡ record { place = Err 1_024; reads = 10 })

pub record LookupShown : Type 0 where
  -- "the halving steps in a definition that names the rows read": the middle row, then one half
  pub halving : (s : List ℕ) (w k low n : ℕ) → 0 < n → let middle = low + n / 2 in read_from s w k low n ≡ (middle ∷ cond (ltb (key_at s w middle) k) (read_from s w k (middle + 1) (n - n / 2 - 1)) (read_from s w k low (n / 2)))
  -- "Finding a row, or the place for a new one, among k used rows, k being given, must read at most the number of binary digits of k": of any words
  pub at_most : (s : List ℕ) (w n k : ℕ) → reads s w n k ≤ digits n
  -- "0 for an empty table"
  pub none : (s : List ℕ) (w k : ℕ) → reads s w 0 k ≡ 0
  -- what `digits` is: that many binary digits hold n, and one less does not
  pub binary : (n : ℕ) → 0 < n → (n < 2 ^ digits n) × (2 ^ digits n ≤ 2 * n)
  -- each row read is a used one, and none is read twice
  pub used-rows : (s : List ℕ) (w n k j : ℕ) → j < reads s w n k → read_after s w n k j < n
  pub once : (s : List ℕ) (w n k i j : ℕ) → i < j → j < reads s w n k → read_after s w n k i ≢ read_after s w n k j
  -- no smaller bound holds: the key of the first row, and every key below it, needs all of them
  pub all-needed : (s : List ℕ) (w n k : ℕ) → Sorted s w n → k ≤ key_at s w 0 → reads s w n k ≡ digits n
  -- no other row has a say: a table in order whose rows have the same keys where this one is read is read and answered alike
  pub no-other-row : (s t : List ℕ) (w n k : ℕ) → Sorted s w n → Sorted t w n
      → ((j : ℕ) → j < reads s w n k → key_at t w (read_after s w n k j) ≡ key_at s w (read_after s w n k j))
      → (rows_read t w n k ≡ rows_read s w n k) × (place_of t w n k ≡ place_of s w n k)
  pub figures : LookupFigures
