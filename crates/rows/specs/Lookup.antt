-- A lookup: where a key stands in a table or would stand, and which rows are read to tell it.
use Rattle.std.specs.Prelude.{cond, List, [], ◌∷◌, ℕ, zero, suc, ◌+◌, ◌-◌, ◌/◌, ltb, eqb, length, Result, Ok, Err}
use Rattle.rows.specs.Rows.{key_at}
use Rattle.rows.specs.declared.Lookup.{Lookup}

-- the place of key k in the first n rows, from the last row down: a row with that key is it, `Ok`; a row with a smaller key
-- leaves a gap just above it, `Err`, and with none such the gap is at the front
abbrev pub place_of : List ℕ → ℕ → ℕ → ℕ → Result ℕ ℕ
place_of s w zero k = Err 0
place_of s w (suc n) k =
    cond (eqb (key_at s w n) k) (Ok n) (cond (ltb (key_at s w n) k) (Err (suc n)) (place_of s w n k))

-- the rows read for key k among the n rows from row `low` on, in the order in which they are read: none of no rows, else the middle one, and then
-- those of one half: of the rows after it where its key is below k, else of the rows before it. Every turn leaves fewer rows, so that n turns are enough
unfoldable pub read_in : ℕ → List ℕ → ℕ → ℕ → ℕ → ℕ → List ℕ
read_in zero s w k low n = []
read_in (suc turns) s w k low zero = []
read_in (suc turns) s w k low (suc m) =
    let half = suc m / 2 in
    let middle = low + half in
    let after = ltb (key_at s w middle) k in
    middle ∷ read_in turns s w k (cond after (middle + 1) low) (cond after (m - half) half)

abbrev pub read_from : List ℕ → ℕ → ℕ → ℕ → ℕ → List ℕ
read_from s w k low n = read_in n s w k low n

-- W-213: "a definition that names the rows read": those of the first n rows that are read for key k
abbrev pub rows_read : List ℕ → ℕ → ℕ → ℕ → List ℕ
rows_read s w n k = read_from s w k 0 n

-- "The answer of a lookup reports its count"
abbrev pub lookup : List ℕ → ℕ → ℕ → ℕ → Lookup
lookup s w n k = record { place = place_of s w n k; reads = length (rows_read s w n k) }

-- "the number of binary digits of k": none of 0, else one more than its half has; n turns are enough
unfoldable pub digits_in : ℕ → ℕ → ℕ
digits_in zero n = 0
digits_in (suc turns) zero = 0
digits_in (suc turns) (suc m) = suc (digits_in turns (suc m / 2))

abbrev pub digits : ℕ → ℕ
digits n = digits_in n n
