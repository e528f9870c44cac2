-- Rows written, put in and taken out, as words.
use Rattle.std.specs.Prelude.{List, ◌++◌, ℕ, ◌+◌, ◌-◌, ◌*◌, take, drop}
use Rattle.rows.specs.Rows.{zeros}

-- the words a .. b - 1 taken out of the first n: those after them go down, and zeros follow
abbrev pub closed : List ℕ → ℕ → ℕ → ℕ → List ℕ
closed s a b n = take a s ++ (take (n - b) (drop b s) ++ (zeros (b - a) ++ drop n s))

-- the table with `row` in place of row i
abbrev pub row_written : List ℕ → ℕ → ℕ → List ℕ → List ℕ
row_written s w i row = take (i * w) s ++ (row ++ drop (i * w + w) s)

-- the table with `row` as row `at`, and rows at .. used - 1 one row further up
abbrev pub inserted : List ℕ → ℕ → ℕ → ℕ → List ℕ → List ℕ
inserted s w used at row =
    take (at * w) s ++ (row ++ (take ((used - at) * w) (drop (at * w) s) ++ drop (used * w + w) s))

-- the table without row `at`: rows at + 1 .. used - 1 one row further down, and the last used row all 0
abbrev pub removed : List ℕ → ℕ → ℕ → ℕ → List ℕ
removed s w used at =
    take (at * w) s ++ (take ((used - at - 1) * w) (drop (at * w + w) s) ++ (zeros w ++ drop (used * w) s))
