-- A row put at a place of a table, as words: it stands for the row there or between the rows, or the row there is taken out where it is gone.
use Rattle.std.specs.Prelude.{Bool, cond, List, ℕ, ◌+◌, ◌-◌, Result, Ok, Err}
use Rattle.rows.specs.inner.Order.{key_of_row}
use Rattle.rows.specs.inner.Moves.{row_written, inserted, removed}
use Rattle.rows.specs.Lookup.{place_of}

-- the words after it, and the number of used rows
abbrev pub put_words : ℕ → List ℕ → ℕ → List ℕ → Bool → Result ℕ ℕ → List ℕ
put_words w s n row gone (Ok i) = cond gone (removed s w n i) (row_written s w i row)
put_words w s n row gone (Err i) = cond gone s (inserted s w n i row)

abbrev pub put_count : ℕ → Bool → Result ℕ ℕ → ℕ
put_count n gone (Ok i) = cond gone (n - 1) n
put_count n gone (Err i) = cond gone n (n + 1)

-- the place of a row among the first n
abbrev pub place_for : List ℕ → ℕ → ℕ → List ℕ → Result ℕ ℕ
place_for s w n row = place_of s w n (key_of_row row)
