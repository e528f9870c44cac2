-- Bytes moved to the front of a buffer.
use Rattle.std.specs.Prelude.{List, ◌++◌, ℕ, take, drop}

-- n bytes from `from` on, at the front, and the bytes behind them as they were
abbrev pub at_front : List ℕ → ℕ → ℕ → List ℕ
at_front bytes from n = take n (drop from bytes) ++ drop n bytes
