-- The first bytes of a buffer, kept while more is read behind them; and that these are the input's, where its bytes are known.
use Rattle.std.specs.Prelude.{◌≡◌, Option, Result, Ok, Err, List, ℕ, ◌≤◌, ◌<◌, length, take, drop}
use Rattle.std.specs.Io.KnownBytes.{Consumes, IsAtEnd}

-- `have` bytes were there and stay as they were, and n are there now
pub record Grown (before : List ℕ) (have : ℕ) (after : List ℕ) (n : ℕ) : Type 0 where
  pub kept : take have after ≡ take have before
  pub least : have ≤ n
  pub most : n ≤ length after

abbrev pub Filled : {E : Type 0} → List ℕ → ℕ → List ℕ → Result ℕ E → Type 0
Filled before have after (Ok n) = Grown before have after n
Filled before have after (Err e) = take have after ≡ take have before

-- what came behind the first `have` bytes is the input's next; fewer bytes than wanted are there only at its end
abbrev pub Came : {E : Type 0} → Option (List ℕ) → Option (List ℕ) → ℕ → ℕ → List ℕ → Result ℕ E → Type 0
Came known left have least after (Ok n) = Consumes known left (drop have (take n after)) × (n < least → IsAtEnd left)
Came known left have least after (Err e) = Unit {0}
