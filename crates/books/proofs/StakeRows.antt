-- Stake rows in lent words.
use mathlib.Core.Path.{◌≡◌, sym, ap, ◌∙◌}
use mathlib.Core.List.{List, ◌++◌}
use Prim.Native.Nat.{ℕ, ◌+◌, ◌*◌, ◌≤◌, ◌<◌}
use lib.ListN.{length, take, drop, take-append-drop}
use lib.Seq.{drop-drop}
use Rattle.rows.specs.inner.Moves.{row_written}
use Rattle.rules.specs.inner.Facts.{StakeOk}
use Rattle.books.specs.Layout.{stake_width}
use Rattle.books.specs.Words.{stake_row_at, stake_words}
use Rattle.books.specs.inner.Kinds.{stake_kind}
use Rattle.books.specs.inner.StakeLaws.{stake_laws}
pub use Rattle.books.specs.inner.StakeLaws.{same-words}
use Rattle.books.specs.inner.Held.{Fit, HeldStakes}
use Rattle.books.proofs.RowKinds.{row-ok}

-- a row read and written in its own place leaves the words as they are
pub rewritten : (s : List ℕ) → Fit s → (i : ℕ) → i * stake_width + stake_width ≤ length s → row_written s stake_width i (stake_words (stake_row_at s i)) ≡ s
rewritten s f i h =
    ap (λ (row : List ℕ). take (i * stake_width) s ++ (row ++ drop (i * stake_width + stake_width) s)) (same-words s f i h)
    ∙ ap (λ (l : List ℕ). take (i * stake_width) s ++ (take stake_width (drop (i * stake_width) s) ++ l)) (sym (drop-drop stake_width (i * stake_width) s))
    ∙ ap (λ (l : List ℕ). take (i * stake_width) s ++ l) (take-append-drop stake_width (drop (i * stake_width) s))
    ∙ take-append-drop (i * stake_width) s

-- each row of a table is in order
pub held-ok : (s : List ℕ) (n : ℕ) → HeldStakes s n → (j : ℕ) → j < n → StakeOk (stake_row_at s j)
held-ok = row-ok stake_kind stake_width stake_laws
