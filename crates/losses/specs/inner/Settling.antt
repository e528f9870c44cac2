-- A loss as it is settled: who shares it, what each is lowered by, and who bears the rest.
use Rattle.std.specs.Prelude.{Bool, false, cond, List, ◌≡◌, ℕ, zero, suc, ◌+◌, ◌-◌, ◌*◌, ◌≤◌, ◌<◌, ℤ, pos, neg_ℤ, ◌-ℤ◌, length}
use Rattle.std.specs.Int.{w64}
use Rattle.std.proofs.Common.{to_z}
use Rattle.whole.specs.Whole.{dn, min_z, Within}
use Rattle.whole.specs.Shares.{share}
use Rattle.rows.specs.Rows.{word}
use Rattle.rules.specs.Limits.{limit, most_stakes}
use Rattle.rules.specs.Books.{is_zero}
use Rattle.books.specs.Layout.{stake_width, stake_word}
use Rattle.books.specs.Tables.{table_of}
use Rattle.books.specs.Words.{stake_row_at}
use Rattle.books.specs.inner.Held.{HeldStakes}
use Rattle.books.specs.inner.Pool.{PoolAt}
use Rattle.losses.specs.Loss.{Shareable}
use Rattle.losses.specs.declared.Loss.{Loss}

-- ---- the rows from .. to - 1

-- the stake of row i
abbrev pub stake_at_row : List ℕ → ℕ → ℤ
stake_at_row s i = to_z w64 (word s stake_width i stake_word)

-- none of them has a stake below 0
pub record NoneBelow (s : List ℕ) (from to : ℕ) : Type 0 where
  pub none : (k : ℕ) → from ≤ k → k < to → dn (stake_at_row s k) ≡ 0

-- one of them has a stake
pub record SomeSharer (s : List ℕ) (from to : ℕ) : Type 0 where
  pub row : ℕ
  pub inside : from ≤ row
  pub before : row < to
  pub some : word s stake_width row stake_word ≡ 0 → ⊥

-- the last of them that has one
pub record LastSharer (s : List ℕ) (from to last : ℕ) : Type 0 where
  pub inside : from ≤ last
  pub before : last < to
  pub some : word s stake_width last stake_word ≡ 0 → ⊥
  pub after : (j : ℕ) → last < j → j < to → word s stake_width j stake_word ≡ 0

-- ---- what a row loses

-- a stake and a loss of which a share can be taken
pub record Divisible (s : ℤ) (loss balance : ℕ) : Type 0 where
  pub small : Within limit s
  pub some : 0 < balance
  pub most : loss ≤ balance
  pub large : balance ≤ most_stakes * limit

-- what a row of stake s is lowered by: nothing where it has no stake; the last sharer by the rest; another by the lesser of its share and the rest
unfoldable pub lowered_by : ℕ → ℕ → Bool → ℤ → ℤ → ℤ
lowered_by loss balance last rest s = cond (is_zero s) (pos 0) (cond last rest (min_z (share s loss balance) rest))

-- what is left of the loss once the n rows from row i on, none of them the last sharer, have lost their part of the rest
unfoldable pub rest_after : List ℕ → ℕ → ℕ → ℤ → ℕ → ℕ → ℤ
rest_after s loss balance rest i zero = rest
rest_after s loss balance rest i (suc n) =
    rest_after s loss balance (rest -ℤ lowered_by loss balance false rest (stake_at_row s i)) (suc i) n

-- what the last sharer would be left with
abbrev pub left_last : List ℕ → Loss → ℤ
left_last s l = stake_at_row s l.last -ℤ rest_after s l.amount l.balance (pos l.amount) l.from (l.last - l.from)

-- the least stake
abbrev pub least : ℤ
least = neg_ℤ (pos limit)

-- ---- who shares

-- rows from .. last, which share a loss
pub record Sharers (s : List ℕ) (l : Loss) : Type 0 where
  pub order : l.from ≤ l.last
  pub few : l.last < l.from + most_stakes
  pub room : l.last * stake_width + stake_width ≤ length s
  pub small : (k : ℕ) → l.from ≤ k → k ≤ l.last → Within limit (stake_at_row s k)
  pub some : 0 < l.balance
  pub most : l.amount ≤ l.balance
  pub large : l.balance ≤ most_stakes * limit
  pub within : l.amount ≤ limit

-- a loss that was settled: where the pool's rows lie, and who bears the rest
pub record Ready (s : List ℕ) (used : ℕ) (l : Loss) : Type 0 where
  pub held : HeldStakes s used
  pub loss-is : Shareable l.pool l.amount l.balance (table_of stake_row_at stake_width s)
  pub span : PoolAt s used l.pool l.from l.to
  pub ends : LastSharer s l.from l.to l.last
