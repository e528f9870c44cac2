-- Sharing a loss over the stakes of one pool: the pro-rata reduction in pay_out, claim_payout and their tier forms.
use Rattle.std.specs.Prelude.{Bool, not, cond, ◌&&◌, List, [], ◌∷◌, ℕ, eqb, leb, ℤ, pos, nat_abs, ◌-ℤ◌}
use Rattle.whole.specs.Whole.{min_z}
use Rattle.whole.specs.Shares.{share}
use Rattle.rules.specs.Limits.{limit}
use Rattle.rules.specs.Table.{keep, each}
use Rattle.rules.specs.Books.{StakeRow, is_zero, stake_gone, stake_row}

-- a row that shares: of the pool, and "only over rows with a non-zero stake"
unfoldable pub sharer : ℕ → StakeRow → Bool
sharer pool r = eqb r.pool pool && not (is_zero r.stake)

-- the sharing stakes, "in row order"
unfoldable pub sharers : ℕ → List StakeRow → List ℤ
sharers pool [] = []
sharers pool (r ∷ rows) = cond (sharer pool r) (r.stake ∷ sharers pool rows) (sharers pool rows)

-- what one that is not the last loses: "the lesser of stake times L divided by T, truncated toward zero, and L less the reductions so
-- far". L is the loss, T the balance, and rest what is left of L
unfoldable pub cut_of : ℕ → ℕ → ℤ → ℤ → ℤ
cut_of loss balance rest s = min_z (share s loss balance) rest

-- what each of them loses: "The last loses the rest"
unfoldable pub reductions : ℕ → ℕ → ℤ → List ℤ → List ℤ
reductions loss balance rest [] = []
reductions loss balance rest (s ∷ []) = rest ∷ []
reductions loss balance rest (s ∷ t ∷ more) =
    cut_of loss balance rest s ∷ reductions loss balance (rest -ℤ cut_of loss balance rest s) (t ∷ more)

-- the row with its stake cut, and all else as it was: "Nothing is banked first"
abbrev pub cut_row : StakeRow → ℤ → StakeRow
cut_row r cut = stake_row r.pool r.account (r.stake -ℤ cut) r.since r.accrual

-- the rows, each sharer's stake less its reduction; "A row whose stake and accrual become 0 is removed"
unfoldable pub lowered : ℕ → List StakeRow → List ℤ → List StakeRow
lowered pool [] cuts = []
lowered pool (r ∷ rows) [] = r ∷ rows
lowered pool (r ∷ rows) (cut ∷ cuts) =
    cond (sharer pool r)
    (keep stake_gone (cut_row r cut) (lowered pool rows cuts))
    (r ∷ lowered pool rows (cut ∷ cuts))

-- "Sharing a loss L over balance T": the stake rows after it
unfoldable pub shared : ℕ → ℕ → ℕ → List StakeRow → List StakeRow
shared pool loss balance rows = lowered pool rows (reductions loss balance (pos loss) (sharers pool rows))

-- "A stake lies within plus or minus 10^15"
unfoldable pub stakes_fit : List StakeRow → Bool
stakes_fit rows = each (λ r. leb (nat_abs r.stake) limit) rows
