-- Stake and withdraw.
use Rattle.std.specs.Prelude.{Bool, not, cond, ◌&&◌, ◌||◌, ℕ, ltb, leb, eqb, pos, ◌+ℤ◌, ◌-ℤ◌, length}
use Rattle.std.specs.Int.Signed.{lt_z, le_z}
use Rattle.whole.specs.Whole.{up}
use Rattle.rules.specs.Limits.{limit, least_stake, flat}
use Rattle.rules.specs.Table.{key_of, has}
use Rattle.rules.specs.Books.{Books, StakeRow, stake_key, stake_at, stake_row, put_stake, banked_at, balance_of, with_stakes}
use Rattle.rules.specs.Calls.{Account, StakeCall}
use Rattle.rules.specs.Answers.{Plan, does, ◌refuses◌else◌, not_by, no_transfer, transfer_in, transfer_out, Paused, NotAllowed, InvalidInput, InsufficientBalance, OverLimit, TableFull}

-- the staker's row before the call
abbrev pub old_stake : Books → StakeCall → StakeRow
old_stake b c = stake_at b c.pool c.staker

-- the staker's row after a stake: "bank at the old stake; else only set `since`. An old accrual stays"
abbrev pub staked_row : Books → ℕ → StakeCall → StakeRow
staked_row b now c = stake_row c.pool c.staker.0 ((old_stake b c).stake +ℤ c.amount) now (banked_at b c.pool now (old_stake b c))

-- the books after a stake
abbrev pub after_stake : Books → ℕ → StakeCall → Books
after_stake b now c = with_stakes b (put_stake b (staked_row b now c)) c.pool (balance_of b c.pool +ℤ c.amount)

-- "a row must be added and none is free"
unfoldable pub no_stake_room : Books → StakeCall → Bool
no_stake_room b c = not (has stake_key (key_of c.pool c.staker.0) b.stakes) && leb b.rooms.stakes (length b.stakes)

-- stake, stake_tier: "One transfer in"
unfoldable pub stake : Books → ℕ → Account → StakeCall → Plan
stake b now signer c =
    let row = staked_row b now c in
    b.settings.paused refuses Paused else
    not_by c.staker signer refuses NotAllowed else
    le_z c.amount (pos 0) refuses InvalidInput else
    lt_z (pos limit) c.amount refuses OverLimit else
    lt_z row.stake (pos least_stake) refuses InvalidInput else
    lt_z (pos limit) row.stake || ltb limit row.accrual refuses OverLimit else
    no_stake_room b c refuses TableFull else
    does (pos 0) (pos 0) (transfer_in c.staker (up c.amount)) no_transfer (after_stake b now c)

-- the accrual as banked, all of which is paid out
abbrev pub yield_due : Books → ℕ → StakeCall → ℕ
yield_due b now c = banked_at b c.pool now (old_stake b c)

-- the staker's row after a withdrawal: "accrual becomes 0"
abbrev pub unstaked_row : Books → ℕ → StakeCall → StakeRow
unstaked_row b now c = stake_row c.pool c.staker.0 ((old_stake b c).stake -ℤ c.amount) now 0

-- the books after a withdrawal: "The yield doesn't lower the balance"
abbrev pub after_unstake : Books → ℕ → StakeCall → Books
after_unstake b now c = with_stakes b (put_stake b (unstaked_row b now c)) c.pool (balance_of b c.pool -ℤ c.amount)

-- "withdrawal above the stake"
unfoldable pub overdrawn : Books → StakeCall → Bool
overdrawn b c = lt_z (old_stake b c).stake c.amount

-- unstake, unstake_tier: "pay out the amount and, if positive, the whole accrual as a second transfer"; "Pool 3 works while
-- paused"
unfoldable pub unstake : Books → ℕ → Account → StakeCall → Plan
unstake b now signer c =
    let due = yield_due b now c in
    b.settings.paused && not (eqb c.pool flat) refuses Paused else
    not_by c.staker signer refuses NotAllowed else
    le_z c.amount (pos 0) refuses InvalidInput else
    overdrawn b c refuses InsufficientBalance else
    ltb limit due refuses OverLimit else
    does (pos 0) (pos 0) (transfer_out c.staker (up c.amount)) (cond (eqb due 0) no_transfer (transfer_out c.staker due)) (after_unstake b now c)
