-- The admin's: rate, pause, unpause, payout caller.
use Rattle.std.specs.Prelude.{Bool, not, cond, List, map, ℕ, leb, pos}
use Rattle.std.specs.Int.Signed.{lt_z}
use Rattle.whole.specs.Whole.{up}
use Rattle.rules.specs.Limits.{limit, greatest_rate, flat}
use Rattle.rules.specs.Table.{each}
use Rattle.rules.specs.Books.{Books, StakeRow, settings, stake_row, banked_at, with_settings}
use Rattle.rules.specs.Sharing.{sharer}
use Rattle.rules.specs.Calls.{Account, RateCall}
use Rattle.rules.specs.Answers.{Plan, answers, ◌refuses◌else◌, not_by, Paused, NotAllowed, OverLimit}

-- the first tests of both calls that a pause stops
abbrev pub as_admin : Books → Account → Plan → Plan
as_admin b signer p =
    b.settings.paused refuses Paused else
    not_by b.settings.admin signer refuses NotAllowed else
    p

-- a row of the flat pool, banked; "A zero stake isn't banked"
abbrev pub banked_row : Books → ℕ → StakeRow → StakeRow
banked_row b now r = cond (sharer flat r) (stake_row r.pool r.account r.stake now (banked_at b flat now r)) r

-- "Bank every non-zero flat stake at the old rate"
abbrev pub bank_all : Books → ℕ → List StakeRow
bank_all b now = map (banked_row b now) b.stakes

-- "One row over the limit refuses all"
unfoldable pub accruals_fit : List StakeRow → Bool
accruals_fit rows = each (λ r. leb r.accrual limit) rows

-- set_yield_rate: bank, "then store"
unfoldable pub set_yield_rate : Books → ℕ → Account → RateCall → Plan
set_yield_rate b now signer c =
    let s = b.settings in
    as_admin b signer
    (lt_z (pos greatest_rate) c.rate refuses OverLimit else
    not (accruals_fit (bank_all b now)) refuses OverLimit else
    answers (pos 0) (pos 0) (with_settings b (bank_all b now) (settings s.admin s.caller s.paused (up c.rate))))

-- pause, unpause: not stopped by a pause themselves
unfoldable pub set_paused : Books → Account → Bool → Plan
set_paused b signer paused =
    let s = b.settings in
    not_by s.admin signer refuses NotAllowed else
    answers (pos 0) (pos 0) (with_settings b b.stakes (settings s.admin s.caller paused s.rate))

-- set_payout_caller
unfoldable pub set_payout_caller : Books → Account → Account → Plan
set_payout_caller b signer caller =
    let s = b.settings in
    as_admin b signer (answers (pos 0) (pos 0) (with_settings b b.stakes (settings s.admin caller s.paused s.rate)))
