-- How a stake or a withdrawal is settled, and what is written of it: the staker's row, its pool's balance, and the transfers due.
use Rattle.std.specs.Prelude.{◌≡◌, Bool, true, false, cond, ℕ, ◌≤◌, ◌<◌, ℤ, pos, length, Result, Ok, Err, IfOk}
use Rattle.std.specs.Int.{w64}
use Rattle.std.specs.Int.Signed.{le_z}
use Rattle.std.proofs.Common.{to_z}
use Rattle.rules.specs.Books.{Books, StakeRow, stake_gone, put_stake, with_stakes}
use Rattle.rules.specs.declared.Account.{Account}
use Rattle.rules.specs.declared.StakeCall.{StakeCall}
use Rattle.rules.specs.declared.refusal.Refusal.{Refusal}
use Rattle.rules.specs.Answers.{Plan, refused, does, code_of, due, not_by, Paused, NotAllowed, InvalidInput}
use Rattle.rules.specs.Stakes.{staked_row, stake, unstaked_row, unstake}
use Rattle.rules.specs.inner.Facts.{StakeOk}
use Rattle.books.specs.Layout.{stake_width, pools}
use Rattle.books.specs.Tables.{used_of}
use Rattle.books.specs.Words.{Tables, books_of, good_tables}
use Rattle.books.specs.inner.Held.{stake_of}
use Rattle.stakes.specs.declared.staker.Change.{Change}

-- the first rungs of both as a code, 0 where none refuses
unfoldable pub staker_code : Bool → Account → StakeCall → ℕ
staker_code barred signer c = cond barred Paused (cond (not_by c.staker signer) NotAllowed (cond (le_z c.amount (pos 0)) InvalidInput 0))

-- an amount above 0, as a word
pub record AmountOf (z : ℤ) (amount : ℕ) : Type 0 where
  pub some : 0 < amount
  pub is : z ≡ pos amount
  pub word : to_z w64 amount ≡ z

-- a row that may be written, where n rows are used
pub record Writable (t : Tables) (n : ℕ) (r : StakeRow) : Type 0 where
  pub good : good_tables t ≡ true
  pub used-is : n ≡ used_of stake_width t.stakes
  pub pool-is : r.pool < pools
  pub account-is : 0 < r.account
  pub fine : stake_gone r ≡ false → StakeOk r
  pub room : length (put_stake (books_of t) r) ≤ (books_of t).rooms.stakes

-- the plan of a change
abbrev pub change_plan : Books → Change → Plan
change_plan b w = does (pos 0) (pos 0) (due w.one) (due w.two) (with_stakes b (put_stake b (stake_of w.row)) w.row.pool (to_z w64 w.balance))

-- ---- what a call comes to before anything is written: refused, or a change

abbrev pub settled_plan : Books → Result Change Refusal → Plan
settled_plan b (Err r) = refused (code_of r)
settled_plan b (Ok w) = change_plan b w

-- a call settled to a plan: what it writes is this row, and may be written
pub record SettledTo (t : Tables) (plan : Plan) (row : StakeRow) (r : Result Change Refusal) : Type 0 where
  pub plan-is : settled_plan (books_of t) r ≡ plan
  pub row_is : IfOk r (λ w. stake_of w.row ≡ row)
  pub ready : IfOk r (λ w. Writable t w.used (stake_of w.row))

abbrev pub StakeSettled : Tables → ℕ → Account → StakeCall → Result Change Refusal → Type 0
StakeSettled t time signer c r = SettledTo t (stake (books_of t) time signer c) (staked_row (books_of t) time c) r

abbrev pub UnstakeSettled : Tables → ℕ → Account → StakeCall → Result Change Refusal → Type 0
UnstakeSettled t time signer c r = SettledTo t (unstake (books_of t) time signer c) (unstaked_row (books_of t) time c) r
