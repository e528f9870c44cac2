-- `commit` meets its contract: the words of the books with the row put and the balance set (`change_plan`).
use mathlib.Core.Path.{ap₂}
use native.Mathlib.Omega.{arith}
use borrow.Author.Rules.{rules}
use Rattle.books.specs.Words.{result_of}
use Rattle.books.specs.inner.Held.{stake_of}
use Rattle.stakes.proofs.StakeWrites.{can-put, change_plan}
use Rattle.stakes.proofs.staker.commit.Goals as goal

pub set_balance-requires : goal.set_balance-requires
set_balance-requires c = c.requires.pool-is

pub put-requires : goal.put-requires
put-requires c = can-put c.args.stakes.now c.args.offers.now c.args.books.now c.args.change.used (stake_of c.args.change.row) c.requires

pub returns : goal.returns
returns c =
    let a = c.args in
    ap₂ result_of c.new.ensures
    (change_plan a.stakes.now a.offers.now a.books.now a.change.used (stake_of a.change.row) c.requires
    (search rules) (search rules) _ _ a.change.balance (omega arith)
    c.put.ensures.words c.set_balance.ensures)
