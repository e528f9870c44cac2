-- `bank_rows` meets its contract. The loop's invariant (`Banking`): the rows before row i are written, and those from there on as they were.
use Rattle.std.proofs.Common.{◌≡◌, ◌≤◌, arith, rules}
use mathlib.Core.Path.{subst, subst⁻¹}
use Rattle.rules.specs.Limits.{limit, flat}
use Rattle.rules.specs.Books.{StakeRow}
use Rattle.books.specs.Layout.{stake_width}
use Rattle.books.specs.Tables.{used_of}
use Rattle.books.specs.inner.Banking.{Bankable}
use Rattle.settings.specs.inner.Banking.{banked_by}
use Rattle.settings.proofs.RateRows.{fits-at, others-stay, row-can}
use Rattle.settings.proofs.RateWalk.{Banking, begins, same_row, turn, ends}
use Rattle.settings.proofs.rate.bank_rows.Goals as goal

pub loop-i-init : goal.loop-i-init
loop-i-init c =
    let a = c.args in
    let p = c.requires.can_bank in
    begins p.held (search rules) a.from p.most (others-stay a.books.now a.time a.stakes.now a.from a.used p)

pub bank_row-requires-clause-bankable : goal.bank_row-requires-clause-bankable
bank_row-requires-clause-bankable c =
    let a = c.args in
    let p = c.requires.can_bank in
    subst⁻¹ (λ (r : StakeRow). Bankable a.books.now flat a.time r.accrual) (same_row p.held c.loop-i.invariant) (row-can a.books.now a.time a.stakes.now a.from a.used p c.loop-i.i (omega arith))

pub bank_row-requires-clause-i_bound : goal.bank_row-requires-clause-i_bound
bank_row-requires-clause-i_bound c =
    let a = c.args in
    let p = c.requires.can_bank in
    subst⁻¹ (λ (r : StakeRow). (banked_by a.books.now a.time r).accrual ≤ limit) (same_row p.held c.loop-i.invariant)
    (fits-at a.books.now a.time a.stakes.now 0 (used_of stake_width a.stakes.now) c.requires.time_value c.loop-i.i (omega arith) (omega (arith, p.held.table.used)))

pub loop-i-preserved : goal.loop-i-preserved
loop-i-preserved c = turn c.requires.can_bank.held c.loop-i.invariant (omega arith) c.bank_row.ensures

pub returns : goal.returns
returns c =
    let a = c.args in
    let done : c.loop-i.i ≡ a.used = omega (arith, c.loop-i.invariant.most) in
    ends c.requires.can_bank.held (subst (Banking a.books.now a.time a.stakes.now a.used c.loop-i.stakes) done c.loop-i.invariant)
