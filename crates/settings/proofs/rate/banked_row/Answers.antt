-- `banked_row` meets its contract: what it answers is the flat row as it is banked (`flat-banked`, `flat-over`), or any other row as it is.
use Rattle.std.proofs.Common.{sym, ◌∙◌}
use Rattle.std.proofs.lemmas.Result.{err_from_is_err_and}
use Rattle.books.specs.inner.Held.{stake_of}
use Rattle.settings.proofs.RateRows.{flat-banked, flat-over}
use Rattle.settings.proofs.rate.banked_row.Goals as goal

pub returns-in_err-accrual : goal.returns-in_err-accrual
returns-in_err-accrual c =
    let p = err_from_is_err_and c.from_residual.result c.from_residual.ensures.1 in
    rw (p.1, p.2) (flat-over c.args.books.now c.args.time (stake_of c.args.row) (sym c.is_sharer.ensures ∙ c.if-not-is_sharer.false) _ c.in_err-accrual.ensures)

pub returns : goal.returns
returns c = flat-banked c.args.books.now c.args.time (stake_of c.args.row) (sym c.is_sharer.ensures ∙ c.if-not-is_sharer.false) _ c.in_ok-accrual.ensures
