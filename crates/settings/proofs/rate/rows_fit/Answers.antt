-- `rows_fit` meets its contract: a row that does not fit refuses all (`one-over`), and where none is left each does (`all_fit`).
use Rattle.std.proofs.Common.{◌≤◌, ◌<◌, ◌-◌, arith}
use mathlib.Core.Path.{ap, ◌∙◌, subst, subst⁻¹}
use mathlib.Core.Logic.{⊎_elim}
use Rattle.std.proofs.lemmas.Result.{err_from_is_err_and}
use Rattle.rows.proofs.Order.{le-cases}
use Rattle.rules.specs.Limits.{limit, flat}
use Rattle.rules.specs.Books.{StakeRow}
use Rattle.books.specs.inner.Banking.{Bankable}
use Rattle.settings.specs.inner.Banking.{banked_by}
use Rattle.settings.proofs.RateRows.{Fits, all_fit, one-over, row-can}
use Rattle.settings.proofs.rate.rows_fit.Goals as goal

pub loop-i-init : goal.loop-i-init
loop-i-init c = λ j p q. absurd (omega arith)

pub banked_row-requires : goal.banked_row-requires
banked_row-requires c =
    let a = c.args in
    subst⁻¹ (λ (r : StakeRow). Bankable a.books.now flat a.time r.accrual) c.at.ensures
    (row-can a.books.now a.time a.stakes.now a.from a.used c.requires _ (omega arith))

pub loop-i-preserved : goal.loop-i-preserved
loop-i-preserved c =
    let a = c.args in
    let here : Fits a.books.now a.time a.stakes.now (c.loop-i.i - 1) =
    subst (λ (r : StakeRow). r.accrual ≤ limit) (c.in_ok-banked_row.ensures.0 ∙ ap (banked_by a.books.now a.time) c.at.ensures) c.in_ok-banked_row.ensures.1 in
    λ j p q. ⊎_elim (λ h. subst (Fits a.books.now a.time a.stakes.now) h here) (λ l. c.loop-i.invariant j (omega arith) q) (le-cases (c.loop-i.i - 1) j p)

pub returns-in_err-banked_row : goal.returns-in_err-banked_row
returns-in_err-banked_row c =
    let a = c.args in
    let p = err_from_is_err_and c.from_residual.result c.from_residual.ensures.1 in
    let over = subst (λ (r : StakeRow). limit < (banked_by a.books.now a.time r).accrual) c.at.ensures c.in_err-banked_row.ensures.1 in
    rw (p.1, p.2, c.in_err-banked_row.ensures.0, one-over a.books.now a.time a.stakes.now a.from a.used c.requires (c.loop-i.i - 1) (omega arith) over)

pub returns : goal.returns
returns c =
    let a = c.args in
    rw (all_fit a.books.now a.time a.stakes.now a.from a.used c.requires (λ j p q. c.loop-i.invariant j (omega arith) q))
