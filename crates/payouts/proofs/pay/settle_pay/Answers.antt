-- `settle_pay` meets its contract: each answer is its rung of `pay_settled`.
use mathlib.Core.Path.{◌∙◌}
use Rattle.books.specs.Words.{tables}
use Rattle.payouts.specs.inner.Settled.{pay_settled}
use Rattle.payouts.proofs.Openings.{stopped-opened, passed-coded}
use Rattle.payouts.proofs.Payments as payments
use Rattle.payouts.proofs.pay.settle_pay.Goals as goal

pub returns-in_err-amount : goal.returns-in_err-amount
unfolding pay_settled
returns-in_err-amount c =
    let a = c.args in
    stopped-opened (tables a.stakes.now a.offers.now a.books.now) a.signer a.c.amount (search) _ c.in_err-amount.ensures _ c.from_residual.ensures.1 _

pub returns-in_err-check_reply : goal.returns-in_err-check_reply
returns-in_err-check_reply c =
    let a = c.args in
    passed-coded _ _ c.from_residual-in_err-check_reply.ensures.1
    ∙ payments.reply_refused a.stakes.now a.offers.now a.books.now c.requires.books_value a.signer a.c c.requires.pay_asked (search) c.in_ok-amount.ensures _ c.in_err-check_reply.ensures
