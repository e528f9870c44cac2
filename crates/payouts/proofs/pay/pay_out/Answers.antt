-- `pay_out` meets its contract: refused, nothing paid, or a loss taken.
use native.Mathlib.Omega.{arith}
use borrow.Author.Rules.{rules}
use Rattle.books.specs.Words.{tables}
use Rattle.payouts.proofs.Openings.{refused-is, told_is}
use Rattle.payouts.proofs.Payments as payments
use Rattle.payouts.proofs.pay.pay_out.Goals as goal

pub returns-in_err-amount : goal.returns-in_err-amount
returns-in_err-amount c =
    let a = c.args in
    let t = tables a.stakes.now a.offers.now a.books.now in
    refused-is t _ _ c.from_residual.ensures.1 (payments.settled a.stakes.now a.offers.now a.books.now c.requires.books_value a.signer a.c c.requires.pay_asked _ c.in_err-amount.ensures).0

pub returns-in_default : goal.returns-in_default
returns-in_default c =
    let a = c.args in
    let t = tables a.stakes.now a.offers.now a.books.now in
    told_is t c.requires.books_value (search rules) (search rules) _ c.new.ensures
    (payments.settled a.stakes.now a.offers.now a.books.now c.requires.books_value a.signer a.c c.requires.pay_asked _ (rw c.in_default.is at c.in_ok-amount.ensures)).0

pub take_loss-requires : goal.take_loss-requires
take_loss-requires c =
    let a = c.args in
    (payments.settled a.stakes.now a.offers.now a.books.now c.requires.books_value a.signer a.c c.requires.pay_asked _ (rw c.in-Some.is at c.in_ok-amount.ensures)).1

pub returns-in_err-take_loss : goal.returns-in_err-take_loss
returns-in_err-take_loss c =
    let a = c.args in
    payments.over-limit a.stakes.now a.offers.now a.books.now c.requires.books_value a.signer a.c c.requires.pay_asked (rw c.in-Some.is at c.in_ok-amount.ensures)
    _ c.in_err-take_loss.ensures _ c.from_residual-in_err-take_loss.ensures.1

pub paid_to-requires : goal.paid_to-requires
paid_to-requires c =
    let a = c.args in
    let h = (payments.settled a.stakes.now a.offers.now a.books.now c.requires.books_value a.signer a.c c.requires.pay_asked _ (rw c.in-Some.is at c.in_ok-amount.ensures)).1 in
    (omega (arith, h.within), omega arith)

pub returns : goal.returns
returns c =
    let a = c.args in
    payments.loss-taken a.stakes.now a.offers.now a.books.now c.requires.books_value a.signer a.c c.requires.pay_asked (rw c.in-Some.is at c.in_ok-amount.ensures)
    c.in_ok-take_loss.ensures _ c.paid_to.ensures
