-- `claim_payout` meets its contract: refused, nothing paid, or a loss taken and the offer written.
use mathlib.Core.Path.{refl}
use native.Mathlib.Omega.{arith}
use borrow.Author.Rules.{rules}
use Rattle.books.specs.Words.{tables}
use Rattle.payouts.proofs.Openings.{refused-is, told_is}
use Rattle.payouts.proofs.Claims as claims
use Rattle.payouts.proofs.claim.claim_payout.Goals as goal

pub returns-in_err-amount : goal.returns-in_err-amount
returns-in_err-amount c =
    let a = c.args in
    let t = tables a.stakes.now a.offers.now a.books.now in
    refused-is t _ _ c.from_residual.ensures.1 (claims.settled a.stakes.now a.offers.now a.books.now c.requires.books_value a.signer a.c c.requires.claim_asked _ c.in_err-amount.ensures).0

pub cover-left-requires : goal.cover-left-requires
cover-left-requires c =
    let a = c.args in
    (claims.fits a.stakes.now a.offers.now a.books.now c.requires.books_value a.signer a.c c.requires.claim_asked c.in_ok-amount.ensures).covered

pub new-requires : goal.new-requires
new-requires c =
    let a = c.args in
    let h = claims.fits a.stakes.now a.offers.now a.books.now c.requires.books_value a.signer a.c c.requires.claim_asked c.in_ok-amount.ensures in
    (omega arith, omega (arith, h.most))

pub returns-then-amount-eq0 : goal.returns-then-amount-eq0
returns-then-amount-eq0 c =
    let a = c.args in
    let t = tables a.stakes.now a.offers.now a.books.now in
    told_is t c.requires.books_value (search rules) (search rules) _ c.new.ensures
    (claims.nothing a.stakes.now a.offers.now a.books.now c.requires.books_value a.signer a.c c.requires.claim_asked c.in_ok-amount.ensures c.cover-left.ensures c.if-amount-eq0.true)

pub take_loss-requires : goal.take_loss-requires
take_loss-requires c =
    let a = c.args in
    (claims.fits a.stakes.now a.offers.now a.books.now c.requires.books_value a.signer a.c c.requires.claim_asked c.in_ok-amount.ensures).lose c.if-amount-eq0.false

pub returns-in_err-take_loss : goal.returns-in_err-take_loss
returns-in_err-take_loss c =
    let a = c.args in
    claims.over-limit a.stakes.now a.offers.now a.books.now c.requires.books_value a.signer a.c c.requires.claim_asked c.in_ok-amount.ensures c.if-amount-eq0.false
    _ c.in_err-take_loss.ensures _ c.from_residual-in_err-take_loss.ensures.1

pub write_offer-requires : goal.write_offer-requires
write_offer-requires c =
    let a = c.args in
    claims.still_writes a.stakes.now a.offers.now a.books.now c.requires.books_value a.signer a.c c.requires.claim_asked c.in_ok-amount.ensures c.if-amount-eq0.false
    c.in_ok-take_loss.ensures refl

pub paid_to-requires : goal.paid_to-requires
paid_to-requires c =
    let a = c.args in
    let h = claims.fits a.stakes.now a.offers.now a.books.now c.requires.books_value a.signer a.c c.requires.claim_asked c.in_ok-amount.ensures in
    (omega (arith, (h.lose c.if-amount-eq0.false).within), omega (arith, h.most))

pub returns : goal.returns
returns c =
    let a = c.args in
    claims.claim_done a.stakes.now a.offers.now a.books.now c.requires.books_value a.signer a.c c.requires.claim_asked c.in_ok-amount.ensures c.if-amount-eq0.false
    c.in_ok-take_loss.ensures c.write_offer.ensures c.cover-left.ensures _ c.paid_to.ensures
