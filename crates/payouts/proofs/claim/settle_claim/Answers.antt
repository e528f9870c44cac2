-- `settle_claim` meets its contract: each answer is its rung of `claim_settled`.
use Rattle.books.specs.Words.{tables}
use Rattle.payouts.specs.inner.Settled.{claim_settled}
use Rattle.payouts.proofs.Openings.{stopped-opened}
use Rattle.payouts.proofs.Claims as claims
use Rattle.payouts.proofs.claim.settle_claim.Goals as goal

pub returns-in_err-amount : goal.returns-in_err-amount
unfolding claim_settled
returns-in_err-amount c =
    let a = c.args in
    stopped-opened (tables a.stakes.now a.offers.now a.books.now) a.signer a.c.amount (search) _ c.in_err-amount.ensures _ c.from_residual.ensures.1 _

pub claimable-paid-requires : goal.claimable-paid-requires
claimable-paid-requires c =
    let a = c.args in
    claims.can_claim a.stakes.now a.offers.now a.books.now c.requires.books_value a.signer a.c c.requires.claim_asked (search) c.in_ok-amount.ensures c.find_offer-old.ensures
    c.cover-cover.ensures

pub overflow_sub-unpaid : goal.overflow_sub-unpaid
overflow_sub-unpaid c =
    let a = c.args in
    claims.enough a.stakes.now a.offers.now a.books.now c.requires.books_value a.signer a.c c.requires.claim_asked (search) c.in_ok-amount.ensures c.find_offer-old.ensures
    c.cover-cover.ensures c.claimable-paid.ensures
