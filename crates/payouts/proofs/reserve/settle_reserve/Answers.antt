-- `settle_reserve` meets its contract: each answer is its rung of `reserve_settled`.
use native.Mathlib.Omega.{arith}
use Rattle.books.specs.Words.{tables}
use Rattle.payouts.specs.inner.Settled.{reserve_settled}
use Rattle.payouts.proofs.Openings.{stopped-opened}
use Rattle.payouts.proofs.Grants as grants
use Rattle.payouts.proofs.reserve.settle_reserve.Goals as goal

pub returns-in_err-amount : goal.returns-in_err-amount
unfolding reserve_settled
returns-in_err-amount c =
    let a = c.args in
    stopped-opened (tables a.stakes.now a.offers.now a.books.now) a.signer a.c.amount (search) _ c.in_err-amount.ensures _ c.from_residual.ensures.1 _

pub grantable-granted-requires : goal.grantable-granted-requires
grantable-granted-requires c =
    let a = c.args in
    grants.can_grant a.stakes.now a.offers.now a.books.now c.requires.books_value a.signer a.c c.requires.reserve_asked (search) c.in_ok-amount.ensures c.find_offer-old.ensures

pub returns-then-old-granted : goal.returns-then-old-granted
returns-then-old-granted c =
    let a = c.args in
    grants.over a.stakes.now a.offers.now a.books.now c.requires.books_value a.signer a.c c.requires.reserve_asked (search) c.in_ok-amount.ensures c.find_offer-old.ensures
    c.grantable-granted.ensures (λ z. omega arith) c.if-old-granted.true

pub returns-then-no_row : goal.returns-then-no_row
returns-then-no_row c =
    let a = c.args in
    grants.full a.stakes.now a.offers.now a.books.now c.requires.books_value a.signer a.c c.requires.reserve_asked (search) c.in_ok-amount.ensures c.find_offer-old.ensures
    c.grantable-granted.ensures (λ z. omega arith) c.if-old-granted.false c.no_row.ensures c.if-no_row.true

pub returns : goal.returns
returns c =
    let a = c.args in
    grants.settles a.stakes.now a.offers.now a.books.now c.requires.books_value a.signer a.c c.requires.reserve_asked (search) c.in_ok-amount.ensures c.find_offer-old.ensures
    c.grantable-granted.ensures (λ z. omega arith) c.if-old-granted.false c.no_row.ensures c.if-no_row.false
