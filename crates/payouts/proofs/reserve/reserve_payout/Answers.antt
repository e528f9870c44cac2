-- `reserve_payout` meets its contract: refused, nothing granted, or written.
use native.Mathlib.Omega.{arith}
use borrow.Author.Rules.{rules}
use Rattle.books.specs.Words.{tables}
use Rattle.payouts.proofs.Openings.{refused-is, told_is}
use Rattle.payouts.proofs.Grants as grants
use Rattle.payouts.proofs.reserve.reserve_payout.Goals as goal

pub returns-in_err-grant : goal.returns-in_err-grant
returns-in_err-grant c =
    let a = c.args in
    let t = tables a.stakes.now a.offers.now a.books.now in
    refused-is t _ _ c.from_residual.ensures.1 (grants.settled a.stakes.now a.offers.now a.books.now c.requires.books_value a.signer a.c c.requires.reserve_asked _ c.in_err-grant.ensures).0

pub returns-in_default : goal.returns-in_default
returns-in_default c =
    let a = c.args in
    let t = tables a.stakes.now a.offers.now a.books.now in
    told_is t c.requires.books_value (search rules) (search rules) _ c.new.ensures
    (grants.settled a.stakes.now a.offers.now a.books.now c.requires.books_value a.signer a.c c.requires.reserve_asked _ (rw c.in_default.is at c.in_ok-grant.ensures)).0

pub write_offer-requires : goal.write_offer-requires
write_offer-requires c =
    let a = c.args in
    (grants.settled a.stakes.now a.offers.now a.books.now c.requires.books_value a.signer a.c c.requires.reserve_asked _ (rw c.in-Some.is at c.in_ok-grant.ensures)).1.0

pub new-requires-2 : goal.new-requires-2
new-requires-2 c =
    let a = c.args in
    ((grants.settled a.stakes.now a.offers.now a.books.now c.requires.books_value a.signer a.c c.requires.reserve_asked _ (rw c.in-Some.is at c.in_ok-grant.ensures)).1.1, omega arith)

pub returns : goal.returns
returns c =
    let a = c.args in
    grants.grant_done a.stakes.now a.offers.now a.books.now c.requires.books_value a.signer a.c c.requires.reserve_asked (rw c.in-Some.is at c.in_ok-grant.ensures) c.write_offer.ensures _ c.new-2.ensures
