-- `get_offer` meets its contract: the gate, then the row that is found.
use Rattle.std.proofs.Common.{◌<◌, refl, ◌∙◌, arith}
use Rattle.rules.specs.Limits.{two_to64}
use Rattle.rules.specs.Queries.{get_offer}
use Rattle.books.proofs.Good.{good-read}
use Rattle.queries.proofs.QueryOrder.{open-read, gate-answers, gate-refuses}
use Rattle.queries.proofs.QueryRows.{offers-found, paid-small, offer-told}
use Rattle.queries.proofs.View.get_offer.Goals as goal

pub returns-in_err-gate : goal.returns-in_err-gate
unfolding get_offer
returns-in_err-gate c = gate-refuses _ _ _ refl _ c.is_key.ensures _ c.in_err-gate.ensures.code _ c.from_residual.ensures.1

pub used_in-used-requires : goal.used_in-used-requires
used_in-used-requires c = (good-read _ (open-read _ _ c.in_ok-gate.ensures.code).good).offers-tidy

pub of-row-requires : goal.of-row-requires
of-row-requires c = offers-found _ (open-read _ _ c.in_ok-gate.ensures.code).good _ c.used_in-used.ensures

pub tell-requires : goal.tell-requires
tell-requires c =
    let word : c.args.offer.0 < two_to64 = omega arith in
    paid-small _ (open-read _ _ c.in_ok-gate.ensures.code).good c.args.pool c.args.offer word c.of-row.result c.of-row.ensures

pub returns : goal.returns
unfolding get_offer
returns c =
    let word : c.args.offer.0 < two_to64 = omega arith in
    c.tell.ensures
    ∙ offer-told _ (open-read _ _ c.in_ok-gate.ensures.code).good c.args.pool c.args.offer word c.of-row.result c.of-row.ensures
    ∙ gate-answers _ _ _ refl _ c.is_key.ensures c.in_ok-gate.ensures.code
