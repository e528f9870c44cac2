-- `write_offer` meets its contract: the facts are those of good tables (`OfferWrites`).
use borrow.Author.Rules.{rules}
use Rattle.payouts.proofs.OfferWrites.{can-put, row-written}
use Rattle.payouts.proofs.offer.write_offer.Goals as goal

pub put-requires : goal.put-requires
put-requires c =
    let a = c.args in
    can-put a.stakes.now a.offers.now a.books.now a.offer c.requires

pub returns : goal.returns
returns c =
    let a = c.args in
    row-written a.stakes.now a.offers.now a.books.now a.offer c.requires _ _ _
    (search rules) (search rules) c.put.ensures c.set_unpaid.ensures
