-- `added_to` of an offer row meets its contract: a row in order has not paid more than it reserves, and no sum is near the end of a word.
use Rattle.std.proofs.Common.{arith}
use borrow.Author.Tests.{leb-true}
use Rattle.rules.specs.Limits.{limit}
use Rattle.rules.specs.Formed.{offer_test}
use Rattle.rules.proofs.Tests.{nth}
use Rattle.books.proofs.offers.OfferLineRowOFFER_WIDTH.added_to.Goals as goal

pub overflow_sub-result : goal.overflow_sub-result
unfolding offer_test
overflow_sub-result c = leb-true c.args.self.paid c.args.self.reserved (nth _ c.requires.in_order 4)

pub overflow_add-result : goal.overflow_add-result
unfolding offer_test
overflow_add-result c = record { fits = omega (arith, c.requires.within.above, leb-true c.args.self.reserved limit (nth _ c.requires.in_order 3)) }
