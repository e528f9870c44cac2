-- What the test of an offer row says.
use Prim.Native.Nat.{◌≤◌}
use mathlib.Core.Path.{◌≡◌}
use mathlib.Core.Bool.{true}
use borrow.Author.Tests.{leb-true}
use Rattle.rules.specs.Books.{OfferRow}
use Rattle.rules.specs.Limits.{limit, flat}
use Rattle.rules.specs.Formed.{offer_test}
use Rattle.rules.proofs.Tests.{nth, pool-read}

pub tested-pool : (r : OfferRow) → offer_test r ≡ true → r.pool ≤ flat
unfolding offer_test
tested-pool r e = pool-read r.pool (nth _ e 0)

pub tested-most : (r : OfferRow) → offer_test r ≡ true → r.reserved ≤ limit
unfolding offer_test
tested-most r e = leb-true r.reserved limit (nth _ e 3)

pub tested-paid : (r : OfferRow) → offer_test r ≡ true → r.paid ≤ r.reserved
unfolding offer_test
tested-paid r e = leb-true r.paid r.reserved (nth _ e 4)
