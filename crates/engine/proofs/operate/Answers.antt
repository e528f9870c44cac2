-- Setting the rate asks an order of whole numbers, which the check does not find: it is named here.
use Rattle.engine.proofs.Asked.{rate_asked}
use Rattle.engine.proofs.operate.Goals as goal

pub set_yield_rate-requires-clause-rate_asked : goal.set_yield_rate-requires-clause-rate_asked
set_yield_rate-requires-clause-rate_asked c = rate_asked c.args.call c.in-Rate.c c.in-Rate.is c.requires.formed
