-- `pool_start` meets its contract: what the place of account 0 says of the rows (`start_is`).
use Rattle.books.proofs.PoolPlaces.{start_is}
use Rattle.books.proofs.pool.pool_start.Goals as goal

pub returns-in-Ok : goal.returns-in-Ok
returns-in-Ok c = start_is c.args.stakes.now c.args.used c.requires c.args.pool _ (rw c.place_of.ensures at c.in-Ok.is)

pub returns-in-Ok-2 : goal.returns-in-Ok-2
returns-in-Ok-2 c = start_is c.args.stakes.now c.args.used c.requires c.args.pool _ (rw c.place_of.ensures at c.in-Ok.is)
