-- `used_in` meets its contract: the used rows of a tidy table come first.
use Rattle.std.proofs.Common.{arith}
use Rattle.books.proofs.Counts.{tidy-packed, used-is}
use Rattle.books.proofs.row.Row.used_in.Goals as goal

pub used_rows-requires-clause-packed : goal.used_rows-requires-clause-packed
used_rows-requires-clause-packed g c = tidy-packed g.row.WIDTH c.args.table.now c.requires

pub returns : goal.returns
returns g c = used-is g.row.WIDTH c.args.table.now c.used_rows.result (omega (arith, g.met.Self.Row.laws.wide)) c.used_rows.ensures
