use Rattle.std.proofs.Common.{◌^◌, ◌<◌}
use Rattle.rules.specs.Table.{key_of}
use Rattle.books.proofs.Walks.{Walked}
use Rattle.books.proofs.pass.pass.Given as goal

abbrev pub invariant-loop-i : goal.invariant-loop-i
invariant-loop-i g l = (l.last.number < 2 ^ 64) × Walked g.R.Row.kind g.row.WIDTH l.table l.i (key_of l.last.pool l.last.number) l.sums
