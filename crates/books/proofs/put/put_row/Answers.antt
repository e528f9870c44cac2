-- `put_row` meets its contract: each arm of the match has the equation of what `place_of` returned.
use Rattle.std.proofs.Common.{sym}
use Rattle.rows.specs.inner.Order.{key_of_row}
use Rattle.rows.proofs.Order.{row_in, found_at, found-gap}
use Rattle.books.proofs.put.put_row.Goals as goal

pub remove-requires-clause-at_lt_used : goal.remove-requires-clause-at_lt_used
remove-requires-clause-at_lt_used c = (found_at c.args.s.now c.args.width c.args.used (key_of_row c.args.row.now) c.in-Ok-true.i c.requires.width_in_bounds.1 (sym c.in-Ok-true.ensures)).0

pub write_row-requires-clause-width_in_bounds : goal.write_row-requires-clause-width_in_bounds
write_row-requires-clause-width_in_bounds c =
    row_in c.args.width (found_at c.args.s.now c.args.width c.args.used (key_of_row c.args.row.now) c.in-Ok-false.i c.requires.width_in_bounds.1 (sym c.in-Ok-false.ensures)).0 c.requires.width_in_bounds.0

pub insert-requires-clause-at_le_used : goal.insert-requires-clause-at_le_used
insert-requires-clause-at_le_used c =
    ((found-gap c.args.s.now c.args.width c.args.used (key_of_row c.args.row.now) c.in-Err-false.i c.requires.width_in_bounds.1 (sym c.in-Err-false.ensures)).hi-le, c.requires.lt_width.1)
