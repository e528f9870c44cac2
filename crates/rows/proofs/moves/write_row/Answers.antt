-- `write_row` meets its contract: a turn writes the next word of the row over the table's (`paste_more`).
use Rattle.std.proofs.Common.{rules}
use Rattle.std.proofs.lemmas.List.Edits.{paste_more}
use Rattle.rows.proofs.moves.write_row.Goals as goal

pub loop-j-preserved : goal.loop-j-preserved
loop-j-preserved c = search (rules, paste_more)
