-- `put` meets its contract: the words that `put_row` leaves are those of the rows with the row put (`put-held`), and so hold them (`put-done`).
use Rattle.std.proofs.Common.{sym, ◌∙◌}
use Rattle.books.proofs.RowKinds.{count-held, put-held, put-done, room-words}
use Rattle.books.proofs.row.Row.put.Goals as goal

pub put_row-requires-clause-width_in_bounds_2 : goal.put_row-requires-clause-width_in_bounds_2
put_row-requires-clause-width_in_bounds_2 g c =
    let w = g.row.WIDTH in
    let s = c.args.table.now in
    let t = c.requires.held.table in
    let r = g.Self.Row.row c.args.self in
    rw (c.is_gone.ensures, c.words-words.ensures, ← (count-held g.Self.Row.kind w g.met.Self.Row.laws s c.args.used t r))
    (room-words w s c.args.used _ t c.requires.room)

pub returns : goal.returns
returns g c =
    let k = g.Self.Row.kind in
    let w = g.row.WIDTH in
    let laws = g.met.Self.Row.laws in
    let s = c.args.table.now in
    let n = c.args.used in
    let r = g.Self.Row.row c.args.self in
    let p = c.requires in
    let after = rw (c.is_gone.ensures, c.words-words.ensures) at c.put_row.ensures.s_after in
    let count = rw (c.is_gone.ensures, c.words-words.ensures) at c.put_row.ensures.value in
    put-done k w laws s n r _ _ p (after ∙ put-held k w laws s n p.held.table (laws.same s (λ j. (c.slice_known-1.given j).fits)) r p.room) (count ∙ sym (count-held k w laws s n p.held.table r))
