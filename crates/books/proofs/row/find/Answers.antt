-- `find` meets its contract: what a search finds is what the rules find (`find-held`).
use Rattle.std.proofs.Common.{sym, ap, ◌∙◌}
use Rattle.rows.specs.Rows.{key_of}
use Rattle.rows.proofs.Order.{row_in, found_at}
use Rattle.books.proofs.Lists.{row_or}
use Rattle.books.proofs.RowKinds.{find-held}
use Rattle.books.proofs.row.find.Goals as goal

pub at-requires : goal.at-requires
at-requires g c =
    row_in g.row.WIDTH (found_at c.args.table.now g.row.WIDTH c.args.used (key_of c.args.pool c.args.number) c.in-Ok.i c.requires.table.sorted (sym c.in-Ok.ensures)).0 c.requires.table.fits

pub returns-in-Ok : goal.returns-in-Ok
returns-in-Ok g c =
    let k = g.R.Row.kind in
    let a = c.args in
    let d = k.none a.pool a.number in
    c.at.ensures
    ∙ sym (find-held k g.row.WIDTH g.met.R.Row.laws a.table.now a.used c.requires.table d (key_of a.pool a.number) ∙ ap (row_or k.row_at a.table.now d) (sym c.in-Ok.ensures))

pub returns-in-Err : goal.returns-in-Err
returns-in-Err g c =
    let k = g.R.Row.kind in
    let a = c.args in
    let d = k.none a.pool a.number in
    c.empty.ensures
    ∙ sym (find-held k g.row.WIDTH g.met.R.Row.laws a.table.now a.used c.requires.table d (key_of a.pool a.number) ∙ ap (row_or k.row_at a.table.now d) (sym c.in-Err.ensures))
