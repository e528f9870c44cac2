-- THEOREM. Request W-213: a lookup among n used rows reads at most as many rows as n has binary digits, none where n is 0, each of them a used row and
-- none twice; for some keys it is as many; and no row that it does not read has a say in its answer. The statement and its proof stand with the rows,
-- where an edit of a definition meets them.
use Rattle.rows.specs.LookupShown.{LookupShown}
use Rattle.rows.proofs.RowsRead.{lookup-shown}

pub lookups-bounded : LookupShown
lookups-bounded = lookup-shown
