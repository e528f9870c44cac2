-- `look_up` meets its contract: the used rows of a table come first and ascend, and there are as many as are counted.
use Rattle.std.proofs.Common.{ℕ, sym, ap, ◌∙◌, subst, arith}
use Rattle.rows.specs.Rows.{Sorted, key_of}
use Rattle.rows.specs.Lookup.{lookup}
use Rattle.rows.proofs.Table.{used-packed}
use Rattle.books.specs.Tables.{used_of}
use Rattle.books.proofs.Counts.{used-of, used-is}
use Rattle.queries.proofs.lookups.look_up.Goals as goal

pub used_rows-used-requires-clause-packed : goal.used_rows-used-requires-clause-packed
used_rows-used-requires-clause-packed c =
    used-packed c.args.table.now c.args.width (used_of c.args.width c.args.table.now) (used-of c.args.width c.args.table.now) c.requires.table.blank

pub find-requires-clause-sorted : goal.find-requires-clause-sorted
find-requires-clause-sorted c =
    let counted = used-is c.args.width c.args.table.now c.used_rows-used.result (omega arith) c.used_rows-used.ensures in
    subst (λ (n : ℕ). Sorted c.args.table.now c.args.width n) (sym counted) c.requires.table.sorted

pub returns : goal.returns
returns c =
    let counted = used-is c.args.width c.args.table.now c.used_rows-used.result (omega arith) c.used_rows-used.ensures in
    c.find.ensures ∙ ap (λ (n : ℕ). lookup c.args.table.now c.args.width n (key_of c.args.key.pool c.args.key.number)) counted
