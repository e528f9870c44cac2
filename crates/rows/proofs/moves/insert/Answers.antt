-- `insert` meets its contract: a copy and a write are the list that the contract names (`inserted-made`). That the first `at` rows lie within
-- the used ones is the one fact on products that it needs.
use mathlib.Core.Path.{◌∙◌}
use Rattle.rows.proofs.Table.{inserted-made}
use Rattle.rows.proofs.moves.insert.Goals as goal

pub returns : goal.returns
returns c =
    let a = c.args in
    c.write_row.ensures
    ∙ inserted-made a.s.now a.width a.used a.at a.row.now c.requires.at_le_used.0 c.requires.width_in_bounds c.copy_within.new.self c.copy_within.ensures.after
