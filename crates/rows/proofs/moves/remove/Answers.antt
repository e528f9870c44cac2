-- `remove` meets its contract: a row is its words (`removed-closed`). That row `at` lies within the used rows is the one fact on products that it
-- needs.
use mathlib.Core.Path.{◌∙◌}
use Rattle.rows.proofs.Table.{removed-closed}
use Rattle.rows.proofs.moves.remove.Goals as goal

pub returns : goal.returns
returns c =
    let st = c.before.before.before.before.before in
    let a = st.args in
    c.before.before.close.ensures ∙ removed-closed a.s.now a.width a.used a.at st.requires.at_lt_used
