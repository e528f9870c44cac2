-- `close` meets its contract: a copy and zeros after it are the list that the contract names (`closed-made`).
use Rattle.std.proofs.Common.{rules}
use Rattle.rows.proofs.Table.{closed-made}
use Rattle.rows.proofs.moves.close.Goals as goal

pub returns : goal.returns
returns c =
    let a = c.args in
    closed-made a.s.now c.copy_within.new.self c.fill.new.self a.a a.b a.n c.requires.a_le_b.0 c.requires.a_le_b.1 c.requires.n_in_bounds c.copy_within.ensures.after (search rules)
