-- `set_paused` meets its contract: what its check refuses and what it stores are rungs of the plan (`Plans`).
use Rattle.std.proofs.Common.{rules}
use Rattle.settings.proofs.Plans.{paused-refused, paused-stored}
use Rattle.settings.proofs.switches.set_paused.Goals as goal

pub returns-in_err-by_admin : goal.returns-in_err-by_admin
returns-in_err-by_admin c =
    let a = c.args in
    paused-refused a.stakes.now a.offers.now a.books.now c.requires a.signer a.paused c.by_admin.ensures _ c.in_err-by_admin.was c.from_residual.result c.from_residual.ensures.1

pub returns : goal.returns
returns c =
    let a = c.args in
    paused-stored a.stakes.now a.offers.now a.books.now c.requires a.signer a.paused c.by_admin.ensures (search rules) (search rules) _ c.in_ok-by_admin.was _ _ c.stored.ensures c.set_paused.ensures
