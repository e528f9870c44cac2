-- `set_payout_caller` meets its contract: what its check refuses and what it stores are rungs of the plan (`Plans`).
use Rattle.std.proofs.Common.{rules}
use Rattle.settings.proofs.Plans.{caller-refused, caller-stored}
use Rattle.settings.proofs.switches.set_payout_caller.Goals as goal

pub returns-in_err-as_admin : goal.returns-in_err-as_admin
returns-in_err-as_admin c =
    let a = c.args in
    caller-refused a.stakes.now a.offers.now a.books.now c.requires a.signer a.caller c.as_admin.ensures _ c.in_err-as_admin.was c.from_residual.result c.from_residual.ensures.1

pub returns : goal.returns
returns c =
    let a = c.args in
    caller-stored a.stakes.now a.offers.now a.books.now c.requires a.signer a.caller c.as_admin.ensures (search rules) (search rules) _ c.in_ok-as_admin.was _ _ c.stored.ensures c.set_payout_caller.ensures
