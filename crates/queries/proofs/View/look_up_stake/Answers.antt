-- `look_up_stake` meets its contract: the gate, then the lookup.
use Rattle.std.proofs.Common.{ap, ◌∙◌}
use Rattle.books.proofs.Good.{stakes-held}
use Rattle.queries.specs.Lookups.{told_lookup, stake_lookup}
use Rattle.queries.proofs.QueryOrder.{open-read}
use Rattle.queries.proofs.LookupOrder.{gate-finds, gate-refuses}
use Rattle.queries.proofs.View.look_up_stake.Goals as goal

pub returns-in_err-gate : goal.returns-in_err-gate
unfolding stake_lookup
returns-in_err-gate c = gate-refuses _ c.args.pool c.args.account.0 _ _ c.is_key.ensures _ c.in_err-gate.ensures.code _ c.from_residual.ensures.1

pub look_up-requires-clause-table : goal.look_up-requires-clause-table
look_up-requires-clause-table c = (stakes-held _ (open-read _ _ c.in_ok-gate.ensures.code).good).table

pub returns : goal.returns
unfolding stake_lookup
returns c = ap told_lookup c.look_up.ensures ∙ gate-finds _ c.args.pool c.args.account.0 _ _ c.is_key.ensures c.in_ok-gate.ensures.code
