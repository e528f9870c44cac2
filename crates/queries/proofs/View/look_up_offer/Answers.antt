-- `look_up_offer` meets its contract: the gate, then the lookup.
use Rattle.std.proofs.Common.{ap, ◌∙◌}
use Rattle.books.proofs.Good.{offers-held}
use Rattle.queries.specs.Lookups.{told_lookup, offer_lookup}
use Rattle.queries.proofs.QueryOrder.{open-read}
use Rattle.queries.proofs.LookupOrder.{gate-finds, gate-refuses}
use Rattle.queries.proofs.View.look_up_offer.Goals as goal

pub returns-in_err-gate : goal.returns-in_err-gate
unfolding offer_lookup
returns-in_err-gate c = gate-refuses _ c.args.pool c.args.offer.0 _ _ c.is_key.ensures _ c.in_err-gate.ensures.code _ c.from_residual.ensures.1

pub look_up-requires-clause-table : goal.look_up-requires-clause-table
look_up-requires-clause-table c = (offers-held _ (open-read _ _ c.in_ok-gate.ensures.code).good).table

pub returns : goal.returns
unfolding offer_lookup
returns c = ap told_lookup c.look_up.ensures ∙ gate-finds _ c.args.pool c.args.offer.0 _ _ c.is_key.ensures c.in_ok-gate.ensures.code
