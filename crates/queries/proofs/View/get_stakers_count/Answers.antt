-- `get_stakers_count` meets its contract: the gate, then the count.
use Rattle.std.proofs.Common.{refl, ◌∙◌, []}
use Rattle.rules.specs.Queries.{get_stakers_count}
use Rattle.rules.proofs.Conditions.{all-joined}
use Rattle.books.proofs.Good.{good-read}
use Rattle.queries.proofs.QueryOrder.{open-read, gate-answers, gate-refuses}
use Rattle.queries.proofs.QueryRows.{stakes-found, count-told}
use Rattle.queries.proofs.View.get_stakers_count.Goals as goal

pub returns-in_err-gate : goal.returns-in_err-gate
unfolding get_stakers_count
returns-in_err-gate c = gate-refuses _ _ _ refl _ (c.is_pool.ensures ∙ all-joined _ []) _ c.in_err-gate.ensures.code _ c.from_residual.ensures.1

pub used_in-used-requires : goal.used_in-used-requires
used_in-used-requires c = (good-read _ (open-read _ _ c.in_ok-gate.ensures.code).good).stakes-tidy

pub sharers_among-n-requires : goal.sharers_among-n-requires
sharers_among-n-requires c = (stakes-found _ (open-read _ _ c.in_ok-gate.ensures.code).good _ c.used_in-used.ensures).table.fits

pub returns : goal.returns
unfolding get_stakers_count
returns c =
    c.tell.ensures
    ∙ count-told _ (open-read _ _ c.in_ok-gate.ensures.code).good c.args.pool c.used_in-used.result c.sharers_among-n.result c.used_in-used.ensures c.sharers_among-n.ensures
    ∙ gate-answers _ _ _ refl _ (c.is_pool.ensures ∙ all-joined _ []) c.in_ok-gate.ensures.code
