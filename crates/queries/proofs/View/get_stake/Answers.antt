-- `get_stake` meets its contract: the gate, then the row that is found.
use Rattle.std.proofs.Common.{refl, ◌∙◌}
use Rattle.rules.specs.Queries.{get_stake}
use Rattle.books.proofs.Good.{good-read}
use Rattle.queries.proofs.QueryOrder.{open-read, gate-answers, gate-refuses}
use Rattle.queries.proofs.QueryRows.{stakes-found, stake-told}
use Rattle.queries.proofs.View.get_stake.Goals as goal

pub returns-in_err-gate : goal.returns-in_err-gate
unfolding get_stake
returns-in_err-gate c = gate-refuses _ _ _ refl _ c.is_key.ensures _ c.in_err-gate.ensures.code _ c.from_residual.ensures.1

pub used_in-used-requires : goal.used_in-used-requires
used_in-used-requires c = (good-read _ (open-read _ _ c.in_ok-gate.ensures.code).good).stakes-tidy

pub of-row-requires : goal.of-row-requires
of-row-requires c = stakes-found _ (open-read _ _ c.in_ok-gate.ensures.code).good _ c.used_in-used.ensures

pub returns : goal.returns
unfolding get_stake
returns c =
    c.tell.ensures
    ∙ stake-told _ (open-read _ _ c.in_ok-gate.ensures.code).good c.args.pool c.args.account c.of-row.result c.of-row.ensures
    ∙ gate-answers _ _ _ refl _ c.is_key.ensures c.in_ok-gate.ensures.code
