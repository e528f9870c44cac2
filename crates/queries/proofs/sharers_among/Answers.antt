-- `sharers_among` meets its contract: the indices that are counted are those of the sharers' rows.
use Rattle.std.proofs.Common.{◌∙◌, arith, rules, tests}
use Rattle.std.proofs.lemmas.Iterator.{YieldsList-from_range}
use Rattle.std.proofs.lemmas.Iterator.Consumers.{YieldsList-from_filter, count_from_yields_List}
use Rattle.rules.specs.Sharing.{sharer}
use Rattle.books.specs.Words.{stake_row_at}
use Rattle.queries.proofs.QueryRows.{count-rows}
use Rattle.queries.proofs.sharers_among.Goals as goal

pub returns : goal.returns
returns c =
    let s = c.args.stakes.now in
    let pool = c.args.pool in
    count_from_yields_List c.filter.result _ c.count.ensures.ran (YieldsList-from_filter _ (λ k. sharer pool (stake_row_at s k)) (YieldsList-from_range 0 c.args.used c.args.used c.filter.ensures.source (omega arith)) c.filter.ensures.closure (λ x r q k. search (rules, tests)))
    ∙ count-rows (sharer pool) stake_row_at s 0 c.args.used
