-- `get_pool` meets its contract: the gate, then the pool's figures.
use Rattle.std.proofs.Common.{ℕ, ◌<◌, Bool, ◌≡◌, refl, sym, ◌∙◌, [], arith}
use Rattle.rules.specs.Limits.{is_pool}
use Rattle.rules.specs.Queries.{get_pool}
use Rattle.rules.proofs.Tests.{pool-read}
use Rattle.rules.proofs.Conditions.{all-joined}
use Rattle.books.specs.Words.{Tables}
use Rattle.books.specs.Layout.{pools}
use Rattle.queries.proofs.QueryOrder.{Open, open-read, gate-answers, gate-refuses}
use Rattle.queries.proofs.QueryRows.{unpaid-small, pool-told}
use Rattle.queries.proofs.View.get_pool.Goals as goal

pool-in : (t : Tables) (pool : ℕ) (met : Bool) → met ≡ is_pool pool → Open t met → pool < pools
pool-in t pool met e o = omega (arith, pool-read pool (sym e ∙ o.met))

pub returns-in_err-books : goal.returns-in_err-books
unfolding get_pool
returns-in_err-books c = gate-refuses _ _ _ refl _ (c.is_pool.ensures ∙ all-joined _ []) _ c.in_err-books.ensures.code _ c.from_residual.ensures.1

pub balance-balance-requires : goal.balance-balance-requires
balance-balance-requires c =
    let o = open-read _ _ c.in_ok-books.ensures.code in
    pool-in _ c.args.pool _ c.is_pool.ensures o

pub unpaid-unpaid-requires : goal.unpaid-unpaid-requires
unpaid-unpaid-requires c =
    let o = open-read _ _ c.in_ok-books.ensures.code in
    pool-in _ c.args.pool _ c.is_pool.ensures o

pub tell-requires : goal.tell-requires
tell-requires c =
    let o = open-read _ _ c.in_ok-books.ensures.code in
    unpaid-small _ o.good c.args.pool (pool-in _ c.args.pool _ c.is_pool.ensures o) c.balance-balance.result c.unpaid-unpaid.result (rw c.in_ok-books.ensures.books at c.balance-balance.ensures) (rw c.in_ok-books.ensures.books at c.unpaid-unpaid.ensures)

pub returns : goal.returns
unfolding get_pool
returns c =
    let o = open-read _ _ c.in_ok-books.ensures.code in
    c.tell.ensures
    ∙ pool-told _ o.good c.args.pool (pool-in _ c.args.pool _ c.is_pool.ensures o) c.balance-balance.result c.unpaid-unpaid.result (rw c.in_ok-books.ensures.books at c.balance-balance.ensures) (rw c.in_ok-books.ensures.books at c.unpaid-unpaid.ensures)
    ∙ gate-answers _ _ _ refl _ (c.is_pool.ensures ∙ all-joined _ []) c.in_ok-books.ensures.code
