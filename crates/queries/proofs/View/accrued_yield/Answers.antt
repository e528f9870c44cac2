-- `accrued_yield` meets its contract: the gate, then what the row that is found shows at its pool's rate.
use Rattle.std.proofs.Common.{◌≡◌, ℕ, ◌<◌, Bool, ◌&&◌, List, [], ◌∷◌, ap, ap₂, ap, ◌∙◌, sym, arith}
use lib.Dec.{leb}
use borrow.Author.Tests.{leb-true}
use Rattle.rules.specs.Table.{all}
use Rattle.rules.specs.Limits.{last_time, two_to64, is_pool, is_number}
use Rattle.rules.specs.Queries.{accrued_yield}
use Rattle.rules.specs.declared.refusal.Refusal.{Refusal}
use Rattle.rules.specs.Answers.{refusal, told_code}
use Rattle.std.specs.Prelude.{Result}
use Rattle.rules.proofs.PassedOn.{passed-on}
use Rattle.rules.proofs.Tests.{nth, pool-read}
use Rattle.books.proofs.Good.{good-read}
use Rattle.queries.proofs.QueryOrder.{open-read, gate-answers, gate-refuses, with_first, accrued-code}
use Rattle.queries.proofs.QueryRows.{stakes-found, summable, accrued-told, accrued-over}
use Rattle.queries.proofs.View.accrued_yield.Goals as goal

abbrev fields : ℕ → ℕ → ℕ → List Bool
fields time pool number = leb time last_time ∷ is_pool pool ∷ is_number number ∷ []

joined : (time pool number : ℕ) (timely keyed : Bool) → timely ≡ leb time last_time → keyed ≡ all (is_pool pool ∷ is_number number ∷ []) → (timely && keyed) ≡ all (fields time pool number)
joined time pool number timely keyed e k = ap₂ (λ (x y : Bool). x && y) e k ∙ with_first _ _

pub returns-in_err-books : goal.returns-in_err-books
unfolding accrued_yield
returns-in_err-books c = gate-refuses _ _ _ (accrued-code _ _) _ (joined c.args.time c.args.pool c.args.account.0 _ _ c.is_time.ensures c.is_key.ensures) _ c.in_err-books.ensures.code _ c.from_residual.ensures.1

pub used_in-used-requires : goal.used_in-used-requires
used_in-used-requires c = (good-read _ (open-read _ _ c.in_ok-books.ensures.code).good).stakes-tidy

pub of-row-requires : goal.of-row-requires
of-row-requires c = stakes-found _ (open-read _ _ c.in_ok-books.ensures.code).good _ c.used_in-used.ensures

pub yield_rate-rate-requires : goal.yield_rate-rate-requires
yield_rate-rate-requires c =
    let met = sym (joined c.args.time c.args.pool c.args.account.0 _ _ c.is_time.ensures c.is_key.ensures) ∙ (open-read _ _ c.in_ok-books.ensures.code).met in
    omega (arith, pool-read c.args.pool (nth _ met 1))

pub accrued_sum-requires : goal.accrued_sum-requires
accrued_sum-requires c =
    let o = open-read _ _ c.in_ok-books.ensures.code in
    let met = sym (joined c.args.time c.args.pool c.args.account.0 _ _ c.is_time.ensures c.is_key.ensures) ∙ o.met in
    let word : c.args.account.0 < two_to64 = omega arith in
    summable _ o.good c.args.time c.args.pool c.args.account c.of-row.result c.of-row.ensures _ _ (rw c.in_ok-books.ensures.books at c.rate.ensures) c.yield_rate-rate.ensures word (leb-true c.args.time last_time (nth _ met 0))

pub returns-in_err-sum : goal.returns-in_err-sum
unfolding accrued_yield
returns-in_err-sum c =
    passed-on c.accrued_sum.result _ c.in_err-sum.was c.from_residual-in_err-sum.result c.from_residual-in_err-sum.ensures.1
    ∙ ap (λ (r : Result ℕ Refusal). refusal (told_code r)) c.in_err-sum.was
    ∙ accrued-over _ (open-read _ _ c.in_ok-books.ensures.code).good c.args.time c.args.pool c.args.account c.of-row.result c.of-row.ensures _ _ (rw c.in_ok-books.ensures.books at c.rate.ensures) c.yield_rate-rate.ensures c.accrued_sum.result c.accrued_sum.ensures _ c.in_err-sum.was
    ∙ gate-answers _ _ _ (accrued-code _ _) _ (joined c.args.time c.args.pool c.args.account.0 _ _ c.is_time.ensures c.is_key.ensures) c.in_ok-books.ensures.code

pub returns : goal.returns
unfolding accrued_yield
returns c =
    c.tell.ensures
    ∙ accrued-told _ (open-read _ _ c.in_ok-books.ensures.code).good c.args.time c.args.pool c.args.account c.of-row.result c.of-row.ensures _ _ (rw c.in_ok-books.ensures.books at c.rate.ensures) c.yield_rate-rate.ensures c.accrued_sum.result c.accrued_sum.ensures _ c.in_ok-sum.was
    ∙ gate-answers _ _ _ (accrued-code _ _) _ (joined c.args.time c.args.pool c.args.account.0 _ _ c.is_time.ensures c.is_key.ensures) c.in_ok-books.ensures.code
