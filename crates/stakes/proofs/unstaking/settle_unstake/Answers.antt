-- `settle_unstake` meets its contract: each answer is its rung of the plan (`StakeRungs`).
use Rattle.std.proofs.Common.{◌≡◌, false, cond, not, ◌&&◌, Bool, ap, ap₂, sym, refl, ◌∙◌, ltb, eqb, ℕ, ℤ}
use lib.Signed.{lt_z}
use Rattle.rules.specs.Limits.{limit, flat}
use Rattle.rules.specs.Terms.{banked_answer}
use Rattle.rules.specs.Books.{StakeRow, stake_row}
use Rattle.rules.specs.Answers.{no_transfer, transfer_out}
use Rattle.rules.specs.Stakes.{unstake, yield_due, overdrawn}
use Rattle.books.specs.Words.{tables, books_of}
use Rattle.books.specs.inner.Held.{stake_of}
use Rattle.books.proofs.Accruals.{banked-to, banked-over}
use Rattle.books.proofs.Good.{good-read}
use Rattle.books.proofs.Writing.{paused-is, stake-is}
use Rattle.stakes.proofs.StakeRungs.{unstake_rungs, let_pass, turned_down, refusing, passing-on}
use Rattle.stakes.proofs.StakeRows.{Read}
use Rattle.stakes.proofs.StakeRows as rows
use Rattle.stakes.proofs.unstaking.settle_unstake.Goals as goal
use Rattle.stakes.proofs.unstaking.settle_unstake.Goals.{In_ok-amount, After-of-row, After-less, In_ok-accrual}

-- ---- what is known on the way

passed : (c : In_ok-amount)
    → unstake (books_of (tables c.args.stakes.now c.args.offers.now c.args.books.now)) c.args.time c.args.signer c.args.c ≡ unstake_rungs (books_of (tables c.args.stakes.now c.args.offers.now c.args.books.now)) c.args.time c.args.c
unfolding unstake
passed c = let_pass _ _ _ _ _ (c.is_barred.ensures ∙ ap (λ (v : Bool). v && not (eqb c.args.c.pool flat)) (paused-is _)) c.in_ok-amount.ensures.code

read : (c : After-of-row) → Read (tables c.args.stakes.now c.args.offers.now c.args.books.now) c.args.time c.args.c c.in_ok-amount.amount (stake_of c.of-row.result)
read c = record { good = c.requires.books_value; asked = c.requires.stake_asked; amount = c.in_ok-amount.ensures.amount; row-is = c.of-row.ensures ∙ stake-is _ _ _ }

short : (c : After-less) → overdrawn (books_of (tables c.args.stakes.now c.args.offers.now c.args.books.now)) c.args.c ≡ c.less.result
unfolding overdrawn
short c =
    let k = read (goal.at.After-less c).After-of-row in
    sym (c.less.ensures ∙ ap₂ (λ (x : StakeRow) (z : ℤ). lt_z x.stake z) k.row-is k.amount.word)

banked : (c : In_ok-accrual) → (c.in_ok-accrual.accrual ≡ yield_due (books_of (tables c.args.stakes.now c.args.offers.now c.args.books.now)) c.args.time c.args.c) × (ltb limit (yield_due (books_of (tables c.args.stakes.now c.args.offers.now c.args.books.now)) c.args.time c.args.c) ≡ false)
banked c = banked-to _ _ (c.in_ok-accrual.ensures ∙ ap banked_answer (rows.due-is (read (goal.at.In_ok-accrual c).After-of-row)))

-- ---- the answers

pub returns-in_err-amount : goal.returns-in_err-amount
unfolding unstake
returns-in_err-amount c = passing-on c.in_err-amount.field-0.0 (turned_down _ _ _ _ _ (c.is_barred.ensures ∙ ap (λ (v : Bool). v && not (eqb c.args.c.pool flat)) (paused-is _)) _ c.in_err-amount.ensures.code) c.from_residual.ensures.1

pub used_in-used-requires : goal.used_in-used-requires
used_in-used-requires c = (good-read _ c.requires.books_value).stakes-tidy

pub of-row-requires : goal.of-row-requires
of-row-requires c = rows.held _ c.requires.books_value _ c.used_in-used.ensures

pub returns-then-less : goal.returns-then-less
returns-then-less c =
    let at = goal.at.returns-then-less c in
    refusing (passed at.In_ok-amount ∙ rw (short at.After-less, c.if-less.true))

pub banked_of-requires : goal.banked_of-requires
banked_of-requires c = rows.bankable (read (goal.at.banked_of-requires c).After-of-row)

pub returns-in_err-accrual : goal.returns-in_err-accrual
returns-in_err-accrual c =
    let at = goal.at.returns-in_err-accrual c in
    let over = banked-over _ _ (c.in_err-accrual.ensures ∙ ap banked_answer (rows.due-is (read at.After-of-row))) in
    passing-on c.in_err-accrual.field-0.0 (passed at.In_ok-amount ∙ rw (short at.After-less, c.if-less.false, over.1, over.0)) c.from_residual-in_err-accrual.ensures.1

pub balance-requires : goal.balance-requires
balance-requires c = rows.balance-asks (read (goal.at.balance-requires c).After-of-row)

pub sub-requires-2 : goal.sub-requires-2
sub-requires-2 c =
    let at = goal.at.sub-requires-2 c in
    rows.balance-sub-fits (read at.After-of-row) _ c.balance.ensures (short at.After-less ∙ c.if-less.false)

pub returns : goal.returns
returns c =
    let at = goal.at.returns c in
    let k = read at.After-of-row in
    let enough = short at.After-less ∙ c.if-less.false in
    let to = banked at.In_ok-accrual in
    rows.unstaked k (record { some = rows.some-is k; enough = enough; limits = to.1 }) _ _
    (passed at.In_ok-amount ∙ rw (enough, to.1)) c.used_in-used.ensures
    (c.row_of.ensures ∙ ap (λ (z : ℤ). stake_row c.args.c.pool c.args.c.staker.0 z c.args.time 0) (rows.taken-off k _ c.sub.ensures))
    _ c.balance.ensures c.sub-2.ensures refl (c.yield_out.ensures ∙ ap (λ (n : ℕ). cond (eqb n 0) no_transfer (transfer_out c.args.c.staker n)) to.0)
