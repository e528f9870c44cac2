-- `settle_stake` meets its contract: each answer is its rung of the plan (`StakeRungs`).
use Rattle.std.proofs.Common.{◌≡◌, false, ap, ap₂, sym, refl, ◌∙◌, ltb, ℕ, ℤ, pos}
use borrow.Author.Tests.{lt-ltb, le-ltb}
use lib.Signed.{lt_z}
use Rattle.rules.specs.Limits.{limit, least_stake}
use Rattle.rules.specs.Books.{stake_row}
use Rattle.rules.specs.Stakes.{stake, staked_row, yield_due, no_stake_room}
use Rattle.books.specs.Words.{tables, books_of}
use Rattle.books.specs.inner.Held.{stake_of}
use Rattle.books.proofs.Good.{good-read}
use Rattle.books.proofs.Writing.{paused-is, stake-is}
use Rattle.rules.specs.Terms.{banked_answer}
use Rattle.books.proofs.Accruals.{banked-to, banked-over}
use Rattle.stakes.proofs.StakeWords.{over-is}
use Rattle.stakes.proofs.StakeWrites.{room-is}
use Rattle.stakes.proofs.StakeRungs.{stake_rungs, let_pass, turned_down, refusing, passing-on}
use Rattle.stakes.proofs.StakeRows.{Read}
use Rattle.stakes.proofs.StakeRows as rows
use Rattle.stakes.proofs.staking.settle_stake.Goals as goal
use Rattle.stakes.proofs.staking.settle_stake.Goals.{In_ok-amount, Else-amount-gt-LIMIT, After-of-row, After-add-stake, Else-less, Else-stake-gt-LIMIT, In_ok-accrual, After-no_room}

-- ---- what is known on the way

read : (c : After-of-row) → Read (tables c.args.stakes.now c.args.offers.now c.args.books.now) c.args.time c.args.c c.in_ok-amount.amount (stake_of c.of-row.result)
read c = record { good = c.requires.books_value; asked = c.requires.stake_asked; amount = c.in_ok-amount.ensures.amount; row-is = c.of-row.ensures ∙ stake-is _ _ _ }

passed : (c : In_ok-amount)
    → stake (books_of (tables c.args.stakes.now c.args.offers.now c.args.books.now)) c.args.time c.args.signer c.args.c ≡ stake_rungs (books_of (tables c.args.stakes.now c.args.offers.now c.args.books.now)) c.args.time c.args.c
unfolding stake
passed c = let_pass _ _ _ _ _ (c.is_paused.ensures ∙ paused-is _) c.in_ok-amount.ensures.code

most : (c : Else-amount-gt-LIMIT) → lt_z (pos limit) c.args.c.amount ≡ false
most c = rw c.in_ok-amount.ensures.amount.is (le-ltb limit c.in_ok-amount.amount c.if-amount-gt-LIMIT.false)

least : (c : Else-less) → lt_z (staked_row (books_of (tables c.args.stakes.now c.args.offers.now c.args.books.now)) c.args.time c.args.c).stake (pos least_stake) ≡ false
least c = let sum = rows.added (read (goal.at.Else-less c).After-of-row) _ c.add-stake.ensures in rw (sym sum, sym c.less.ensures, c.if-less.false)

over : (c : Else-less) → lt_z (pos limit) (staked_row (books_of (tables c.args.stakes.now c.args.offers.now c.args.books.now)) c.args.time c.args.c).stake ≡ ltb limit c.add-stake.result
over c = over-is _ _ c.add-stake.type_inv (rows.added (read (goal.at.Else-less c).After-of-row) _ c.add-stake.ensures) (least c)

top : (c : Else-stake-gt-LIMIT) → lt_z (pos limit) (staked_row (books_of (tables c.args.stakes.now c.args.offers.now c.args.books.now)) c.args.time c.args.c).stake ≡ false
top c = over (goal.at.Else-stake-gt-LIMIT c).Else-less ∙ le-ltb limit c.add-stake.result c.if-stake-gt-LIMIT.false

banked : (c : In_ok-accrual) → (c.in_ok-accrual.accrual ≡ yield_due (books_of (tables c.args.stakes.now c.args.offers.now c.args.books.now)) c.args.time c.args.c) × (ltb limit (yield_due (books_of (tables c.args.stakes.now c.args.offers.now c.args.books.now)) c.args.time c.args.c) ≡ false)
banked c = banked-to _ _ (c.in_ok-accrual.ensures ∙ ap banked_answer (rows.due-is (read (goal.at.In_ok-accrual c).After-of-row)))

full : (c : After-no_room) → no_stake_room (books_of (tables c.args.stakes.now c.args.offers.now c.args.books.now)) c.args.c ≡ c.no_room.result
full c = sym (c.no_room.ensures ∙ room-is _ c.requires.books_value c.args.c _ _ (read (goal.at.After-no_room c).After-of-row).row-is c.used_in-used.ensures)

-- ---- the answers

pub returns-in_err-amount : goal.returns-in_err-amount
unfolding stake
returns-in_err-amount c = passing-on c.in_err-amount.field-0.0 (turned_down _ _ _ _ _ (c.is_paused.ensures ∙ paused-is _) _ c.in_err-amount.ensures.code) c.from_residual.ensures.1

pub returns-then-amount-gt-LIMIT : goal.returns-then-amount-gt-LIMIT
returns-then-amount-gt-LIMIT c =
    let at = goal.at.returns-then-amount-gt-LIMIT c in
    refusing (passed at.In_ok-amount ∙ rw (c.in_ok-amount.ensures.amount.is, lt-ltb limit c.in_ok-amount.amount c.if-amount-gt-LIMIT.true))

pub used_in-used-requires : goal.used_in-used-requires
used_in-used-requires c = (good-read _ c.requires.books_value).stakes-tidy

pub of-row-requires : goal.of-row-requires
of-row-requires c = rows.held _ c.requires.books_value _ c.used_in-used.ensures

pub add-stake-requires : goal.add-stake-requires
add-stake-requires c = rows.add-fits (read (goal.at.add-stake-requires c).After-of-row) c.if-amount-gt-LIMIT.false

pub returns-then-less : goal.returns-then-less
returns-then-less c =
    let at = goal.at.returns-then-less c in
    let sum = rows.added (read at.After-of-row) _ c.add-stake.ensures in
    refusing (passed at.In_ok-amount ∙ rw (most at.Else-amount-gt-LIMIT, sym sum, sym c.less.ensures, c.if-less.true))

pub returns-then-stake-gt-LIMIT : goal.returns-then-stake-gt-LIMIT
returns-then-stake-gt-LIMIT c =
    let at = goal.at.returns-then-stake-gt-LIMIT c in
    refusing (passed at.In_ok-amount ∙ rw (most at.Else-amount-gt-LIMIT, least at.Else-less, over at.Else-less, lt-ltb limit c.add-stake.result c.if-stake-gt-LIMIT.true))

pub banked_of-requires : goal.banked_of-requires
banked_of-requires c = rows.bankable (read (goal.at.banked_of-requires c).After-of-row)

pub returns-in_err-accrual : goal.returns-in_err-accrual
returns-in_err-accrual c =
    let at = goal.at.returns-in_err-accrual c in
    let large = banked-over _ _ (c.in_err-accrual.ensures ∙ ap banked_answer (rows.due-is (read at.After-of-row))) in
    passing-on c.in_err-accrual.field-0.0 (passed at.In_ok-amount ∙ rw (most at.Else-amount-gt-LIMIT, least at.Else-less, top at.Else-stake-gt-LIMIT, large.1, large.0)) c.from_residual-in_err-accrual.ensures.1

pub returns-then-no_room : goal.returns-then-no_room
returns-then-no_room c =
    let at = goal.at.returns-then-no_room c in
    refusing (passed at.In_ok-amount ∙ rw (most at.Else-amount-gt-LIMIT, least at.Else-less, top at.Else-stake-gt-LIMIT, (banked at.In_ok-accrual).1, full at.After-no_room, c.if-no_room.true))

pub balance-requires : goal.balance-requires
balance-requires c = rows.balance-asks (read (goal.at.balance-requires c).After-of-row)

pub add-requires : goal.add-requires
add-requires c = rows.balance-add-fits (read (goal.at.add-requires c).After-of-row) _ c.balance.ensures c.if-amount-gt-LIMIT.false

pub returns : goal.returns
returns c =
    let at = goal.at.returns c in
    let k = read at.After-of-row in
    let m = most at.Else-amount-gt-LIMIT in
    let l = least at.Else-less in
    let u = top at.Else-stake-gt-LIMIT in
    let to = banked at.In_ok-accrual in
    let room = full at.After-no_room ∙ c.if-no_room.false in
    rows.staked k (record { some = rows.some-is k; most = m; least = l; limits = rw (u, to.1); room = room }) _ _
    (passed at.In_ok-amount ∙ rw (m, l, u, to.1, room)) c.used_in-used.ensures
    (c.row_of.ensures ∙ ap₂ (λ (z : ℤ) (n : ℕ). stake_row c.args.c.pool c.args.c.staker.0 z c.args.time n) (rows.added k _ c.add-stake.ensures) to.0)
    _ c.balance.ensures c.add.ensures refl refl
