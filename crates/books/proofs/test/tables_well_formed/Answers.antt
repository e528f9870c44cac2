-- `tables_well_formed` meets its contract: each test that fails refuses, and where the others are passed the last decides (`tests-are`).
use Rattle.std.proofs.Common.{sym, ◌∙◌, arith}
use Rattle.rules.proofs.Decided.{lent-read}
use Rattle.books.specs.Layout.{stake_width, offer_width}
use Rattle.books.proofs.Counts.{used-fits}
use Rattle.books.proofs.Opened.{lent-known}
use Rattle.books.proofs.Parts.{tests-are, not-lent, stakes-refused, offers-refused, balances-refused, unpaid-refused, settings-refused, stakes-end-refused}
use Rattle.books.proofs.test.tables_well_formed.Goals as goal

pub returns-then-not-is_lent : goal.returns-then-not-is_lent
returns-then-not-is_lent c =
    not-lent c.args.stakes.now c.args.offers.now c.args.books.now (sym c.is_lent.ensures ∙ c.if-not-is_lent.true) (λ j. (c.type_inv.books j).fits)

pub pass-requires : goal.pass-requires
pass-requires c = (lent-read _ (lent-known c.is_lent.ensures c.if-not-is_lent.false).rooms).most-stakes

pub returns-in_default : goal.returns-in_default
returns-in_default c = stakes-refused c.args.stakes.now c.args.offers.now c.args.books.now c.in_default.ensures

pub same_sums-requires : goal.same_sums-requires
same_sums-requires c = omega (arith, (lent-known c.is_lent.ensures c.if-not-is_lent.false).sized)

pub returns-then-not-same_sums : goal.returns-then-not-same_sums
returns-then-not-same_sums c =
    balances-refused c.args.stakes.now c.args.offers.now c.args.books.now (λ j. (c.type_inv.books j).fits) c.in-Some.staked c.in-Some.ensures (sym c.same_sums.ensures ∙ c.if-not-same_sums.true)

pub pass-requires-2 : goal.pass-requires-2
pass-requires-2 c = omega (arith, (lent-read _ (lent-known c.is_lent.ensures c.if-not-is_lent.false).rooms).most-offers)

pub returns-in_default-pass : goal.returns-in_default-pass
returns-in_default-pass c = offers-refused c.args.stakes.now c.args.offers.now c.args.books.now c.in_default-pass.ensures

pub same_sums-requires-2 : goal.same_sums-requires-2
same_sums-requires-2 c = omega (arith, (lent-known c.is_lent.ensures c.if-not-is_lent.false).sized)

pub settings_test-requires : goal.settings_test-requires
settings_test-requires c = (lent-known c.is_lent.ensures c.if-not-is_lent.false).sized

pub returns-then-not-same_sums-2 : goal.returns-then-not-same_sums-2
returns-then-not-same_sums-2 c =
    unpaid-refused c.args.stakes.now c.args.offers.now c.args.books.now (λ j. (c.type_inv.books j).fits) c.in-Some-pass.offered c.in-Some-pass.ensures (sym c.same_sums-2.ensures ∙ c.if-not-same_sums-2.true)

pub returns-then-not-settings_test : goal.returns-then-not-settings_test
returns-then-not-settings_test c =
    settings-refused c.args.stakes.now c.args.offers.now c.args.books.now (λ j. (c.type_inv.books j).fits) (sym c.settings_test.ensures ∙ c.if-not-settings_test.true)

pub overflow_mul-staked : goal.overflow_mul-staked
overflow_mul-staked c = record { fits = omega (arith, c.in-Some.ensures.used, used-fits stake_width c.args.stakes.now) }

pub returns-then-not-blank : goal.returns-then-not-blank
returns-then-not-blank c =
    stakes-end-refused c.args.stakes.now c.args.offers.now c.args.books.now (λ j. (c.type_inv.books j).fits) c.in-Some.staked c.in-Some.ensures (sym c.blank.ensures ∙ c.if-not-blank.true)

pub overflow_mul-offered : goal.overflow_mul-offered
overflow_mul-offered c = record { fits = omega (arith, c.in-Some-pass.ensures.used, used-fits offer_width c.args.offers.now) }

pub returns : goal.returns
returns c =
    c.blank-2.ensures
    ∙ tests-are c.args.stakes.now c.args.offers.now c.args.books.now (λ j. (c.type_inv.books j).fits) (sym c.is_lent.ensures ∙ c.if-not-is_lent.false) c.in-Some.staked c.in-Some-pass.offered c.in-Some.ensures c.in-Some-pass.ensures
    (sym c.same_sums.ensures ∙ c.if-not-same_sums.false) (sym c.same_sums-2.ensures ∙ c.if-not-same_sums-2.false) (sym c.settings_test.ensures ∙ c.if-not-settings_test.false) (sym c.blank.ensures ∙ c.if-not-blank.false)
