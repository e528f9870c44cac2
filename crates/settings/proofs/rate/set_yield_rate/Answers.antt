-- `set_yield_rate` meets its contract: what its checks refuses, and what it stores are rungs of the plan (`Plans`).
use Rattle.std.proofs.Common.{◌≡◌, ap, ◌∙◌, w64, to_z, arith, rules}
use lib.IntN.{nat_abs}
use mir.Val.{of_z}
use lib.ListN.{set}
use Rattle.books.specs.Layout.{rate_word}
use Rattle.books.specs.Words.{tables}
use Rattle.books.proofs.Good.{good-read}
use Rattle.settings.proofs.Plans.{rate-refused, rate-above, rate-unfit, rate-stored}
use Rattle.settings.proofs.RateWords.{word-is, above, within, used-held, can-bank}
use Rattle.settings.proofs.rate.set_yield_rate.Goals as goal

pub returns-in_err-as_admin : goal.returns-in_err-as_admin
returns-in_err-as_admin c =
    let a = c.args in
    rate-refused a.stakes.now a.offers.now a.books.now c.requires.books_value a.signer a.time a.c c.as_admin.ensures _ c.in_err-as_admin.was c.from_residual.result c.from_residual.ensures.1

pub returns-then-rate-gt-GREATEST_RATE : goal.returns-then-rate-gt-GREATEST_RATE
returns-then-rate-gt-GREATEST_RATE c =
    let a = c.args in
    let kept : to_z w64 (of_z w64 a.c.rate) ≡ a.c.rate = search rules in
    rate-above a.stakes.now a.offers.now a.books.now c.requires.books_value a.signer a.time a.c c.as_admin.ensures _ c.in_ok-as_admin.was
    (above c.requires.rate_asked (ap nat_abs kept) (omega arith))

pub used_in-used-requires : goal.used_in-used-requires
used_in-used-requires c = (good-read (tables c.args.stakes.now c.args.offers.now c.args.books.now) c.requires.books_value).stakes-tidy

pub pool_start-from-requires : goal.pool_start-from-requires
pool_start-from-requires c = used-held (tables c.args.stakes.now c.args.offers.now c.args.books.now) c.requires.books_value c.used_in-used.ensures

pub rows_fit-requires : goal.rows_fit-requires
rows_fit-requires c =
    can-bank (tables c.args.stakes.now c.args.offers.now c.args.books.now) c.requires.books_value c.used_in-used.ensures c.pool_start-from.ensures c.requires.rate_asked.time-is

pub returns-in_err-rows_fit : goal.returns-in_err-rows_fit
returns-in_err-rows_fit c =
    let a = c.args in
    let kept : to_z w64 (of_z w64 a.c.rate) ≡ a.c.rate = search rules in
    rate-unfit a.stakes.now a.offers.now a.books.now c.requires.books_value a.signer a.time a.c c.as_admin.ensures _ c.in_ok-as_admin.was
    (within c.requires.rate_asked (ap nat_abs kept) (omega arith)) c.rows_fit.ensures _ c.in_err-rows_fit.was c.from_residual-in_err-rows_fit.result c.from_residual-in_err-rows_fit.ensures.1

pub bank_rows-requires-clause-can_bank : goal.bank_rows-requires-clause-can_bank
bank_rows-requires-clause-can_bank c =
    can-bank (tables c.args.stakes.now c.args.offers.now c.args.books.now) c.requires.books_value c.used_in-used.ensures c.pool_start-from.ensures c.requires.rate_asked.time-is

pub returns : goal.returns
returns c =
    let a = c.args in
    let kept : to_z w64 (of_z w64 a.c.rate) ≡ a.c.rate = search rules in
    rate-stored a.stakes.now a.offers.now a.books.now c.requires.books_value a.signer a.time a.c c.as_admin.ensures _ c.in_ok-as_admin.was
    (within c.requires.rate_asked (ap nat_abs kept) (omega arith)) c.rows_fit.ensures (search rules) (search rules) _ c.in_ok-rows_fit.was _ _ _ c.stored.ensures c.bank_rows.ensures
    (c.set_rate.ensures ∙ ap (set a.books.now rate_word) (word-is c.requires.rate_asked (ap nat_abs kept)))
