-- The tests run in document 01's order, by computation.
use mathlib.Core.Path.{refl}
use Rattle.rules.specs.Limits.{is_pool, is_number}
use Rattle.rules.specs.Terms.{bank_accrued_yield}
use Rattle.rules.specs.Table.{find, has, put, each, each_below, sum_of}
use Rattle.rules.specs.Books.{rooms_lent}
use Rattle.rules.specs.Sharing.{sharer, sharers, cut_of, reductions, lowered, shared, stakes_fit}
use Rattle.rules.specs.Answers.{not_by}
use Rattle.rules.specs.Stakes.{no_stake_room, stake, overdrawn, unstake}
use Rattle.rules.specs.Payouts.{loss_over, pay_out, no_offer_room, reserve_payout, claim_payout}
use Rattle.rules.specs.Settings.{accruals_fit, set_yield_rate, set_paused, set_payout_caller}
use Rattle.rules.specs.Step.{malformed, step}
use Rattle.rules.specs.Formed.{stake_test, offer_test, rows_test, sums_test, well_formed}
use Rattle.rules.specs.Samples.{codes_of}
use Rattle.rules.specs.Order.{Codes}

pub codes : Codes
unfolding is_pool is_number bank_accrued_yield find has put each each_below sum_of rooms_lent sharer sharers cut_of reductions lowered shared stakes_fit not_by no_stake_room stake overdrawn unstake loss_over pay_out no_offer_room reserve_payout claim_payout accruals_fit set_yield_rate set_paused set_payout_caller malformed step stake_test offer_test rows_test sums_test well_formed codes_of
codes = record {
  entries = (refl, refl);
  formed = (refl, refl, refl);
  malformed-calls = refl;
  paused-calls = refl;
  unpaid-calls = refl;
  stake-calls = refl;
  unstake-calls = refl;
  pay-calls = refl;
  reserve-calls = refl;
  claim-calls = refl;
  settings-calls = refl;
}
