-- Document 01's figures hold, by computation.
use mathlib.Core.Path.{refl}
use Rattle.rules.specs.Limits.{is_pool, is_number}
use Rattle.rules.specs.Terms.{bank_accrued_yield}
use Rattle.rules.specs.Table.{find, has, put, each}
use Rattle.rules.specs.Sharing.{sharer, sharers, cut_of, reductions, lowered, shared, stakes_fit}
use Rattle.rules.specs.Answers.{not_by}
use Rattle.rules.specs.Stakes.{no_stake_room, stake}
use Rattle.rules.specs.Payouts.{loss_over, pay_out, no_offer_room, reserve_payout, claim_payout}
use Rattle.rules.specs.Settings.{set_payout_caller}
use Rattle.rules.specs.Step.{malformed, step}
use Rattle.rules.specs.Samples.{books_after, summaries}
use Rattle.rules.specs.Figures.{Figures}

pub figures : Figures
unfolding is_pool is_number bank_accrued_yield find has put each sharer sharers cut_of reductions lowered shared stakes_fit not_by no_stake_room stake loss_over pay_out no_offer_room reserve_payout claim_payout set_payout_caller malformed step books_after summaries
figures = record {
  k1 = refl;
  k2 = (refl, refl);
  k3 = (refl, refl);
  k4 = (refl, refl);
  k5 = (refl, refl);
  k6 = refl;
  k7 = refl;
  k8 = refl;
  k9 = refl;
  k10-aggressive = refl;
  k10-flat = refl;
  k11 = (refl, refl);
  k12 = refl;
}
