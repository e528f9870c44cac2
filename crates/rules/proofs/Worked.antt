-- The two histories come out as stated, by computation.
use mathlib.Core.Path.{refl}
use Rattle.rules.specs.Limits.{is_pool, is_number}
use Rattle.rules.specs.Terms.{bank_accrued_yield}
use Rattle.rules.specs.Table.{find, has, put, each}
use Rattle.rules.specs.Sharing.{sharer, sharers, cut_of, reductions, lowered, shared, stakes_fit}
use Rattle.rules.specs.Answers.{not_by}
use Rattle.rules.specs.Stakes.{no_stake_room, stake, overdrawn, unstake}
use Rattle.rules.specs.Payouts.{loss_over, no_offer_room, reserve_payout, claim_payout}
use Rattle.rules.specs.Settings.{set_payout_caller}
use Rattle.rules.specs.Step.{malformed, step}
use Rattle.rules.specs.Samples.{books_after, summaries}
use Rattle.rules.specs.Worked.{Worked}

pub worked : Worked
unfolding is_pool is_number bank_accrued_yield find has put each sharer sharers cut_of reductions lowered shared stakes_fit not_by no_stake_room stake overdrawn unstake loss_over no_offer_room reserve_payout claim_payout set_payout_caller malformed step books_after summaries
worked = record { example = refl; paid-in = refl; taken_out = refl; in_parts = refl; left_over = (refl, refl) }
