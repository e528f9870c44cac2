-- What a call has passed that is done: the tests of its ladder that did not refuse it, for the contracts of inner functions and for proofs: no
-- reader needs to believe them. `Ladders` (proofs) shows that they hold.
use Rattle.std.specs.Prelude.{◌≡◌, false, not, ◌||◌, ℕ, ltb, eqb, ℤ, pos}
use Rattle.std.specs.Int.Signed.{lt_z, le_z}
use Rattle.whole.specs.Whole.{up}
use Rattle.rules.specs.Limits.{limit, least_stake, greatest_rate}
use Rattle.rules.specs.Books.{Books}
use Rattle.rules.specs.Calls.{Account, StakeCall, PayCall, ReserveCall, ClaimCall, RateCall}
use Rattle.rules.specs.Answers.{not_by}
use Rattle.rules.specs.Stakes.{staked_row, no_stake_room, yield_due, overdrawn}
use Rattle.rules.specs.Payouts.{loss_over, payable, grantable, granted_row, no_offer_room, cover_of, claimable}
use Rattle.rules.specs.Settings.{bank_all, accruals_fit}

pub record StakeDone (b : Books) (now : ℕ) (c : StakeCall) : Type 0 where
  pub some : le_z c.amount (pos 0) ≡ false
  pub most : lt_z (pos limit) c.amount ≡ false
  pub least : lt_z (staked_row b now c).stake (pos least_stake) ≡ false
  pub limits : (lt_z (pos limit) (staked_row b now c).stake || ltb limit (staked_row b now c).accrual) ≡ false
  pub room : no_stake_room b c ≡ false

pub record UnstakeDone (b : Books) (now : ℕ) (c : StakeCall) : Type 0 where
  pub some : le_z c.amount (pos 0) ≡ false
  pub enough : overdrawn b c ≡ false
  pub limits : ltb limit (yield_due b now c) ≡ false

-- each of the payout caller's three
pub record Called (b : Books) (signer : Account) (amount : ℤ) : Type 0 where
  pub running : b.settings.paused ≡ false
  pub hired : eqb b.settings.caller.0 0 ≡ false
  pub signed : not_by b.settings.caller signer ≡ false
  pub some : le_z amount (pos 0) ≡ false
  pub most : lt_z (pos limit) amount ≡ false

pub record PayDone (b : Books) (signer : Account) (c : PayCall) : Type 0 where
  pub called : Called b signer c.amount
  pub positive : eqb (up (payable b c)) 0 ≡ false
  pub limits : loss_over b c.pool (up (payable b c)) ≡ false

pub record ReserveDone (b : Books) (signer : Account) (c : ReserveCall) : Type 0 where
  pub called : Called b signer c.amount
  pub positive : eqb (up (grantable b c)) 0 ≡ false
  pub limits : ltb limit (granted_row b c (up (grantable b c))).reserved ≡ false
  pub room : no_offer_room b c ≡ false

pub record ClaimDone (b : Books) (signer : Account) (c : ClaimCall) : Type 0 where
  pub called : Called b signer c.amount
  pub covered : eqb (cover_of b c) 0 ≡ false
  pub positive : eqb (up (claimable b c)) 0 ≡ false
  pub limits : loss_over b c.pool (up (claimable b c)) ≡ false

pub record RateDone (b : Books) (now : ℕ) (c : RateCall) : Type 0 where
  pub most : lt_z (pos greatest_rate) c.rate ≡ false
  pub limits : not (accruals_fit (bank_all b now)) ≡ false
