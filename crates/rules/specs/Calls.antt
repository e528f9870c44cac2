-- The declared types of src/lib.rt under one name, and numbers made accounts and offers.
use Rattle.std.specs.Prelude.{ℕ}
pub use Rattle.rules.specs.declared.Account.{Account}
pub use Rattle.rules.specs.declared.Offer.{Offer}
pub use Rattle.rules.specs.declared.Invoice.{Invoice}
pub use Rattle.rules.specs.declared.StakeCall.{StakeCall}
pub use Rattle.rules.specs.declared.PayCall.{PayCall}
pub use Rattle.rules.specs.declared.ReserveCall.{ReserveCall}
pub use Rattle.rules.specs.declared.ClaimCall.{ClaimCall}
pub use Rattle.rules.specs.declared.RateCall.{RateCall}
pub use Rattle.rules.specs.declared.Operation.{Operation}
pub use Rattle.rules.specs.declared.Operation.TheVariants.{Stake, Withdraw, Pay, Reserve, Claim, Rate, Pause, Unpause, PayoutCaller, Unknown}
pub use Rattle.rules.specs.declared.Entry.{Entry}
pub use Rattle.rules.specs.declared.Call.{Call}

-- the account and the offer of a number
abbrev pub account_no : ℕ → Account
account_no n = record { 0 = n }

abbrev pub offer_no : ℕ → Offer
offer_no n = record { 0 = n }

-- "0 means none"
abbrev pub no_account : Account
no_account = account_no 0
