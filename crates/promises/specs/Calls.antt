-- The rules' declared types under one name.
pub use Rattle.rules.specs.declared.Account.{Account}
pub use Rattle.rules.specs.declared.Offer.{Offer}
pub use Rattle.rules.specs.declared.StakeCall.{StakeCall}
pub use Rattle.rules.specs.declared.PayCall.{PayCall}
pub use Rattle.rules.specs.declared.ReserveCall.{ReserveCall}
pub use Rattle.rules.specs.declared.ClaimCall.{ClaimCall}
pub use Rattle.rules.specs.declared.RateCall.{RateCall}
pub use Rattle.rules.specs.declared.Operation.{Operation}
pub use Rattle.rules.specs.declared.Operation.TheVariants.{Stake, Withdraw, Pay, Reserve, Claim, Rate, Pause, Unpause, PayoutCaller, Unknown}
pub use Rattle.rules.specs.declared.Call.{Call}
pub use Rattle.rules.specs.Answers.{Answer}
