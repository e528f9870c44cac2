-- Setting the rate on words: what it asks of its call.
use Rattle.std.specs.Prelude.{ℕ, ◌≤◌, pos, ◌≤ℤ◌}
use Rattle.rules.specs.Limits.{last_time}
use Rattle.rules.specs.declared.RateCall.{RateCall}

-- what a call that is not malformed has
pub record RateAsked (time : ℕ) (c : RateCall) : Type 0 where
  pub time-is : time ≤ last_time
  pub rate-is : pos 0 ≤ℤ c.rate
