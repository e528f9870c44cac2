-- A stake or a withdrawal that is not malformed.
use Rattle.std.specs.Prelude.{ℕ, ◌≤◌}
use Rattle.rules.specs.Limits.{last_time, flat}
use Rattle.rules.specs.declared.StakeCall.{StakeCall}
use Rattle.rules.specs.inner.Facts.{Number}

pub record StakeAsked (time : ℕ) (c : StakeCall) : Type 0 where
  pub time-is : time ≤ last_time
  pub pool-is : c.pool ≤ flat
  pub staker-is : Number c.staker.0
