-- Pay, reserve and claim that are not malformed.
use Rattle.std.specs.Prelude.{◌≤◌}
use Rattle.rules.specs.Limits.{flat}
use Rattle.rules.specs.declared.PayCall.{PayCall}
use Rattle.rules.specs.declared.ReserveCall.{ReserveCall}
use Rattle.rules.specs.declared.ClaimCall.{ClaimCall}
use Rattle.rules.specs.inner.Facts.{Number}

pub record PayAsked (c : PayCall) : Type 0 where
  pub pool : c.pool ≤ flat

pub record ReserveAsked (c : ReserveCall) : Type 0 where
  pub pool : c.pool ≤ flat
  pub offer : Number c.offer.0

pub record ClaimAsked (c : ClaimCall) : Type 0 where
  pub pool : c.pool ≤ flat
  pub offer : Number c.offer.0
