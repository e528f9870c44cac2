-- What each operation does that demand 3 speaks of, as one table.
use Rattle.promises.specs.Calls.{Operation, Stake, Withdraw, Pay, Reserve, Claim, Rate, Pause, Unpause, PayoutCaller, Unknown}
use Rattle.promises.specs.Reach.{Part, nothing, row_of, all_of}

-- takes_out: the pool that a withdrawal or a direct payout takes from; grants: the offer that a reservation is for; claims: the offer
-- that a claim is on; shares: the pool whose stakes bear a direct payout or a claim
pub record Role : Type 0 where
  pub takes_out : Part
  pub grants : Part
  pub claims : Part
  pub shares : Part

-- its maker
abbrev pub role : Part → Part → Part → Part → Role
role takes_out grants claims shares = record { takes_out = takes_out; grants = grants; claims = claims; shares = shares }

-- of an operation that does none of it
abbrev pub idle : Role
idle = role nothing nothing nothing nothing

-- columns: takes out, grants, claims, shares
abbrev pub role_of : Operation → Role
role_of (Stake c) = idle
role_of (Withdraw c) = role (all_of c.pool) nothing nothing nothing
role_of (Pay c) = role (all_of c.pool) nothing nothing (all_of c.pool)
role_of (Reserve c) = role nothing (row_of c.pool c.offer.0) nothing nothing
role_of (Claim c) = role nothing nothing (row_of c.pool c.offer.0) (all_of c.pool)
role_of (Rate c) = idle
role_of Pause = idle
role_of Unpause = idle
role_of (PayoutCaller a) = idle
role_of Unknown = idle
