-- The first rungs of the admin's operations that a pause stops, as a code.
use Rattle.std.specs.Prelude.{Bool, cond, ℕ}
use Rattle.rules.specs.Answers.{Paused, NotAllowed}

-- 0 where both are passed; `other`: the signer is not the admin
abbrev pub admin_code : Bool → Bool → ℕ
admin_code paused other = cond paused Paused (cond other NotAllowed 0)
