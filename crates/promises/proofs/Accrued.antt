-- THEOREM. Request W-204: a stake below zero shows its banked sum less its running yield, a stake of zero the banked sum alone, within plus or minus
-- 10^15, and banking stays as it was. The statement and its proof stand in the rules, where an edit of a definition meets them.
use Rattle.rules.specs.AccruedShown.{AccruedShown}
use Rattle.rules.proofs.AccruedLaws.{accrued-shown}

pub accrued-signed : AccruedShown
accrued-signed = accrued-shown
