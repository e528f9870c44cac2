-- THEOREM (demand 3, second and third sentence). If at some moment of a history from a fresh set a pool's balance covers its unpaid
-- reservations, and from then on no direct payout and no withdrawal takes effect there, then a well-formed claim of 1 to 10^15, while
-- not paused, by the payout caller, on an offer with cover left, pays the lesser of the claim and the cover; its only refusal is
-- OverLimit, where a stake would fall below −10^15.
use mathlib.Core.Path.{◌≡◌}
use mathlib.Core.List.{List}
use Prim.Native.Nat.{ℕ, min}
use Rattle.rules.specs.Books.{Rooms, fresh}
use Rattle.rules.specs.Answers.{fresh_code}
use Rattle.rules.specs.Payouts.{cover_of}
use Rattle.rules.specs.Step.{step}
use Rattle.promises.specs.Calls.{Account, ClaimCall, Call}
use Rattle.promises.specs.Histories.{run}
use Rattle.promises.specs.Claims.{Covered, Quiet, claim_by, Claiming, PaidOrOver}
use Rattle.promises.proofs.Along.{fresh-formed, run-formed}
use Rattle.promises.proofs.Covering.{run-covered}
use Rattle.promises.proofs.Claimed.{claim-step}

pub cover-pays : (admin : Account) (rooms : Rooms) → fresh_code admin rooms ≡ 0 → (before after : List Call) (now : ℕ) (signer : Account) (c : ClaimCall) (n : ℕ)
    → (let moment = run (fresh admin rooms) before in let end = run moment after in
    Covered moment c.pool → Quiet c.pool moment after → Claiming end now signer c n
    → PaidOrOver end c (min n (cover_of end c)) (step end (claim_by now signer c)))
cover-pays admin rooms e before after now signer c n covered quiet h =
    let moment = run (fresh admin rooms) before in
    let w = run-formed (fresh admin rooms) before (fresh-formed admin rooms e) in
    claim-step now signer c n (run moment after) (run-formed moment after w) (run-covered c.pool moment after w quiet covered) h
