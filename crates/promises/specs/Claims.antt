-- The terms of the promise on claims.
use Rattle.std.specs.Prelude.{◌≡◌, Bool, true, false, List, [], ◌∷◌, ℕ, ◌-◌, ◌≤◌, leb, pos, ◌≤ℤ◌}
use Rattle.whole.specs.Whole.{dn}
use Rattle.rules.specs.Limits.{limit}
use Rattle.rules.specs.Table.{each}
use Rattle.rules.specs.Books.{Books, StakeRow, balance_of, unpaid_of}
use Rattle.promises.specs.Calls.{Account, ClaimCall, Operation, Claim, Call}
use Rattle.rules.specs.Answers.{Outcome, outcome, refusal, done, no_transfer, transfer_out, OverLimit}
use Rattle.rules.specs.Payouts.{cover_of, after_loss, after_claim}
use Rattle.rules.specs.Step.{malformed, step}
use Rattle.promises.specs.Reach.{holds}
use Rattle.promises.specs.Roles.{role_of}

-- the pool's balance covers its unpaid reservations
abbrev pub Covered : Books → ℕ → Type 0
Covered b pool = pos (unpaid_of b pool) ≤ℤ balance_of b pool

-- a withdrawal or a direct payout of the pool
abbrev pub takes_out : ℕ → Operation → Bool
takes_out pool o = holds (role_of o).takes_out pool 0

-- along the calls none of these takes effect: it leaves the books as they were
abbrev pub Quiet : ℕ → Books → List Call → Type 0
Quiet pool b [] = Unit {0}
Quiet pool b (c ∷ calls) = (takes_out pool c.operation ≡ true → (step b c).books ≡ b) × Quiet pool (step b c).books calls

-- the claim as a call
abbrev pub claim_by : ℕ → Account → ClaimCall → Call
claim_by now signer c = record { now = now; signer = signer; operation = Claim c }

-- a claim of n, well formed, while not paused, by the payout caller, on an offer with cover left
pub record Claiming (b : Books) (now : ℕ) (signer : Account) (c : ClaimCall) (n : ℕ) : Type 0 where
  pub formed : malformed (claim_by now signer c) ≡ false
  pub running : b.settings.paused ≡ false
  pub by-caller : signer ≡ b.settings.caller
  pub amount : c.amount ≡ pos n
  pub some : 1 ≤ n
  pub most : n ≤ limit
  pub left : 1 ≤ cover_of b c

-- every stake is at least −10^15
abbrev pub none_below : List StakeRow → Bool
none_below rows = each (λ r. leb (dn r.stake) limit) rows

-- what such a claim comes to: n paid, and the books after it; or OverLimit, with a stake that would fall below −10^15
pub data PaidOrOver (b : Books) (c : ClaimCall) (n : ℕ) (x : Outcome) : Type 0 where
  pays : x ≡ outcome (done (pos n) (pos (cover_of b c - n)) (transfer_out c.lender n) no_transfer) (after_claim b c n) → PaidOrOver b c n x
  over : x ≡ outcome (refusal OverLimit) b → none_below (after_loss b c.pool n).stakes ≡ false → PaidOrOver b c n x
