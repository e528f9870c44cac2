-- A pool's terms and what they come to: yield rate, payout cap, risk, yield, banking and what is shown as accrued.
use Rattle.std.specs.Prelude.{Bool, cond, List, [], ◌∷◌, ℕ, ◌+◌, ◌*◌, ◌-◌, ◌/◌, ◌^◌, min, ltb, leb, eqb, ℤ, pos, nat_abs, ◌+ℤ◌, get_or, Option, Some, None, Result, Ok, Err}
use Rattle.std.specs.Int.Signed.{le_z}
use Rattle.std.specs.Int.{w64}
use Rattle.std.proofs.Common.{of_z}
use Rattle.whole.specs.Whole.{up}
use Rattle.whole.specs.Shares.{share}
use Rattle.rules.specs.declared.refusal.Refusal.{Refusal}
use Rattle.rules.specs.declared.refusal.Refusal.TheVariants.{OverLimit}
use Rattle.rules.specs.Limits.{limit, basis_points, year_divisor, risk_age, risk_amount, aggressive, flat}

-- tier_parameters: "Yield and payout cap in basis points: 200 and 5,000; 500 and 7,500; 1,000 and 10,000"
abbrev pub tier_parameters : List (ℕ × ℕ)
tier_parameters = (200, 5_000) ∷ (500, 7_500) ∷ (1_000, 10_000) ∷ []

-- load_yield_rate, load_tier_pool: a tier's yield is fixed, "The flat pool has a settable rate"
abbrev pub yield_rate : ℕ → ℕ → ℕ
yield_rate flat_rate pool = cond (eqb pool flat) flat_rate (get_or tier_parameters pool (0, 0)).0

-- pay_out_tier, reserve_payout_tier: "amount times cap divided by 10,000, rounded down"; the flat pool has "no cap"
abbrev pub capped : ℕ → ℕ → ℕ
capped pool amount = cond (eqb pool flat) amount (amount * (get_or tier_parameters pool (0, 0)).1 / basis_points)

-- assess_risk: "one point each for"
abbrev pub point : Bool → ℕ
point test = cond test 1 0

-- assess_risk: "amount 0 or less is Aggressive"; "No points: Conservative; one: Balanced; more: Aggressive"
abbrev pub assess_risk : ℕ → ℕ → ℕ → ℤ → ℕ
assess_risk age repayments defaults amount =
    cond (le_z amount (pos 0)) aggressive
    (min aggressive (point (leb risk_age age) + point (ltb repayments defaults) + point (le_z (pos risk_amount) amount)))

-- now.saturating_sub(start): "Elapsed is 0 if `now` is before `since`"
abbrev pub elapsed : ℕ → ℕ → ℕ
elapsed since now = now - since

-- compute_yield, tier_yield: "principal times rate times elapsed seconds, divided once by 315,360,000,000, truncated toward zero"
abbrev pub compute_yield : ℤ → ℕ → ℕ → ℤ
compute_yield principal rate seconds = share principal (rate * seconds) year_divisor

-- a yield as the function `compute_yield` answers it: a signed word, or that it has none
abbrev pub yield_answer : ℤ → Option ℕ
yield_answer earned = cond (ltb (nat_abs earned) (2 ^ 63)) (Some (of_z w64 earned)) None

-- bank_accrued_yield, bank_tier_yield: "adds the yield to the accrual if positive". A stake of 0 or less has no such yield, so the
-- test of Stake, "If the old stake is above 0", asks nothing more
unfoldable pub bank_accrued_yield : ℕ → ℕ → ℤ → ℕ → ℕ → ℕ
bank_accrued_yield rate now stake since accrual = accrual + up (compute_yield stake rate (elapsed since now))

-- an accrual as the function `bank_accrued_yield` answers it: "an accrual within 0 to 10^15", or that it would pass its limit
abbrev pub banked_answer : ℕ → Result ℕ Refusal
banked_answer accrual = cond (leb accrual limit) (Ok accrual) (Err OverLimit)

-- accrued_yield, accrued_tier_yield. W-204: "The Rust adds the running yield there too, negative and truncated toward zero, so the sum can fall
-- below zero". A stake of 0 has a running yield of 0
abbrev pub accrued_sum : ℕ → ℕ → ℤ → ℕ → ℕ → ℤ
accrued_sum rate now stake since banked = pos banked +ℤ compute_yield stake rate (elapsed since now)
