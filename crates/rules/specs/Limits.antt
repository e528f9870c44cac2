-- Every number of document 01, named once.
use Rattle.std.specs.Prelude.{Bool, ◌&&◌, ℕ, ltb, leb}

-- the greatest stake, up or down, accrual, reserved sum and amount: "within plus or minus 10^15"
abbrev pub limit : ℕ
limit = 1_000_000_000_000_000

-- MIN_STAKE_AMOUNT: "stake plus amount below 1,000,000"
abbrev pub least_stake : ℕ
least_stake = 1_000_000

-- "`now` is at most 17,179,869,183"
abbrev pub last_time : ℕ
last_time = 17_179_869_183

-- "A rate is at most 1,000,000"
abbrev pub greatest_rate : ℕ
greatest_rate = 1_000_000

-- "1 to 1,024 stake rows"
abbrev pub most_stakes : ℕ
most_stakes = 1_024

-- "1 to 512 offer rows"
abbrev pub most_offers : ℕ
most_offers = 512

-- BPS_DENOMINATOR: yields and caps are "in basis points", 10,000 to the whole
abbrev pub basis_points : ℕ
basis_points = 10_000

-- BPS_DENOMINATOR times SECONDS_PER_YEAR: "divided once by 315,360,000,000"
abbrev pub year_divisor : ℕ
year_divisor = 315_360_000_000

-- RISK_AGE_SECS: "age at least 2,592,000 s"
abbrev pub risk_age : ℕ
risk_age = 2_592_000

-- RISK_LARGE_INVOICE_AMOUNT: "amount at least 1,000,000,000"
abbrev pub risk_amount : ℕ
risk_amount = 1_000_000_000

-- "0 Conservative, 1 Balanced, 2 Aggressive, 3 flat"
abbrev pub pools : ℕ
pools = 4

-- InsuranceTier: "0 Conservative, 1 Balanced, 2 Aggressive", the last the one that the riskiest invoices go to
abbrev pub conservative : ℕ
conservative = 0

abbrev pub balanced : ℕ
balanced = 1

abbrev pub aggressive : ℕ
aggressive = 2

-- the legacy pool of stake, unstake, pay_out: "3 flat"
abbrev pub flat : ℕ
flat = 3

-- one of the pools, of which flat is the last: "unknown .. pool" is Malformed
unfoldable pub is_pool : ℕ → Bool
is_pool pool = leb pool flat

-- the registry's replies: "0 not configured, 1 not Defaulted, 2 Defaulted"
abbrev pub not_configured : ℕ
not_configured = 0

abbrev pub not_defaulted : ℕ
not_defaulted = 1

abbrev pub last_reply : ℕ
last_reply = 2

-- 2^64: account, offer and invoice numbers are below it, "64-bit numbers"
abbrev pub two_to64 : ℕ
two_to64 = 18_446_744_073_709_551_616

-- a number of an account, an offer or an invoice: "0 means none"
unfoldable pub is_number : ℕ → Bool
is_number n = ltb 0 n && ltb n two_to64
