-- The order of the tests, "1, 2, 3, 4, 5, .. 11", as one statement: each call of a list passes one test more than the call before it,
-- and fails every later test that it can, so that it shows which code comes first. The proof is by computation.
use Rattle.std.specs.Prelude.{◌≡◌, Bool, true, false, List, [], ◌∷◌, map, ℕ, ◌+◌, pos, negsuc}
use Rattle.rules.specs.Limits.{limit, last_time, greatest_rate, least_stake, aggressive, flat, two_to64}
use Rattle.rules.specs.Table.{all}
use Rattle.rules.specs.Calls.{Operation, Entry, Call, account_no, offer_no, Pay, Claim, Pause, Unpause, PayoutCaller, Unknown}
use Rattle.rules.specs.Books.{Books, books, settings, no_figures, stake_row, offer_row}
use Rattle.rules.specs.Answers.{Malformed, Paused, NoPayer, NotAllowed, InvalidInput, NoRegistry, InvalidTransition, InsufficientBalance, OverLimit, TableFull}
use Rattle.rules.specs.Operations.{entry, entry_tests}
use Rattle.rules.specs.Formed.{well_formed}
use Rattle.rules.specs.Samples.{at, to_stake, to_unstake, to_pay, to_reserve, to_claim, to_rate, codes_of}

-- Full tables. Aggressive: three stakes of 6 · 10^14 and, last, one of −10^15, so that a loss of 1 passes a limit; offer 1 has cover.
-- Flat: one stake of 10^15 − 1, with its accrual at the limit; offer 1 is granted and paid in full.
abbrev pub shop : Bool → ℕ → Books
shop paused caller =
    books
    (stake_row aggressive 4 (pos 600_000_000_000_000) 0 0 ∷ stake_row aggressive 5 (pos 600_000_000_000_000) 0 0 ∷ stake_row aggressive 6 (pos 600_000_000_000_000) 0 0 ∷ stake_row aggressive 9 (negsuc 999_999_999_999_999) 0 0 ∷ stake_row flat 7 (pos 999_999_999_999_999) 0 limit ∷ [])
    (offer_row aggressive 1 800_000_000_000_000 0 ∷ offer_row flat 1 limit limit ∷ [])
    (no_figures ∷ no_figures ∷ record { balance = pos 800_000_000_000_000; unpaid = 800_000_000_000_000 } ∷ record { balance = pos 999_999_999_999_999; unpaid = 0 } ∷ [])
    (settings (account_no 1) (account_no caller) paused greatest_rate)
    (record { stakes = 5; offers = 2 })

abbrev pub paused_shop : Books
paused_shop = shop true 0

abbrev pub payerless_shop : Books
payerless_shop = shop false 0

abbrev pub open_shop : Books
open_shop = shop false 2

abbrev pub pay : ℕ → ℕ → ℕ → Operation
pay reply invoice beneficiary = Pay (record { pool = aggressive; reply = reply; invoice = record { 0 = invoice }; beneficiary = account_no beneficiary; amount = pos 0 })

abbrev pub claim_for : ℕ → Operation
claim_for lender = Claim (record { pool = aggressive; offer = offer_no 1; lender = account_no lender; amount = pos 0 })

abbrev pub by_nine : Operation → Call
by_nine o = at 0 9 o

-- a time, a signer, and each field in turn
abbrev pub bad_calls : List Call
bad_calls =
    at (last_time + 1) 9 (to_stake aggressive 7 (pos 0)) ∷ at 0 0 (to_stake aggressive 7 (pos 0)) ∷ at 0 two_to64 (to_stake aggressive 7 (pos 0))
    ∷ map by_nine (to_stake 4 7 (pos 0) ∷ to_stake aggressive 0 (pos 0) ∷ to_unstake 4 7 (pos 0) ∷ to_unstake aggressive two_to64 (pos 0)
    ∷ to_pay 4 0 (pos 0) ∷ pay 3 5 6 ∷ pay 0 0 6 ∷ pay 0 5 0 ∷ to_reserve 4 1 (pos 0) ∷ to_reserve aggressive 0 (pos 0)
    ∷ to_claim 4 1 (pos 0) ∷ to_claim aggressive 0 (pos 0) ∷ claim_for 0 ∷ to_rate aggressive (pos 0) ∷ to_rate flat (negsuc 0)
    ∷ PayoutCaller (account_no 0) ∷ Unknown ∷ [])

-- an entry of each operation, with every field that it uses
abbrev pub good_entries : List Entry
good_entries =
    entry 1 1 7 0 0 (pos 1) ∷ entry 2 1 7 0 0 (pos 1) ∷ entry 3 1 5 6 2 (pos 1) ∷ entry 4 1 4 0 0 (pos 1) ∷ entry 5 1 4 6 0 (pos 1)
    ∷ entry 6 3 0 0 0 (pos 1) ∷ entry 7 0 0 0 0 (pos 0) ∷ entry 8 0 0 0 0 (pos 0) ∷ entry 9 0 2 0 0 (pos 0) ∷ []

-- the same with one field more, each in turn; and two numbers of no operation
abbrev pub spare_entries : List Entry
spare_entries =
    entry 1 1 7 1 0 (pos 1) ∷ entry 1 1 7 0 1 (pos 1) ∷ entry 2 1 7 1 0 (pos 1) ∷ entry 2 1 7 0 1 (pos 1) ∷ entry 4 1 4 1 0 (pos 1) ∷ entry 4 1 4 0 1 (pos 1)
    ∷ entry 5 1 4 6 1 (pos 1) ∷ entry 6 3 1 0 0 (pos 1) ∷ entry 6 3 0 1 0 (pos 1) ∷ entry 6 3 0 0 1 (pos 1)
    ∷ entry 7 1 0 0 0 (pos 0) ∷ entry 7 0 1 0 0 (pos 0) ∷ entry 7 0 0 1 0 (pos 0) ∷ entry 7 0 0 0 1 (pos 0) ∷ entry 7 0 0 0 0 (pos 1)
    ∷ entry 8 1 0 0 0 (pos 0) ∷ entry 8 0 1 0 0 (pos 0) ∷ entry 8 0 0 1 0 (pos 0) ∷ entry 8 0 0 0 1 (pos 0) ∷ entry 8 0 0 0 0 (pos 1)
    ∷ entry 9 1 2 0 0 (pos 0) ∷ entry 9 0 2 1 0 (pos 0) ∷ entry 9 0 2 0 1 (pos 0) ∷ entry 9 0 2 0 0 (pos 1)
    ∷ entry 0 0 0 0 0 (pos 0) ∷ entry 10 0 0 0 0 (pos 0) ∷ []

abbrev pub fit : Entry → Bool
fit e = all (entry_tests e)

pub record Codes : Type 0 where
  -- "an unused field not 0", "unknown operation"
  pub entries : (map fit good_entries ≡ map (λ (e : Entry). true) good_entries) × (map fit spare_entries ≡ map (λ (e : Entry). false) spare_entries)
  pub formed : (well_formed paused_shop ≡ true) × (well_formed payerless_shop ≡ true) × (well_formed open_shop ≡ true)
  pub malformed-calls : codes_of paused_shop bad_calls ≡ map (λ (c : Call). Malformed) bad_calls
  -- "for all but flat `unstake`, `pause`, `unpause`"
  pub paused-calls : codes_of paused_shop
      (map by_nine (to_stake aggressive 7 (pos 0) ∷ to_unstake aggressive 7 (pos 0) ∷ to_pay aggressive 0 (pos 0) ∷ to_reserve aggressive 1 (pos 0) ∷ to_claim aggressive 1 (pos 0) ∷ to_rate flat (pos 9_999_999) ∷ PayoutCaller (account_no 2) ∷ to_unstake flat 7 (pos 0) ∷ Pause ∷ Unpause ∷ []))
      ≡ Paused ∷ Paused ∷ Paused ∷ Paused ∷ Paused ∷ Paused ∷ Paused ∷ NotAllowed ∷ NotAllowed ∷ NotAllowed ∷ []
  pub unpaid-calls : codes_of payerless_shop (map by_nine (to_pay aggressive 0 (pos 0) ∷ to_reserve aggressive 1 (pos 0) ∷ to_claim aggressive 1 (pos 0) ∷ [])) ≡ NoPayer ∷ NoPayer ∷ NoPayer ∷ []
  pub stake-calls : codes_of open_shop
      (at 0 9 (to_stake aggressive 8 (pos 0)) ∷ at 0 8 (to_stake aggressive 8 (pos 0)) ∷ at 0 9 (to_stake aggressive 9 (pos (limit + 1))) ∷ at 0 8 (to_stake aggressive 8 (pos 999_999))
      ∷ at 0 7 (to_stake flat 7 (pos 2)) ∷ at last_time 7 (to_stake flat 7 (pos 1)) ∷ at 0 8 (to_stake aggressive 8 (pos least_stake)) ∷ at 0 7 (to_stake flat 7 (pos 1)) ∷ [])
      ≡ NotAllowed ∷ InvalidInput ∷ OverLimit ∷ InvalidInput ∷ OverLimit ∷ OverLimit ∷ TableFull ∷ 0 ∷ []
  pub unstake-calls : codes_of open_shop
      (at last_time 9 (to_unstake flat 7 (pos 0)) ∷ at last_time 7 (to_unstake flat 7 (pos 0)) ∷ at last_time 7 (to_unstake flat 7 (pos (limit + 1))) ∷ at last_time 7 (to_unstake flat 7 (pos 1)) ∷ at 0 7 (to_unstake flat 7 (pos 1)) ∷ [])
      ≡ NotAllowed ∷ InvalidInput ∷ InsufficientBalance ∷ OverLimit ∷ 0 ∷ []
  pub pay-calls : codes_of open_shop
      (at 0 9 (to_pay aggressive 0 (pos 0)) ∷ at 0 2 (to_pay aggressive 0 (pos 0)) ∷ at 0 2 (to_pay aggressive 0 (pos (limit + 1))) ∷ at 0 2 (to_pay aggressive 0 (pos 1)) ∷ at 0 2 (to_pay aggressive 1 (pos 1)) ∷ at 0 2 (to_pay aggressive 2 (pos 1)) ∷ at 0 2 (to_pay flat 2 (pos 1)) ∷ [])
      ≡ NotAllowed ∷ InvalidInput ∷ OverLimit ∷ NoRegistry ∷ InvalidTransition ∷ OverLimit ∷ 0 ∷ []
  pub reserve-calls : codes_of open_shop
      (at 0 9 (to_reserve flat 1 (pos 0)) ∷ at 0 2 (to_reserve flat 1 (pos 0)) ∷ at 0 2 (to_reserve flat 5 (pos (limit + 1))) ∷ at 0 2 (to_reserve flat 1 (pos 1)) ∷ at 0 2 (to_reserve flat 5 (pos 1)) ∷ at 0 2 (to_reserve aggressive 5 (pos 1)) ∷ [])
      ≡ NotAllowed ∷ InvalidInput ∷ OverLimit ∷ OverLimit ∷ TableFull ∷ 0 ∷ []
  pub claim-calls : codes_of open_shop
      (at 0 9 (to_claim flat 1 (pos 0)) ∷ at 0 2 (to_claim flat 1 (pos 0)) ∷ at 0 2 (to_claim flat 1 (pos (limit + 1))) ∷ at 0 2 (to_claim flat 1 (pos 1)) ∷ at 0 2 (to_claim flat 5 (pos 1)) ∷ at 0 2 (to_claim aggressive 1 (pos 1)) ∷ at 0 2 (to_claim aggressive 1 (pos 2)) ∷ [])
      ≡ NotAllowed ∷ InvalidInput ∷ OverLimit ∷ InsufficientBalance ∷ InsufficientBalance ∷ OverLimit ∷ 0 ∷ []
  pub settings-calls : codes_of open_shop
      (at last_time 9 (to_rate flat (pos 1_000_001)) ∷ at 0 1 (to_rate flat (pos 1_000_001)) ∷ at last_time 1 (to_rate flat (pos 1)) ∷ at 0 1 (to_rate flat (pos 1)) ∷ at 0 9 (PayoutCaller (account_no 2)) ∷ at 0 1 (PayoutCaller (account_no 2)) ∷ [])
      ≡ NotAllowed ∷ OverLimit ∷ OverLimit ∷ 0 ∷ NotAllowed ∷ 0 ∷ []
