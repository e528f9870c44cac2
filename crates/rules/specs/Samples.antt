-- Calls and books to compute with: the admin is 1, the payout caller 2.
use Rattle.std.specs.Prelude.{List, [], ◌∷◌, ℕ, ℤ}
use Rattle.rules.specs.Books.{Books, fresh}
use Rattle.rules.specs.Calls.{Operation, Call, account_no, offer_no, Stake, Withdraw, Pay, Reserve, Claim, Rate, PayoutCaller}
use Rattle.rules.specs.Answers.{Answer}
use Rattle.rules.specs.Step.{step}

abbrev pub at : ℕ → ℕ → Operation → Call
at now signer o = record { now = now; signer = account_no signer; operation = o }

abbrev pub hire : Call
hire = at 0 1 (PayoutCaller (account_no 2))

abbrev pub to_stake : ℕ → ℕ → ℤ → Operation
to_stake pool who n = Stake (record { pool = pool; staker = account_no who; amount = n })

abbrev pub to_unstake : ℕ → ℕ → ℤ → Operation
to_unstake pool who n = Withdraw (record { pool = pool; staker = account_no who; amount = n })

abbrev pub to_pay : ℕ → ℕ → ℤ → Operation
to_pay pool reply n = Pay (record { pool = pool; reply = reply; invoice = record { 0 = 5 }; beneficiary = account_no 6; amount = n })

abbrev pub to_reserve : ℕ → ℕ → ℤ → Operation
to_reserve pool offer n = Reserve (record { pool = pool; offer = offer_no offer; amount = n })

abbrev pub to_claim : ℕ → ℕ → ℤ → Operation
to_claim pool offer n = Claim (record { pool = pool; offer = offer_no offer; lender = account_no 6; amount = n })

abbrev pub to_rate : ℕ → ℤ → Operation
to_rate pool rate = Rate (record { pool = pool; rate = rate })

-- a fresh set of eight rows each
abbrev pub roomy : Books
roomy = fresh (account_no 1) (record { stakes = 8; offers = 8 })

-- the books after some calls, and the answers' codes and numbers along the way
unfoldable pub books_after : Books → List Call → Books
books_after b [] = b
books_after b (c ∷ calls) = books_after (step b c).books calls

abbrev pub summary : Answer → ℕ × ℤ × ℤ
summary a = (a.code, a.first, a.second)

unfoldable pub summaries : Books → List Call → List (ℕ × ℤ × ℤ)
summaries b [] = []
summaries b (c ∷ calls) = summary (step b c).answer ∷ summaries (step b c).books calls

-- the codes that single calls on some books would have
unfoldable pub codes_of : Books → List Call → List ℕ
codes_of b [] = []
codes_of b (c ∷ calls) = (step b c).answer.code ∷ codes_of b calls
