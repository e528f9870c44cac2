-- Two histories worked out, as one statement: document 01's example log, and an offer claimed in parts. The proof is by computation.
use Rattle.std.specs.Prelude.{◌≡◌, List, [], ◌∷◌, pos}
use Rattle.rules.specs.Limits.{balanced, aggressive}
use Rattle.rules.specs.Calls.{Call, account_no}
use Rattle.rules.specs.Books.{balance_of, unpaid_of}
use Rattle.rules.specs.Answers.{transfer_in}
use Rattle.rules.specs.Step.{step}
use Rattle.rules.specs.Samples.{at, hire, to_stake, to_unstake, to_reserve, to_claim, roomy, books_after, summaries}

abbrev pub example_log : List Call
example_log = at 0 7 (to_stake balanced 7 (pos 2_000_000)) ∷ at 0 7 (to_unstake balanced 7 (pos 3_000_000)) ∷ at 0 8 (to_stake balanced 8 (pos 999_999)) ∷ []

-- 6,000,000 reserved, and claimed by 4,000,000 at a time
abbrev pub part_claims : List Call
part_claims =
    hire ∷ at 0 7 (to_stake aggressive 7 (pos 10_000_000)) ∷ at 0 2 (to_reserve aggressive 1 (pos 6_000_000))
    ∷ at 0 2 (to_claim aggressive 1 (pos 4_000_000)) ∷ at 0 2 (to_claim aggressive 1 (pos 4_000_000)) ∷ at 0 2 (to_claim aggressive 1 (pos 4_000_000)) ∷ []

pub record Worked : Type 0 where
  pub example : summaries roomy example_log ≡ (0, pos 0, pos 0) ∷ (9, pos 0, pos 0) ∷ (6, pos 0, pos 0) ∷ []
  pub paid-in : (step roomy (at 0 7 (to_stake balanced 7 (pos 2_000_000)))).answer.one ≡ transfer_in (account_no 7) 2_000_000
  pub taken_out : balance_of (books_after roomy (at 0 7 (to_stake balanced 7 (pos 2_000_000)) ∷ at 0 7 (to_unstake balanced 7 (pos 500_000)) ∷ [])) balanced ≡ pos 1_500_000
  pub in_parts : summaries roomy part_claims ≡ (0, pos 0, pos 0) ∷ (0, pos 0, pos 0) ∷ (0, pos 6_000_000, pos 0) ∷ (0, pos 4_000_000, pos 2_000_000) ∷ (0, pos 2_000_000, pos 0) ∷ (9, pos 0, pos 0) ∷ []
  pub left_over : (balance_of (books_after roomy part_claims) aggressive ≡ pos 4_000_000) × (unpaid_of (books_after roomy part_claims) aggressive ≡ 0)
