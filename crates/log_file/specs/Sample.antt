-- Document 01's sample, "Admin 1, then a Balanced stake of 2,000,000 by 7, a withdrawal of 3,000,000 by 7, and a stake of 999,999 by 8", as
-- one statement: its head, its first record, both ways, and the text that it prints. The proof is by computation.
use Rattle.std.specs.Prelude.{◌≡◌, Some, List, [], ◌∷◌, ◌++◌, ℕ, pos, negsuc}
use Rattle.std.specs.Fmt.{signed_decimal}
use Rattle.rules.specs.Answers.{refusal, done, no_transfer, transfer_in}
use Rattle.rules.specs.declared.Operation.TheVariants.{Stake}
use Rattle.log_file.specs.Opening.{head_of}
use Rattle.log_file.specs.Records.{record_of}
use Rattle.log_file.specs.Writer.{head_text, record_text}
use Rattle.log_file.specs.Lines.{opening_text, answer_text, ending_text}

-- a number below 256 in 64 bits
abbrev pub small_word : ℕ → List ℕ
small_word n = n ∷ 0 ∷ 0 ∷ 0 ∷ 0 ∷ 0 ∷ 0 ∷ 0 ∷ []

abbrev pub sample_head : List ℕ
sample_head = (80 ∷ 79 ∷ 76 ∷ 1 ∷ 0 ∷ 0 ∷ 0 ∷ 0 ∷ []) ++ small_word 1

-- at time 5
abbrev pub sample_record : List ℕ
sample_record =
    (1 ∷ 1 ∷ 0 ∷ 0 ∷ 0 ∷ 0 ∷ 0 ∷ 0 ∷ []) ++ small_word 5 ++ small_word 7 ++ small_word 7 ++ small_word 0 ++ (128 ∷ 132 ∷ 30 ∷ 0 ∷ 0 ∷ 0 ∷ 0 ∷ 0 ∷ [])

pub record Sample : Type 0 where
  pub head : head_of sample_head ≡ Some (record { 0 = 1 })
  pub first : record_of sample_record 0 ≡ record { now = 5; signer = record { 0 = 7 }; operation = Stake (record { pool = 1; staker = record { 0 = 7 }; amount = pos 2_000_000 }) }
  -- and as they are written (request W-201)
  pub head-written : head_text (record { 0 = 1 }) ≡ sample_head
  pub first-written : record_text (record { now = 5; signer = record { 0 = 7 }; operation = Stake (record { pool = 1; staker = record { 0 = 7 }; amount = pos 2_000_000 }) }) ≡ sample_record
  pub printed : opening_text ++ answer_text 1 (done (pos 0) (pos 0) (transfer_in (record { 0 = 7 }) 2_000_000) no_transfer) ++ answer_text 2 (refusal 9) ++ answer_text 3 (refusal 6) ++ ending_text 3 0
      ≡ (80 ∷ 79 ∷ 76 ∷ 32 ∷ 49 ∷ 10
      ∷ 49 ∷ 32 ∷ 48 ∷ 32 ∷ 48 ∷ 32 ∷ 48 ∷ 10
      ∷ 105 ∷ 110 ∷ 32 ∷ 55 ∷ 32 ∷ 50 ∷ 48 ∷ 48 ∷ 48 ∷ 48 ∷ 48 ∷ 48 ∷ 10
      ∷ 50 ∷ 32 ∷ 57 ∷ 32 ∷ 48 ∷ 32 ∷ 48 ∷ 10
      ∷ 51 ∷ 32 ∷ 54 ∷ 32 ∷ 48 ∷ 32 ∷ 48 ∷ 10
      ∷ 101 ∷ 110 ∷ 100 ∷ 32 ∷ 51 ∷ 32 ∷ 48 ∷ 10 ∷ [])
  -- a number below 0: "-12"
  pub negative : signed_decimal (negsuc 11) ≡ 45 ∷ 49 ∷ 50 ∷ []
