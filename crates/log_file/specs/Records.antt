-- A record of the log, 48 bytes, as a call.
use Rattle.std.specs.Prelude.{Bool, true, cond, List, [], ◌∷◌, ℕ, ◌+◌, eqb, get_or}
use Rattle.std.specs.Int.{w64}
use Rattle.std.proofs.Common.{to_z}
use Rattle.rules.specs.Table.{all}
use Rattle.rules.specs.Books.{is_zero}
use Rattle.rules.specs.declared.Account.{Account}
use Rattle.rules.specs.declared.StakeCall.{StakeCall}
use Rattle.rules.specs.declared.PayCall.{PayCall}
use Rattle.rules.specs.declared.ReserveCall.{ReserveCall}
use Rattle.rules.specs.declared.ClaimCall.{ClaimCall}
use Rattle.rules.specs.declared.RateCall.{RateCall}
use Rattle.rules.specs.declared.Operation.{Operation}
use Rattle.rules.specs.declared.Entry.{Entry}
use Rattle.rules.specs.declared.Call.{Call}
use Rattle.rules.specs.declared.Operation.TheVariants.{Stake, Withdraw, Pay, Reserve, Claim, Rate, Pause, Unpause, PayoutCaller, Unknown}
use Rattle.rules.specs.Operations.{Need, unused, used, Line, line_of}
use Rattle.log_file.specs.declared.records.Record.{Record}
use Rattle.log_file.specs.Bytes.{little_endian, byte_at, word_at}

-- "Record, 48 bytes"
abbrev pub record_bytes : ℕ
record_bytes = 48

-- the record that begins at byte i: "operation, pool, reply, one byte each, five zero bytes .., then `now`, signer, subject, other, amount,
-- 64 bits each"; "Amount arguments are signed 64-bit"
abbrev pub record_at : List ℕ → ℕ → Record
record_at s i =
    record {
      zeros = little_endian (byte_at s (i + 3) ∷ byte_at s (i + 4) ∷ byte_at s (i + 5) ∷ byte_at s (i + 6) ∷ byte_at s (i + 7) ∷ []);
      now = word_at s (i + 8);
      signer = word_at s (i + 16);
      fields =
          record {
            number = byte_at s i;
            pool = byte_at s (i + 1);
            reply = byte_at s (i + 2);
            subject = word_at s (i + 24);
            other = word_at s (i + 32);
            amount = to_z w64 (word_at s (i + 40));
          };
    }

-- ---- each operation's own fields

abbrev pub stake_call : Entry → StakeCall
stake_call e = record { pool = e.pool; staker = record { 0 = e.subject }; amount = e.amount }

abbrev pub pay_call : Entry → PayCall
pay_call e =
    record { pool = e.pool; reply = e.reply; invoice = record { 0 = e.subject }; beneficiary = record { 0 = e.other }; amount = e.amount }

abbrev pub reserve_call : Entry → ReserveCall
reserve_call e = record { pool = e.pool; offer = record { 0 = e.subject }; amount = e.amount }

abbrev pub claim_call : Entry → ClaimCall
claim_call e = record { pool = e.pool; offer = record { 0 = e.subject }; lender = record { 0 = e.other }; amount = e.amount }

abbrev pub rate_call : Entry → RateCall
rate_call e = record { pool = e.pool; rate = e.amount }

-- ---- the operation

-- by number, from 0, which is none
unfoldable pub by_number : Entry → List Operation
by_number e =
    Unknown
    ∷ Stake (stake_call e)
    ∷ Withdraw (stake_call e)
    ∷ Pay (pay_call e)
    ∷ Reserve (reserve_call e)
    ∷ Claim (claim_call e)
    ∷ Rate (rate_call e)
    ∷ Pause
    ∷ Unpause
    ∷ PayoutCaller (record { 0 = e.subject })
    ∷ []

-- "an unused field not 0" is Malformed, as an unknown operation is; a field in use is the operation's own
abbrev pub spare : {A : Type 0} → (A → Bool) → Need A → A → Bool
spare nil unused x = nil x
spare nil (used test) x = true

-- whether the fields that a line does not use are 0
abbrev pub spares_nil : Line → Entry → Bool
spares_nil l e =
    all
    (spare (λ n. eqb n 0) l.pool e.pool
    ∷ spare (λ n. eqb n 0) l.subject e.subject
    ∷ spare (λ n. eqb n 0) l.other e.other
    ∷ spare (λ n. eqb n 0) l.reply e.reply
    ∷ spare is_zero l.amount e.amount
    ∷ [])

unfoldable pub operation_of : Entry → Operation
operation_of e = cond (spares_nil (line_of e.number) e) (get_or (by_number e) e.number Unknown) Unknown

-- the call of an entry that is given field by field
abbrev pub call_of : ℕ → Account → Entry → Call
call_of now signer e = record { now = now; signer = signer; operation = operation_of e }

-- the call of the record that begins at byte i; "five zero bytes (else Malformed)"
unfoldable pub record_of : List ℕ → ℕ → Call
record_of s i =
    let r = record_at s i in
    record { now = r.now; signer = record { 0 = r.signer }; operation = cond (eqb r.zeros 0) (operation_of r.fields) Unknown }
