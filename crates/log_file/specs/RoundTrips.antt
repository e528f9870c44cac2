-- Request W-201: "What is written reads back as the same call, and every record read and not Malformed writes back as the same bytes." Of what
-- a program holds: bytes, and amounts of 64 bits.
use Rattle.std.specs.Prelude.{◌≡◌, false, not, Some, Ok, List, ℕ, ◌+◌, ◌≤◌, length, take, drop}
use Rattle.std.specs.Int.{w64}
use Rattle.std.proofs.Common.{SFits}
use Rattle.rules.specs.Limits.{is_number}
use Rattle.rules.specs.Table.{all}
use Rattle.rules.specs.Operations.{entry_of}
use Rattle.rules.specs.Step.{malformed}
use Rattle.rules.specs.declared.Account.{Account}
use Rattle.rules.specs.declared.Entry.{Entry}
use Rattle.rules.specs.declared.Call.{Call}
use Rattle.log_file.specs.declared.records.Record.{Record}
use Rattle.log_file.specs.Bytes.{AreBytes}
use Rattle.log_file.specs.Opening.{head_bytes, head_of}
use Rattle.log_file.specs.Records.{record_bytes, record_at, call_of, record_of}
use Rattle.log_file.specs.Malformed.{record_tests}
use Rattle.log_file.specs.Writer.{head_text, record_text, after, room_left, write_head, write_record}

-- "Amount arguments are signed 64-bit"
abbrev pub Fitting : Entry → Type 0
Fitting e = SFits w64 e.amount

-- a record of fields that are given one by one
abbrev pub record_of_fields : ℕ → Account → Entry → Record
record_of_fields now signer e = record { zeros = 0; now = now; signer = signer.0; fields = e }

pub record RoundTrips : Type 0 where
  -- every call that is not Malformed is written where there is room, and reads back as the same call
  pub call_back : (s : List ℕ) (at : ℕ) (c : Call) → Fitting (entry_of c.operation) → malformed c ≡ false → record_bytes ≤ room_left s at
      → ((write_record s at c).answer ≡ Ok record_bytes) × (record_of (write_record s at c).buffer at ≡ c)
  -- and every admin
  pub admin-back : (s : List ℕ) (at : ℕ) (admin : Account) → not (is_number admin.0) ≡ false → head_bytes ≤ room_left s at
      → ((write_head s at admin).answer ≡ Ok head_bytes) × (head_of (take head_bytes (drop at (write_head s at admin).buffer)) ≡ Some admin)
  -- every record read and not Malformed writes back as the same bytes
  pub record-back : (s : List ℕ) (i : ℕ) → AreBytes s → i + record_bytes ≤ length s → malformed (record_of s i) ≡ false
      → record_text (record_of s i) ≡ take record_bytes (drop i s)
  -- and every head
  pub head-back : (s : List ℕ) (admin : Account) → AreBytes s → head_of s ≡ Some admin → head_text admin ≡ s
  -- so that a record, read and written in its place, leaves every byte as it was
  pub in_place : (s : List ℕ) (i : ℕ) → AreBytes s → i + record_bytes ≤ length s → malformed (record_of s i) ≡ false
      → write_record s i (record_of s i) ≡ after (Ok record_bytes) s
  -- fields given one by one are Malformed exactly when the record that has them would be
  pub fields-judged : (now : ℕ) (signer : Account) (e : Entry) → malformed (call_of now signer e) ≡ not (all (record_tests (record_of_fields now signer e)))
  -- and, written, they are the record's fields
  pub fields_back : (s : List ℕ) (at now : ℕ) (signer : Account) (e : Entry) → Fitting e → malformed (call_of now signer e) ≡ false → record_bytes ≤ room_left s at
      → record_at (write_record s at (call_of now signer e)).buffer at ≡ record_of_fields now signer e
