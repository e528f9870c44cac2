-- The log as it is written: request W-201, "the 16-byte head and 48-byte records .. into a lent buffer".
use Rattle.std.specs.Prelude.{Bool, not, cond, Result, Ok, Err, List, [], ◌∷◌, ◌++◌, ℕ, ◌-◌, ltb, length}
use Rattle.std.specs.Int.{w64}
use Rattle.std.proofs.Common.{of_z}
use Rattle.rules.specs.Limits.{is_number}
use Rattle.rules.specs.Operations.{entry_of}
use Rattle.rules.specs.Step.{malformed}
use Rattle.rules.specs.declared.refusal.Refusal.{Refusal}
use Rattle.rules.specs.declared.refusal.Refusal.TheVariants.{Malformed, TableFull}
use Rattle.rules.specs.declared.Account.{Account}
use Rattle.rules.specs.declared.Entry.{Entry}
use Rattle.rules.specs.declared.Call.{Call}
use Rattle.log_file.specs.Bytes.{bytes_of}
use Rattle.log_file.specs.Written.{written}

-- ---- what is written

-- "`POL`, 16-bit version 1, three zero bytes, admin (64 bits)"
unfoldable pub head_text : Account → List ℕ
head_text admin = (80 ∷ 79 ∷ 76 ∷ []) ++ bytes_of 2 1 ++ bytes_of 3 0 ++ bytes_of 8 admin.0

-- "operation, pool, reply, one byte each, five zero bytes"
abbrev pub first_text : ℕ → ℕ → ℕ → List ℕ
first_text operation pool reply = bytes_of 1 operation ++ bytes_of 1 pool ++ bytes_of 1 reply ++ bytes_of 5 0

-- "then `now`, signer, subject, other, amount, 64 bits each", the amount in two's complement
abbrev pub field_text : ℕ → ℕ → Entry → List ℕ
field_text now signer e =
    first_text e.number e.pool e.reply
    ++ bytes_of 8 now ++ bytes_of 8 signer ++ bytes_of 8 e.subject ++ bytes_of 8 e.other ++ bytes_of 8 (of_z w64 e.amount)

-- a call's record: its operation's fields are those of the one table of operations
unfoldable pub record_text : Call → List ℕ
record_text c = field_text c.now c.signer.0 (entry_of c.operation)

-- ---- where it is written

-- the bytes written or why none were, and the buffer after it
pub record WriteOutcome : Type 0 where
  pub answer : Result ℕ Refusal
  pub buffer : List ℕ

abbrev pub after : Result ℕ Refusal → List ℕ → WriteOutcome
after answer buffer = record { answer = answer; buffer = buffer }

-- "behind the buffer's end the room left is 0"
abbrev pub room_left : List ℕ → ℕ → ℕ
room_left buffer at = length buffer - at

-- "refuses, changing nothing: Malformed exactly when the record would be .., else TableFull exactly when the room left is under" the length of
-- what is written
unfoldable pub writes : Bool → List ℕ → ℕ → List ℕ → WriteOutcome
writes bad buffer at text =
    cond bad (after (Err Malformed) buffer)
    (cond (ltb (room_left buffer at) (length text)) (after (Err TableFull) buffer)
    (after (Ok (length text)) (written buffer at text)))

-- "a head: admin 0"
abbrev pub write_head : List ℕ → ℕ → Account → WriteOutcome
write_head buffer at admin = writes (not (is_number admin.0)) buffer at (head_text admin)

abbrev pub write_record : List ℕ → ℕ → Call → WriteOutcome
write_record buffer at c = writes (malformed c) buffer at (record_text c)
