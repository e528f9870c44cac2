-- The operations as one table: each one's number in the log, its fields there, and what each field must meet. Reading a record, the test
-- of code 1 and writing a record all go by it.
use Rattle.std.specs.Prelude.{Bool, true, false, List, [], ◌∷◌, ℕ, leb, eqb, ℤ, pos, get_or}
use Rattle.std.specs.Int.Signed.{le_z}
use Rattle.rules.specs.Limits.{flat, last_reply, is_pool, is_number}
use Rattle.rules.specs.Books.{is_zero}
use Rattle.rules.specs.Calls.{Operation, Entry, Stake, Withdraw, Pay, Reserve, Claim, Rate, Pause, Unpause, PayoutCaller, Unknown}

-- ---- what a field must meet

pub data Need (A : Type 0) : Type 0 where
  unused : Need A
  used : (A → Bool) → Need A

-- "an unused field not 0" is Malformed; one in use passes its test
abbrev pub meets : {A : Type 0} → (A → Bool) → Need A → A → Bool
meets nil unused x = nil x
meets nil (used test) x = test x

-- "unknown .. pool"
abbrev pub a_pool : Need ℕ
a_pool = used is_pool

-- "a rate .. not of pool 3"
abbrev pub flat_pool : Need ℕ
flat_pool = used (λ n. eqb n flat)

-- "number 0 where one is needed"
abbrev pub a_number : Need ℕ
a_number = used is_number

-- "unknown .. registry reply"
abbrev pub a_reply : Need ℕ
a_reply = used (λ n. leb n last_reply)

-- tested by each operation in its own order: code 6 or 10, not 1
abbrev pub an_amount : Need ℤ
an_amount = used (λ z. true)

-- "a rate negative"
abbrev pub a_rate : Need ℤ
a_rate = used (λ z. le_z (pos 0) z)

-- ---- the table

pub record Line : Type 0 where
  pub pool : Need ℕ
  pub subject : Need ℕ
  pub other : Need ℕ
  pub reply : Need ℕ
  pub amount : Need ℤ

-- its maker
abbrev pub line : Need ℕ → Need ℕ → Need ℕ → Need ℕ → Need ℤ → Line
line pool subject other reply amount = record { pool = pool; subject = subject; other = other; reply = reply; amount = amount }

-- "unknown operation": nothing meets it
abbrev pub none : Line
none = line (used (λ n. false)) unused unused unused unused

-- "Operations: 1 stake, 2 withdraw (subject staker); 3 pay (subject invoice, other beneficiary); 4 reserve; 5 claim (subject offer, claim's
-- other lender); 6 rate (pool 3, amount the rate); 7 pause; 8 unpause; 9 payout caller (subject). Reply is used by 3 only."
-- Columns: pool, subject, other, reply, amount. Line n is operation n; 0 is none.
abbrev pub operations : List Line
operations =
    none
    ∷ line a_pool a_number unused unused an_amount  -- 1 stake
    ∷ line a_pool a_number unused unused an_amount  -- 2 withdraw
    ∷ line a_pool a_number a_number a_reply an_amount  -- 3 pay
    ∷ line a_pool a_number unused unused an_amount  -- 4 reserve
    ∷ line a_pool a_number a_number unused an_amount  -- 5 claim
    ∷ line flat_pool unused unused unused a_rate  -- 6 rate
    ∷ line unused unused unused unused unused  -- 7 pause
    ∷ line unused unused unused unused unused  -- 8 unpause
    ∷ line unused a_number unused unused unused  -- 9 payout caller
    ∷ []

abbrev pub line_of : ℕ → Line
line_of number = get_or operations number none

-- ---- an operation as an entry of the log

abbrev pub entry : ℕ → ℕ → ℕ → ℕ → ℕ → ℤ → Entry
entry number pool subject other reply amount = record { number = number; pool = pool; subject = subject; other = other; reply = reply; amount = amount }

-- columns: number, pool, subject, other, reply, amount
abbrev pub entry_of : Operation → Entry
entry_of (Stake c) = entry 1 c.pool c.staker.0 0 0 c.amount
entry_of (Withdraw c) = entry 2 c.pool c.staker.0 0 0 c.amount
entry_of (Pay c) = entry 3 c.pool c.invoice.0 c.beneficiary.0 c.reply c.amount
entry_of (Reserve c) = entry 4 c.pool c.offer.0 0 0 c.amount
entry_of (Claim c) = entry 5 c.pool c.offer.0 c.lender.0 0 c.amount
entry_of (Rate c) = entry 6 c.pool 0 0 0 c.rate
entry_of Pause = entry 7 0 0 0 0 (pos 0)
entry_of Unpause = entry 8 0 0 0 0 (pos 0)
entry_of (PayoutCaller a) = entry 9 0 a.0 0 0 (pos 0)
entry_of Unknown = entry 0 0 0 0 0 (pos 0)

-- whether an entry's fields meet the needs of a line, and of the line of its number
abbrev pub line_tests : Line → Entry → List Bool
line_tests l e =
    meets (λ n. eqb n 0) l.pool e.pool
    ∷ meets (λ n. eqb n 0) l.subject e.subject
    ∷ meets (λ n. eqb n 0) l.other e.other
    ∷ meets (λ n. eqb n 0) l.reply e.reply
    ∷ meets is_zero l.amount e.amount
    ∷ []

abbrev pub entry_tests : Entry → List Bool
entry_tests e = line_tests (line_of e.number) e
