-- What a write of a head or a record comes to, by each of its tests.
use Rattle.std.proofs.Common.{◌≡◌, ◌≢◌, true, false, not, Ok, Err, Some, List, ℕ, ◌^◌, ◌≤◌, ◌<◌, take, drop, sym, subst, arith}
use borrow.Author.Tests.{ne_eqb}
use Rattle.rules.specs.Limits.{is_number}
use Rattle.rules.specs.Operations.{entry_of}
use Rattle.rules.specs.Step.{malformed}
use Rattle.rules.specs.declared.refusal.Refusal.TheVariants.{Malformed, TableFull}
use Rattle.rules.specs.declared.Account.{Account}
use Rattle.rules.specs.declared.Entry.{Entry}
use Rattle.rules.specs.declared.Call.{Call}
use Rattle.rules.proofs.Tests.{word_number}
use Rattle.log_file.specs.Opening.{head_bytes, head_of}
use Rattle.log_file.specs.Records.{record_bytes, record_of}
use Rattle.log_file.specs.RoundTrips.{Fitting}
use Rattle.log_file.specs.Written.{written}
use Rattle.log_file.specs.Writer.{field_text, head_text, record_text, after, room_left, write_head, write_record}
use Rattle.log_file.proofs.Writes.{writes-bad, writes-full}
use Rattle.log_file.proofs.RoundTrip.{record-length, stands, call-stands, head-length, head-stands, admin-stands}

-- ---- a head

-- a word that is not 0 is an account's
pub admin_good : (n : ℕ) → n ≢ 0 → n < 2 ^ 64 → not (is_number n) ≡ false
admin_good n h k = rw (word_number n k, ne_eqb n 0 h)

admin-none : (n : ℕ) → n ≡ 0 → not (is_number n) ≡ true
unfolding is_number
admin-none n e = rw e

pub head_refused : (s : List ℕ) (at : ℕ) (admin : Account) → admin.0 ≡ 0 → write_head s at admin ≡ after (Err Malformed) s
head_refused s at admin e = sym (writes-bad s at (head_text admin) (admin-none admin.0 e))

pub head_full : (s : List ℕ) (at : ℕ) (admin : Account) → admin.0 ≢ 0 → admin.0 < 2 ^ 64 → room_left s at < head_bytes → write_head s at admin ≡ after (Err TableFull) s
head_full s at admin h k room = sym (writes-full s at (head_text admin) (admin_good admin.0 h k) (omega (arith, head-length admin)))

module _ (s : List ℕ) (at : ℕ) (admin : Account) (h : admin.0 ≢ 0) (k : admin.0 < 2 ^ 64) (room : head_bytes ≤ room_left s at) {left : List ℕ} (e : left ≡ written s at (head_text admin)) where
  pub head_done : after (Ok head_bytes) left ≡ write_head s at admin
  head_done = rw e (sym (head-stands s at admin (admin_good admin.0 h k) room))

  pub head_reads : head_of (take head_bytes (drop at left)) ≡ Some admin
  head_reads = rw e (admin-stands s at admin (admin_good admin.0 h k) room)

-- ---- a record

pub record_refused : (s : List ℕ) (at : ℕ) (c : Call) → malformed c ≡ true → write_record s at c ≡ after (Err Malformed) s
record_refused s at c e = sym (writes-bad s at (record_text c) e)

pub record_full : (s : List ℕ) (at : ℕ) (c : Call) → malformed c ≡ false → room_left s at < record_bytes → write_record s at c ≡ after (Err TableFull) s
record_full s at c h room = sym (writes-full s at (record_text c) h (omega (arith, record-length c)))

module _ (s : List ℕ) (at : ℕ) (c : Call) (h : malformed c ≡ false) (room : record_bytes ≤ room_left s at) {fields : Entry} (of : fields ≡ entry_of c.operation) {left : List ℕ} (e : left ≡ written s at (field_text c.now c.signer.0 fields)) where
  pub record_done : after (Ok record_bytes) left ≡ write_record s at c
  unfolding record_text
  record_done = rw (e, of) (sym (stands s at c h room))

  pub record_reads : Fitting fields → record_of left at ≡ c
  unfolding record_text
  record_reads fit = rw (e, of) (call-stands s at c (subst Fitting of fit) h room)
