-- What is written reads back, and what is read and not Malformed writes back.
use mathlib.Core.Path.{◌≡◌, refl, sym, ap, subst, ◌∙◌}
use mathlib.Core.Bool.{Bool, true, false, not, cond}
use mathlib.Core.List.{List, ◌∷◌, ◌++◌}
use Prim.Native.Nat.{ℕ, ◌+◌, ◌^◌, ◌≤◌, ◌<◌}
use native.Mathlib.Omega.{arith}
use borrow.Author.Tests.{leb-true, eqb-true, not-false}
use lib.Dec.{leb, eqb}
use lib.ListN.{length, take, drop, length-drop}
use lib.Seq.{take_at}
use Rattle.rules.specs.Limits.{last_time, is_number}
use Rattle.rules.specs.Table.{all}
use Rattle.rules.specs.Operations.{entry_of, entry_tests}
use Rattle.rules.specs.Step.{field_tests, malformed}
use Rattle.rules.specs.declared.Account.{Account}
use Rattle.rules.specs.declared.Entry.{Entry}
use Rattle.rules.specs.declared.Operation.{Operation}
use Rattle.rules.specs.declared.Operation.TheVariants.{Unknown}
use Rattle.rules.specs.declared.Call.{Call}
use Rattle.rules.proofs.Tests.{each_first, number_read}
use Rattle.std.specs.Prelude.{Some, Ok}
use Rattle.log_file.specs.declared.records.Record.{Record}
use Rattle.log_file.specs.Bytes.{AreBytes}
use Rattle.log_file.specs.Opening.{head_bytes, head_of}
use Rattle.log_file.specs.Records.{record_bytes, record_at, operation_of, call_of, record_of}
use Rattle.log_file.specs.Malformed.{record_tests}
use Rattle.log_file.specs.Written.{written}
use Rattle.log_file.specs.Writer.{head_text, field_text, record_text, after, room_left, write_head, write_record, WriteOutcome}
use Rattle.log_file.specs.RoundTrips.{Fitting, record_of_fields, RoundTrips}
use Rattle.log_file.proofs.ByteWords.{bytes-behind}
use Rattle.log_file.proofs.EntryBack.{operation-back, entry-back, roomy}
use Rattle.log_file.proofs.RecordBack.{record-place, fields_read, fields-written}
use Rattle.log_file.proofs.HeadBack.{head_read, head-written}
use Rattle.log_file.proofs.Judged.{operation-met, in_all, judged}
use Rattle.log_file.proofs.Writes.{writes-done, written_from, written_same}

-- ---- a call that is not Malformed: its time, its signer and its fields meet their needs

pub record Sound (c : Call) : Type 0 where
  pub time : c.now < 2 ^ 64
  pub signer : c.signer.0 < 2 ^ 64
  pub fields : all (field_tests c.operation) ≡ true

sound : (c : Call) → malformed c ≡ false → Sound c
unfolding malformed
sound c h =
    let first = each_first (λ (t : Bool). t) (leb c.now last_time) (is_number c.signer.0 ∷ field_tests c.operation) (not-false _ h) in
    let second = each_first (λ (t : Bool). t) (is_number c.signer.0) (field_tests c.operation) first.1 in
    let time = leb-true c.now last_time first.0 in
    record { time = omega arith; signer = (number_read c.signer.0 second.0).word; fields = second.1 }

-- ---- a call and its record

pub record-length : (c : Call) → length (record_text c) ≡ record_bytes
unfolding record_text
record-length c = refl

-- bytes that begin with a call's record are read as the call's fields
text-read : (s rest : List ℕ) (at : ℕ) (c : Call) → Fitting (entry_of c.operation) → malformed c ≡ false → drop at s ≡ record_text c ++ rest → record_at s at ≡ record_of_fields c.now c.signer (entry_of c.operation)
unfolding record_text
text-read s rest at c fit h e =
    let k = sound c h in
    record-place s at ∙ ap (λ (t : List ℕ). record_at t 0) e ∙ fields_read c.now c.signer.0 (entry_of c.operation) rest k.time k.signer (roomy c.operation k.fields) fit

-- as the call
call-read : (s : List ℕ) (at : ℕ) (c : Call) → all (field_tests c.operation) ≡ true → record_at s at ≡ record_of_fields c.now c.signer (entry_of c.operation) → record_of s at ≡ c
unfolding record_of
call-read s at c h e =
    ap (λ (r : Record). called r) e ∙ ap (λ (o : Operation). record { now = c.now; signer = c.signer; operation = o }) (operation-back c.operation h)
  where
    called : Record → Call
    called r = record { now = r.now; signer = record { 0 = r.signer }; operation = cond (eqb r.zeros 0) (operation_of r.fields) Unknown }

-- what a done write leaves
pub stands : (s : List ℕ) (at : ℕ) (c : Call) → malformed c ≡ false → record_bytes ≤ room_left s at → write_record s at c ≡ after (Ok record_bytes) (written s at (record_text c))
stands s at c h room =
    let e = record-length c in
    sym (writes-done s at (record_text c) h (omega (arith, e))) ∙ ap (λ (n : ℕ). after (Ok n) (written s at (record_text c))) e

written_read : (s : List ℕ) (at : ℕ) (c : Call) → Fitting (entry_of c.operation) → malformed c ≡ false → record_bytes ≤ room_left s at → record_at (written s at (record_text c)) at ≡ record_of_fields c.now c.signer (entry_of c.operation)
written_read s at c fit h room = text-read (written s at (record_text c)) _ at c fit h (written_from s at (record_text c) (omega arith))

pub call-stands : (s : List ℕ) (at : ℕ) (c : Call) → Fitting (entry_of c.operation) → malformed c ≡ false → record_bytes ≤ room_left s at → record_of (written s at (record_text c)) at ≡ c
call-stands s at c fit h room = call-read (written s at (record_text c)) at c (sound c h).fields (written_read s at c fit h room)

-- ---- a record and its call

pub record-again : (s : List ℕ) (i : ℕ) → AreBytes s → i + record_bytes ≤ length s → malformed (record_of s i) ≡ false → record_text (record_of s i) ≡ take record_bytes (drop i s)
unfolding record_of record_text record_tests
record-again s i are long h =
    let r = record_at s i in
    let t = drop i s in
    let first = each_first (λ (x : Bool). x) (eqb r.zeros 0) (leb r.now last_time ∷ is_number r.signer ∷ entry_tests r.fields) (not-false _ (sym (judged s i) ∙ h)) in
    let second = each_first (λ (x : Bool). x) (leb r.now last_time) (is_number r.signer ∷ entry_tests r.fields) first.1 in
    let third = each_first (λ (x : Bool). x) (is_number r.signer) (entry_tests r.fields) second.1 in
    let zeros : (record_at t 0).zeros ≡ 0 = ap (λ (q : Record). q.zeros) (sym (record-place s i)) ∙ eqb-true r.zeros 0 first.0 in
    ap (λ (b : Bool). field_text r.now r.signer (entry_of (cond b (operation_of r.fields) Unknown))) first.0
    ∙ ap (field_text r.now r.signer) (entry-back r.fields (operation-met r.fields ∙ third.1))
    ∙ ap (λ (q : Record). field_text q.now q.signer q.fields) (record-place s i)
    ∙ fields-written t (bytes-behind s are i) (omega (arith, length-drop i s)) zeros

-- ---- fields that are given one by one

entry-sound : (now : ℕ) (signer : Account) (e : Entry) → malformed (call_of now signer e) ≡ false → entry_of (operation_of e) ≡ e
entry-sound now signer e h = entry-back e (sound (call_of now signer e) h).fields

fields-again : (s : List ℕ) (at now : ℕ) (signer : Account) (e : Entry) → Fitting e → malformed (call_of now signer e) ≡ false → record_bytes ≤ room_left s at → record_at (write_record s at (call_of now signer e)).buffer at ≡ record_of_fields now signer e
fields-again s at now signer e fit h room =
    let c = call_of now signer e in
    let same = entry-sound now signer e h in
    ap (λ (w : WriteOutcome). record_at w.buffer at) (stands s at c h room) ∙ written_read s at c (subst Fitting (sym same) fit) h room ∙ ap (record_of_fields now signer) same

pub fields-tested : (now : ℕ) (signer : Account) (e : Entry) → malformed (call_of now signer e) ≡ not (all (record_tests (record_of_fields now signer e)))
unfolding malformed record_tests
fields-tested now signer e = ap not (in_all true (leb now last_time) (is_number signer.0) (operation_of e) (entry_tests e) (operation-met e))

-- ---- an admin and its head

pub head-length : (admin : Account) → length (head_text admin) ≡ head_bytes
unfolding head_text
head-length admin = refl

pub head-stands : (s : List ℕ) (at : ℕ) (admin : Account) → not (is_number admin.0) ≡ false → head_bytes ≤ room_left s at → write_head s at admin ≡ after (Ok head_bytes) (written s at (head_text admin))
head-stands s at admin h room =
    let e = head-length admin in
    sym (writes-done s at (head_text admin) h (omega (arith, e))) ∙ ap (λ (n : ℕ). after (Ok n) (written s at (head_text admin))) e

pub admin-stands : (s : List ℕ) (at : ℕ) (admin : Account) → not (is_number admin.0) ≡ false → head_bytes ≤ room_left s at → head_of (take head_bytes (drop at (written s at (head_text admin)))) ≡ Some admin
admin-stands s at admin h room =
    ap (λ (l : List ℕ). head_of (take head_bytes l)) (written_from s at (head_text admin) (omega arith))
    ∙ ap head_of (take_at (head_text admin) _ head_bytes (head-length admin))
    ∙ head_read admin (not-false _ h)

-- ---- the statement

pub round-trips : RoundTrips
round-trips =
    record {
      call_back = λ s at c fit h room. (ap (λ (w : WriteOutcome). w.answer) (stands s at c h room), ap (λ (w : WriteOutcome). record_of w.buffer at) (stands s at c h room) ∙ call-stands s at c fit h room);
      admin-back = λ s at a h room. (ap (λ (w : WriteOutcome). w.answer) (head-stands s at a h room), ap (λ (w : WriteOutcome). head_of (take head_bytes (drop at w.buffer))) (head-stands s at a h room) ∙ admin-stands s at a h room);
      record-back = record-again;
      head-back = head-written;
      in_place = λ s i are long h. stands s i (record_of s i) h (omega arith) ∙ ap (after (Ok record_bytes)) (ap (written s i) (record-again s i are long h) ∙ written_same s i record_bytes long);
      fields-judged = fields-tested;
      fields_back = fields-again;
    }
