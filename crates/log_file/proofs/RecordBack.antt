-- A record's fields and its bytes, both ways.
use mathlib.Core.Path.{◌≡◌, refl, sym, ap, ◌∙◌}
use mathlib.Core.List.{List, ◌∷◌, ◌++◌}
use Prim.Native.Nat.{ℕ, ◌+◌, ◌^◌, ◌≤◌, ◌<◌}
use native.Mathlib.Omega.{arith}
use lib.ListN.{length, take, drop}
use mir.Syntax.{w64}
use mir.Val.{SFits, to_z, of_z}
use mir.ValLaws.{of_z_fits}
use Rattle.whole.proofs.Words.{number-back, word_back}
use Rattle.rules.specs.declared.Entry.{Entry}
use Rattle.log_file.specs.declared.records.Record.{Record}
use Rattle.log_file.specs.Bytes.{little_endian, byte_at, word_at, bytes_of, AreBytes}
use Rattle.log_file.specs.Records.{record_bytes, record_at}
use Rattle.log_file.specs.Writer.{field_text}
use Rattle.log_file.proofs.ByteWords.{of-its-bytes, one_byte, bytes_at, bytes-taken, bytes_back, number_small, byte-place, word-place}
use Rattle.log_file.proofs.EntryBack.{Room}

-- each field by its equation
same-record : (r q : Record) → r.zeros ≡ q.zeros → r.now ≡ q.now → r.signer ≡ q.signer → r.fields.number ≡ q.fields.number → r.fields.pool ≡ q.fields.pool → r.fields.subject ≡ q.fields.subject → r.fields.other ≡ q.fields.other → r.fields.reply ≡ q.fields.reply → r.fields.amount ≡ q.fields.amount → r ≡ q
same-record r q z n s f p u o y a = λ i. record { zeros = z i; now = n i; signer = s i; fields = record { number = f i; pool = p i; subject = u i; other = o i; reply = y i; amount = a i } }

-- a record at a place is the first of what is there
pub record-place : (s : List ℕ) (at : ℕ) → record_at s at ≡ record_at (drop at s) 0
record-place s at =
    let b : (k : ℕ) → byte_at s (at + k) ≡ byte_at (drop at s) k = byte-place s at in
    let first : byte_at s at ≡ byte_at (drop at s) 0 = let e : at ≡ at + 0 = omega arith in ap (byte_at s) e ∙ b 0 in
    same-record _ _ (cc (b 3, b 4, b 5, b 6, b 7)) (word-place s at 8) (word-place s at 16) first (b 1) (word-place s at 24) (word-place s at 32) (b 2) (ap (to_z w64) (word-place s at 40))

-- fields that have room are what their bytes are read as
pub fields_read : (now signer : ℕ) (e : Entry) (rest : List ℕ) → now < 2 ^ 64 → signer < 2 ^ 64 → Room e → SFits w64 e.amount → record_at (field_text now signer e ++ rest) 0 ≡ record { zeros = 0; now = now; signer = signer; fields = e }
fields_read now signer e rest n s r a =
    let amount = ap (to_z w64) (of-its-bytes 8 (of_z w64 e.amount) (of_z_fits w64 e.amount a).fits) ∙ number-back e.amount a in
    same-record _ (record { zeros = 0; now = now; signer = signer; fields = e }) refl (of-its-bytes 8 now n) (of-its-bytes 8 signer s) (one_byte e.number r.number) (one_byte e.pool r.pool) (of-its-bytes 8 e.subject r.subject) (of-its-bytes 8 e.other r.other) (one_byte e.reply r.reply) amount

-- and the bytes of what is read are the bytes, where the five that are to be 0 are
pub fields-written : (t : List ℕ) → AreBytes t → record_bytes ≤ length t → (record_at t 0).zeros ≡ 0 → field_text (record_at t 0).now (record_at t 0).signer (record_at t 0).fields ≡ take record_bytes t
fields-written t are long zeros =
    let five : bytes_of 5 0 ≡ bytes_at 5 3 t = ap (bytes_of 5) (sym zeros) ∙ bytes_back t are 5 3 in
    let word : (k : ℕ) → bytes_of 8 (little_endian (bytes_at 8 k t)) ≡ bytes_at 8 k t = bytes_back t are 8 in
    let amount : bytes_of 8 (of_z w64 (to_z w64 (word_at t 40))) ≡ bytes_at 8 40 t = ap (bytes_of 8) (word_back (word_at t 40) (number_small t are 8 40)) ∙ word 40 in
    let path : field_text (record_at t 0).now (record_at t 0).signer (record_at t 0).fields ≡ bytes_at 48 0 t =
    λ i. (one_byte (byte_at t 0) (are 0) i ∷ one_byte (byte_at t 1) (are 1) i ∷ one_byte (byte_at t 2) (are 2) i ∷ five i) ++ word 8 i ++ word 16 i ++ word 24 i ++ word 32 i ++ amount i in
    path ∙ bytes-taken 48 0 t long
