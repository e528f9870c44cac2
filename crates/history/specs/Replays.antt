-- A part of a log, run: which records, what they do to the tables and what they print.
use Rattle.std.specs.Prelude.{cond, List, [], ◌∷◌, ◌++◌, ℕ, zero, suc, ◌+◌, ◌-◌, ◌*◌, ◌/◌, ltb, length, take}
use Rattle.rules.specs.declared.Call.{Call}
use Rattle.books.specs.Words.{Tables, step_words}
use Rattle.books.specs.Runs.{run_words}
use Rattle.log_file.specs.Records.{record_bytes, record_of}
use Rattle.log_file.specs.Lines.{answer_text, longest}
use Rattle.log_file.specs.Written.{written}
use Rattle.history.specs.declared.Progress.{Progress}

-- "Record, 48 bytes": the calls of k records from byte `at` on
unfoldable pub calls_from : ℕ → List ℕ → ℕ → List Call
calls_from zero bytes at = []
calls_from (suc k) bytes at = record_of bytes at ∷ calls_from k bytes (at + record_bytes)

-- of every whole record
unfoldable pub calls_of : List ℕ → List Call
calls_of bytes = calls_from (length bytes / record_bytes) bytes 0

-- "per record its number, code and two numbers, then its transfers": the text of a call that comes after `number` others
abbrev pub text_of : Tables → ℕ → Call → List ℕ
text_of t number c = answer_text (number + 1) (step_words t c).answer

-- of calls one after the other
unfoldable pub texts_of : Tables → ℕ → List Call → List ℕ
texts_of t number [] = []
texts_of t number (c ∷ calls) = text_of t number c ++ texts_of (step_words t c).tables (number + 1) calls

-- how many of the calls are run in this room: a call is run where the room that is left holds the longest text
unfoldable pub fitting : ℕ → Tables → ℕ → List Call → ℕ
fitting room t number [] = 0
fitting room t number (c ∷ calls) =
    cond (ltb room longest) 0 (suc (fitting (room - length (text_of t number c)) (step_words t c).tables (number + 1) calls))

pub record PartRun : Type 0 where
  pub progress : Progress
  pub tables : Tables
  pub text : List ℕ

abbrev pub part_run : Progress → Tables → List ℕ → PartRun
part_run p t text = record { progress = p; tables = t; text = text }

-- the first calls of the records, as many as fit: the tables after them, and their texts from the first byte of the room on
unfoldable pub replayed : Tables → List ℕ → List ℕ → ℕ → PartRun
replayed t records room number =
    let n = fitting (length room) t number (calls_of records) in
    let calls = take n (calls_of records) in
    let text = texts_of t number calls in
    part_run (record { number = number + n; taken = record_bytes * n; printed = length text }) (run_words t calls) (written room 0 text)
