-- What the program prints of a log, and the tables behind it: of a log whose bytes are known, to its end, or to that of its head where that is bad.
use Rattle.std.specs.Prelude.{◌≡◌, false, cond, eqb, Option, List, ◌++◌, ℕ, ◌/◌, ◌%◌, ◌<◌, ◌≤◌, length, take, drop}
use Rattle.std.specs.Io.KnownBytes.{Appends, Consumes, IsAtEnd}
use Rattle.books.specs.Words.{Tables}
use Rattle.books.specs.Runs.{run_words}
use Rattle.log_file.specs.Opening.{head_bytes}
use Rattle.log_file.specs.Records.{record_bytes}
use Rattle.log_file.specs.Lines.{opening_text, bad_head_text, ending_text}
use Rattle.history.specs.Beginning.{opened}
use Rattle.history.specs.Replays.{calls_of, texts_of}

-- "per record its number, code and two numbers, then its transfers. The last line gives records and left-over bytes.": what is printed of the bytes
-- behind a head, which began the tables t
abbrev pub records_text : Tables → List ℕ → List ℕ
records_text t log = texts_of t 0 (calls_of log) ++ ending_text (length log / record_bytes) (length log % record_bytes)

-- "prints `POL` and the version"; "A short or wrong head, admin 0 included, prints only `bad header`": what is printed of a log
abbrev pub log_text : Tables → List ℕ → List ℕ
log_text t log =
    let o = opened t (take head_bytes log) in
    cond (eqb o.code 0) (opening_text ++ records_text o.tables (drop head_bytes log)) bad_head_text

-- the tables behind a log: those of its calls, or, where it prints only `bad header`, those before it
abbrev pub tables_behind : Tables → List ℕ → Tables
tables_behind t log =
    let o = opened t (take head_bytes log) in
    cond (eqb o.code 0) (run_words o.tables (calls_of (drop head_bytes log))) t

pub record Replayed (t t₁ : Tables) (known left out out₁ : Option (List ℕ)) : Type 0 where
  pub log : List ℕ
  pub came : Consumes known left log
  -- it is read to its end, or, where its head is bad, to that of the head, which is short only where no more comes
  pub all : (opened t (take head_bytes log)).code ≡ 0 → IsAtEnd left
  pub head_alone : eqb (opened t (take head_bytes log)).code 0 ≡ false → length log ≤ head_bytes
  pub short : length log < head_bytes → IsAtEnd left
  pub words : t₁ ≡ tables_behind t log
  pub printed : Appends out out₁ (log_text t log)
