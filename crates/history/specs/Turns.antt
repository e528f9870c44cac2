-- What the replay program does next: at a log's head, and at each part of the log that comes.
use Rattle.std.specs.Prelude.{Some, None, cond, List, ℕ, ◌-◌, eqb, ltb, length, take}
use Rattle.books.specs.Words.{Tables}
use Rattle.log_file.specs.Records.{record_bytes}
use Rattle.log_file.specs.Lines.{opening_text, bad_head_text, ending_text}
use Rattle.log_file.specs.Written.{written}
use Rattle.history.specs.declared.turns.Position.{Position}
use Rattle.history.specs.declared.turns.Turn.{Turn}
use Rattle.history.specs.Beginning.{opened}
use Rattle.history.specs.Replays.{replayed}
use Rattle.history.specs.Buffers.{at_front}

-- ---- at the head: the turn, and the tables and the text's buffer after it

pub record Started : Type 0 where
  pub turn : Turn
  pub tables : Tables
  pub text : List ℕ

abbrev pub started : Turn → Tables → List ℕ → Started
started turn t text = record { turn = turn; tables = t; text = text }

-- no record yet, and nothing in the buffer
abbrev pub beginning : Position
beginning = record { number = 0; there = 0 }

-- "prints `POL` and the version"; "A short or wrong head, admin 0 included, prints only `bad header`"
unfoldable pub start_of : Tables → List ℕ → List ℕ → Started
start_of t head room =
    let o = opened t head in
    let is = eqb o.code 0 in
    let text = cond is opening_text bad_head_text in
    started (record { place = beginning; printed = length text; next = cond is (Some beginning) None }) o.tables (written room 0 text)

-- ---- at a part: the turn, and the tables and both buffers after it

pub record Turned : Type 0 where
  pub turn : Turn
  pub tables : Tables
  pub bytes : List ℕ
  pub text : List ℕ

abbrev pub turned : Turn → Tables → List ℕ → List ℕ → Turned
turned turn t bytes text = record { turn = turn; tables = t; bytes = bytes; text = text }

-- "The last line gives records and left-over bytes."
abbrev pub last_turn : Tables → List ℕ → ℕ → List ℕ → ℕ → Turned
last_turn t bytes there room number =
    let text = ending_text number there in
    turned (record { place = record { number = number; there = there }; printed = length text; next = None }) t bytes (written room 0 text)

-- records are run as far as they and the room go, and the bytes behind them are moved to the front
abbrev pub part_turn : Tables → List ℕ → ℕ → List ℕ → ℕ → Turned
part_turn t bytes there room number =
    let o = replayed t (take there bytes) room number in
    let p = o.progress in
    let place : Position = record { number = p.number; there = there - p.taken } in
    turned (record { place = place; printed = p.printed; next = Some place }) o.tables (at_front bytes p.taken (there - p.taken)) o.text

-- the part is the first `there` bytes of its buffer. A program reads until a record is there or the input ends: where none is, the log ends
unfoldable pub turn_of : Tables → List ℕ → ℕ → List ℕ → ℕ → Turned
turn_of t bytes there room number = cond (ltb there record_bytes) (last_turn t bytes there room number) (part_turn t bytes there room number)
