-- What a caller goes on with after a part of a log; all of it follows from what the part comes to.
use Rattle.std.specs.Prelude.{◌≡◌, true, IfSome, List, ℕ, ◌+◌, ◌*◌, ◌≤◌, ◌<◌, length}
use Rattle.books.specs.Words.{Tables, good_tables}
use Rattle.log_file.specs.Records.{record_bytes}
use Rattle.log_file.specs.Lines.{longest}
use Rattle.history.specs.declared.Progress.{Progress}
use Rattle.history.specs.declared.turns.Turn.{Turn}

pub record Bounded (t : Tables) (records room : List ℕ) (number : ℕ) (p : Progress) : Type 0 where
  pub good : good_tables t ≡ true
  pub taken : p.taken ≤ length records
  pub printed : p.printed ≤ length room
  pub counted : record_bytes * p.number ≡ record_bytes * number + p.taken
  -- where there is a whole record, and room, one runs
  pub some : record_bytes ≤ length records → longest ≤ length room → number < p.number

-- after a turn
pub record Onward (t : Tables) (there : ℕ) (room : List ℕ) (number : ℕ) (r : Turn) : Type 0 where
  pub good : good_tables t ≡ true
  pub left : r.place.there ≤ there
  pub printed : r.printed ≤ length room
  -- a turn that is not the last has run a record, and leaves no more bytes than were there
  pub next : IfSome r.next (λ p. (p.there ≤ there) × (number < p.number))
