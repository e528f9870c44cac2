-- A turn of the program's loop, and the whole run, where the log's bytes are known: what came is the log's next, and its text is printed.
use Rattle.std.specs.Prelude.{◌≡◌, Option, Result, Ok, Err, List, ℕ, ◌<◌, take, drop}
use Rattle.std.specs.Io.KnownBytes.{Appends, Consumes, IsAtEnd}
use Rattle.books.specs.Words.{Tables}
use Rattle.books.specs.Runs.{run_words}
use Rattle.log_file.specs.Records.{record_bytes}
use Rattle.history.specs.Replays.{calls_of}
use Rattle.history.specs.declared.turns.Position.{Position}
use Rattle.replay.specs.Turns.{Took}
use Rattle.replay.specs.Printed.{records_text}

-- ---- a turn

module _ (t : Tables) (bytes text : List ℕ) (number there : ℕ) (t₁ : Tables) (bytes₁ text₁ : List ℕ) (known left out out₁ : Option (List ℕ)) where
  -- what came is the log's next, and all of it where it is no record; and the turn's text is printed
  pub record Told (next : Option Position) : Type 0 where
    pub took : Took t bytes text number there t₁ bytes₁ text₁ next
    pub came : Consumes known left (drop there (take took.count took.came))
    pub all : took.count < record_bytes → IsAtEnd left
    pub printed : Appends out out₁ (take took.done.printed text₁)

  abbrev pub Telling : {E : Type 0} → Result (Option Position) E → Type 0
  Telling (Ok next) = Told next
  Telling (Err e) = Unit {0}

-- ---- the records of a log, to its end

pub record Ran (t t₁ : Tables) (known left out out₁ : Option (List ℕ)) : Type 0 where
  pub log : List ℕ
  pub came : Consumes known left log
  pub all : IsAtEnd left
  pub words : t₁ ≡ run_words t (calls_of log)
  pub printed : Appends out out₁ (records_text t log)
