-- A turn of the program's loop, and the whole run: what they come to over the bytes that came. Which bytes those are is the input's.
use Rattle.std.specs.Prelude.{◌≡◌, Option, Some, None, Result, Ok, Err, OnOk, List, ◌⊎◌, ℕ, ◌/◌, ◌%◌, ◌≤◌, length, take}
use Rattle.books.specs.Words.{Tables}
use Rattle.books.specs.Runs.{run_words}
use Rattle.log_file.specs.Records.{record_bytes}
use Rattle.log_file.specs.Lines.{ending_text}
use Rattle.history.specs.declared.turns.Position.{Position}
use Rattle.history.specs.declared.turns.Turn.{Turn}
use Rattle.history.specs.Replays.{calls_of}
use Rattle.history.specs.Bounds.{Onward}
use Rattle.history.specs.Turns.{turned, turn_of}
use Rattle.replay.specs.Buffers.{Grown}

-- ---- a turn

module _ (t : Tables) (bytes text : List ℕ) (number there : ℕ) (t₁ : Tables) (bytes₁ text₁ : List ℕ) where
  -- bytes came behind those that were there, and history's turn was taken over all of them
  pub record Took (next : Option Position) : Type 0 where
    pub came : List ℕ
    pub count : ℕ
    pub grown : Grown bytes there came count
    pub done : Turn
    pub is : turned done t₁ bytes₁ text₁ ≡ turn_of t came count text number
    pub goes : done.next ≡ next
    pub onward : Onward t₁ count text number done

  -- the log goes on where that turn left it
  pub record Goes (p : Position) : Type 0 where
    pub took : Took (Some p)
    pub within : p.there ≤ length bytes

  -- it goes on or ends; or a read failed and nothing ran, or the turn's text was not written
  abbrev pub Turning : {E : Type 0} → Result (Option Position) E → Type 0
  Turning (Ok (Some p)) = Goes p
  Turning (Ok None) = Took None
  Turning (Err e) = (t₁ ≡ t) ⊎ ((next : Option Position) × Took next)

-- ---- a run: the tables are those after the records of the log that came; at its end the text is the ending

pub record Finished {E : Type 0} (t t₁ : Tables) (text₁ : List ℕ) (ended : Result Unit E) : Type 0 where
  pub log : List ℕ
  pub words : t₁ ≡ run_words t (calls_of log)
  pub ending : OnOk ended (let last = ending_text (length log / record_bytes) (length log % record_bytes) in take (length last) text₁ ≡ last)
