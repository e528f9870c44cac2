-- The tables that a log's head begins.
use Rattle.std.specs.Prelude.{Option, Some, None, List, ℕ}
use Rattle.rules.specs.declared.Account.{Account}
use Rattle.rules.specs.Answers.{Malformed}
use Rattle.books.specs.Words.{Tables}
use Rattle.books.specs.Fresh.{Renewed, renewed, fresh_words}
use Rattle.log_file.specs.Opening.{head_of}

-- "A fresh set makes the empty tables that a history of calls begins from"; of a bad head there is none
abbrev pub opened_by : Tables → Option Account → Renewed
opened_by t (Some admin) = fresh_words t admin
opened_by t None = renewed Malformed t

unfoldable pub opened : Tables → List ℕ → Renewed
opened t head = opened_by t (head_of head)
