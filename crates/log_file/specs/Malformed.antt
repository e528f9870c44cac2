-- Document 01's list of code 1 over a record: what the cases of Records.antt and the rules' own test come to.
use Rattle.std.specs.Prelude.{Bool, List, ◌∷◌, leb, eqb}
use Rattle.rules.specs.Limits.{last_time, is_number}
use Rattle.rules.specs.Operations.{entry_tests}
use Rattle.log_file.specs.declared.records.Record.{Record}

-- "five zero bytes (else Malformed)", "`now` too large", "number 0 where one is needed (signer, ..", and the needs of the operation's line:
-- "unknown operation, pool or registry reply", "a subject or other in use", "an unused field not 0", "a rate negative or not of pool 3"
unfoldable pub record_tests : Record → List Bool
record_tests r = eqb r.zeros 0 ∷ leb r.now last_time ∷ is_number r.signer ∷ entry_tests r.fields
