-- `read_record` meets its contract.
use Rattle.std.proofs.Common.{◌≡◌, sym, ap, ◌∙◌}
use Rattle.rules.specs.Step.{malformed}
use Rattle.log_file.specs.Records.{record_of}
use Rattle.log_file.specs.Writer.{record_text}
use Rattle.log_file.proofs.RoundTrip.{record-again}
use Rattle.log_file.proofs.records.read_record.Goals as goal
use Rattle.log_file.proofs.records.read_record.Goals.{After-known_if}

-- the call that was read is the definition's
read : (c : After-known_if) → record { now = c.record_at-r.result.now; signer = record { 0 = c.record_at-r.result.signer }; operation = c.known_if.result } ≡ record_of c.args.bytes.now c.args.at
unfolding record_of
read c = rw (c.known_if.ensures, c.operation_of.ensures, c.record_at-r.ensures)

pub returns-clause-value : goal.returns-clause-value
returns-clause-value c = read c

pub returns-clause-written_back : goal.returns-clause-written_back
returns-clause-written_back c = λ h. ap record_text (read c) ∙ record-again c.args.bytes.now c.args.at (λ i. (c.type_inv.bytes i).fits) c.requires (sym (ap malformed (read c)) ∙ h)
