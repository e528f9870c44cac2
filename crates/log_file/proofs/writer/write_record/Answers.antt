-- `write_record` meets its contract: where both tests are passed, the record is written.
use Rattle.std.proofs.Common.{rules, ◌<◌, ◌^◌, sym, ◌∙◌, arith}
use lib.Signed.{mag}
use Rattle.log_file.proofs.Told.{record_done, record_reads}
use Rattle.log_file.proofs.writer.write_record.Goals as goal

pub returns-clause-outcome : goal.returns-clause-outcome
returns-clause-outcome c =
    let a = c.args in
    record_done a.buffer.now a.at a.call (sym c.is_malformed.ensures ∙ c.if-is_malformed.false) (omega arith) c.entry_of.ensures (search rules)

pub returns-clause-record_back : goal.returns-clause-record_back
returns-clause-record_back c =
    let a = c.args in
    let small : mag c.entry_of.result.amount < 2 ^ 63 = search in
    record_reads a.buffer.now a.at a.call (sym c.is_malformed.ensures ∙ c.if-is_malformed.false) (omega arith) c.entry_of.ensures (search rules) (record { sfits = small })
