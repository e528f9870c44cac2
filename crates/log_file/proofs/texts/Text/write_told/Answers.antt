-- `write_told` meets its contract: the line and the two transfers are written one behind the other.
use Rattle.std.proofs.Common.{◌<◌, ◌^◌, ap₂, arith}
use lib.Signed.{mag}
use Rattle.whole.proofs.Words.{number-back}
use Rattle.log_file.specs.Lines.{figures_text}
use Rattle.log_file.proofs.Writing.{wrote_as, wrote-more}
use Rattle.log_file.proofs.texts.Text.write_told.Goals as goal

pub returns-clause-wrote : goal.returns-clause-wrote
returns-clause-wrote c =
    let a = c.args in
    let small : mag a.first < 2 ^ 63 = search in
    let low : mag a.second < 2 ^ 63 = search in
    let line = wrote_as (ap₂ (figures_text a.number a.code) (number-back a.first (record { sfits = small })) (number-back a.second (record { sfits = low }))) c.write_line.ensures.wrote in
    wrote-more (omega arith) (wrote-more (omega arith) line c.write_transfer.ensures.wrote) c.write_transfer-2.ensures.wrote
