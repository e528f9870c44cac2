-- `write_line` meets its contract: its four numbers are written one behind the other.
use Rattle.std.proofs.Common.{ℤ, ◌^◌, ◌<◌, ap, arith}
use lib.Signed.{mag}
use Rattle.std.specs.Fmt.{signed_decimal}
use Rattle.whole.proofs.Words.{number-back}
use Rattle.log_file.specs.Lines.{space, newline, followed}
use Rattle.log_file.proofs.Writing.{wrote_as, wrote-more}
use Rattle.log_file.proofs.texts.Text.write_line.Goals as goal

pub returns-clause-wrote : goal.returns-clause-wrote
returns-clause-wrote c =
    let a = c.args in
    let small : mag a.first < 2 ^ 63 = search in
    let low : mag a.second < 2 ^ 63 = search in
    let first = wrote_as (ap (λ (z : ℤ). followed (signed_decimal z) space) (number-back a.first (record { sfits = small }))) c.put_signed.ensures.wrote in
    let second = wrote_as (ap (λ (z : ℤ). followed (signed_decimal z) newline) (number-back a.second (record { sfits = low }))) c.put_signed-2.ensures.wrote in
    wrote-more (omega arith) (wrote-more (omega arith) (wrote-more (omega arith) c.put_number.ensures.wrote c.put_number-2.ensures.wrote) first) second
