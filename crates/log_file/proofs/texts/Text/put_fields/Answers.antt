-- `put_fields` meets its contract: the first word and the five behind it are written one behind the other.
use Rattle.std.proofs.Common.{◌++◌, ◌^◌, ◌≤◌, ◌<◌, length, w64, of_z, ap, ◌∙◌, arith}
use lib.Signed.{mag}
use Rattle.whole.proofs.Words.{number-back}
use Rattle.log_file.specs.Bytes.{bytes_of}
use Rattle.log_file.specs.Written.{Wrote}
use Rattle.log_file.specs.Writer.{first_text}
use Rattle.log_file.proofs.Writing.{wrote_as, wrote-more, wrote-length}
use Rattle.log_file.proofs.texts.Text.put_fields.Goals as goal
use Rattle.log_file.proofs.texts.Text.put_fields.Goals.{After-put_word-4}

-- all but the amount
before : (c : After-put_word-4) → let a = c.args in Wrote a.self.now (first_text a.e.number a.e.pool a.e.reply ++ bytes_of 8 a.time ++ bytes_of 8 a.signer ++ bytes_of 8 a.e.subject ++ bytes_of 8 a.e.other) c.put_word-4.new.self
before c =
    let a = c.args in
    let room : a.self.now.at ≤ length a.self.now.bytes.now = omega arith in
    wrote-more room
    (wrote-more room
    (wrote-more room
    (wrote-more room c.put_first.ensures c.put_word.ensures) c.put_word-2.ensures) c.put_word-3.ensures) c.put_word-4.ensures

pub put_word-requires-5 : goal.put_word-requires-5
put_word-requires-5 c =
    let w = before (goal.at.put_word-requires-5 c).After-put_word-4 in
    omega (arith, w.place, wrote-length w (omega arith))

pub returns : goal.returns
returns c =
    let a = c.args in
    let small : mag a.e.amount < 2 ^ 63 = search in
    let word = c.to_word.ensures ∙ ap (of_z w64) (number-back a.e.amount (record { sfits = small })) in
    wrote-more (omega arith) (before (goal.at.returns c).After-put_word-4) (wrote_as (ap (bytes_of 8) word) c.put_word-5.ensures)
