-- `write_answer` meets its contract: what a result tells is written; a refusal has no transfers.
use Rattle.std.proofs.Common.{◌<◌, ◌^◌, ap₂}
use lib.IntN.{ℤ}
use lib.Signed.{mag}
use Rattle.whole.proofs.Words.{number-back}
use Rattle.rules.specs.Answers.{due}
use Rattle.log_file.specs.Lines.{told_text}
use Rattle.log_file.proofs.Writing.{wrote_as}
use Rattle.log_file.proofs.texts.Text.write_answer.Goals as goal

pub returns-in-Ok-clause-wrote : goal.returns-in-Ok-clause-wrote
returns-in-Ok-clause-wrote c =
    let d = c.in-Ok.done in
    let small : mag d.first < 2 ^ 63 = search in
    let low : mag d.second < 2 ^ 63 = search in
    rw c.in-Ok.is (wrote_as (ap₂ (λ (x y : ℤ). told_text c.args.number 0 x y (due d.one) (due d.two)) (number-back d.first (record { sfits = small })) (number-back d.second (record { sfits = low }))) c.write_told.ensures.wrote)

pub returns-in-Err-clause-wrote : goal.returns-in-Err-clause-wrote
returns-in-Err-clause-wrote c = rw (c.in-Err.is, ← c.code.ensures.value) c.write_told-in-Err.ensures.wrote
