-- `put_signed` meets its contract: by the number's sign, its magnitude.
use Rattle.std.proofs.Common.{List, ℕ, ℤ, pos, ap, sym, ◌∙◌, ◌∷◌, arith}
use lib.IntN.{nat_abs}
use lib.Signed.{lt_z}
use Rattle.std.specs.Fmt.{decimal}
use Rattle.whole.proofs.Words.{number-back}
use Rattle.log_file.specs.Lines.{followed}
use Rattle.log_file.proofs.Digits.{signed-negative, signed-other}
use Rattle.log_file.proofs.Writing.{wrote_as, wrote-more}
use Rattle.log_file.proofs.texts.Text.put_signed.Goals as goal

pub returns-then-number-lt0-clause-wrote : goal.returns-then-number-lt0-clause-wrote
returns-then-number-lt0-clause-wrote c =
    let a = c.args in
    let same = number-back a.number c.ranges.number in
    let sign = sym (ap (λ (z : ℤ). lt_z z (pos 0)) same) ∙ c.if-number-lt0.true in
    let e = ap (λ (n : ℕ). 45 ∷ decimal n) (c.unsigned_abs.ensures.value ∙ ap nat_abs same) ∙ sym (signed-negative a.number sign) in
    wrote_as (ap (λ (l : List ℕ). followed l a.end) e) (wrote-more (omega arith) c.put_bytes.ensures c.put_number.ensures.wrote)

pub returns-clause-wrote : goal.returns-clause-wrote
returns-clause-wrote c =
    let a = c.args in
    let same = number-back a.number c.ranges.number in
    let sign = sym (ap (λ (z : ℤ). lt_z z (pos 0)) same) ∙ c.if-number-lt0.false in
    let e = ap decimal (c.unsigned_abs-2.ensures.value ∙ ap nat_abs same) ∙ sym (signed-other a.number sign) in
    wrote_as (ap (λ (l : List ℕ). followed l a.end) e) c.put_number-2.ensures.wrote
