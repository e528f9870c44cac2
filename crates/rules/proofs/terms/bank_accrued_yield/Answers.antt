-- `rules::terms::bank_accrued_yield` meets its contract: by the sign of the stake, and then by the yield's answer (`BankedLaws`).
use Rattle.std.proofs.Common.{ℕ, sym, ap, ◌∙◌, arith, w64, to_z}
use Rattle.rules.specs.Terms.{compute_yield, yield_answer}
use Rattle.rules.proofs.BankedLaws.{none-banked, banked-to, banked-over, banked-large}
use Rattle.rules.proofs.terms.bank_accrued_yield.Goals as goal

pub returns-then-is_negative : goal.returns-then-is_negative
returns-then-is_negative c =
    let a = c.args in
    none-banked a.rate a.time (to_z w64 a.stake) a.since a.accrual (sym c.is_negative.ensures ∙ c.if-is_negative.true) (omega arith)

pub returns-in_default : goal.returns-in_default
returns-in_default c =
    let a = c.args in
    banked-large a.rate a.time (to_z w64 a.stake) a.since a.accrual (sym c.is_negative.ensures ∙ c.if-is_negative.false)
    (c.in_default.ensures ∙ ap (λ (n : ℕ). yield_answer (compute_yield (to_z w64 a.stake) a.rate n)) c.elapsed_secs.ensures)

pub returns-then-accrual-earned : goal.returns-then-accrual-earned
returns-then-accrual-earned c =
    let a = c.args in
    banked-over a.rate a.time (to_z w64 a.stake) a.since a.accrual c.in-Some.earned (sym c.is_negative.ensures ∙ c.if-is_negative.false)
    (c.in-Some.ensures ∙ ap (λ (n : ℕ). yield_answer (compute_yield (to_z w64 a.stake) a.rate n)) c.elapsed_secs.ensures) (omega arith) (omega arith)

pub returns : goal.returns
returns c =
    let a = c.args in
    banked-to a.rate a.time (to_z w64 a.stake) a.since a.accrual c.in-Some.earned (sym c.is_negative.ensures ∙ c.if-is_negative.false)
    (c.in-Some.ensures ∙ ap (λ (n : ℕ). yield_answer (compute_yield (to_z w64 a.stake) a.rate n)) c.elapsed_secs.ensures) (omega arith) (omega arith)
