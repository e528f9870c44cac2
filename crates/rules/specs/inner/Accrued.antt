-- A sum as the function `accrued_sum` answers it: a signed word where it is within its limits, or that it lies beyond them.
use Rattle.std.specs.Prelude.{cond, ℕ, leb, ℤ, nat_abs, Result, Ok, Err}
use Rattle.std.specs.Int.{w64}
use Rattle.std.proofs.Common.{of_z}
use Rattle.rules.specs.Limits.{limit}
use Rattle.rules.specs.declared.refusal.Refusal.{Refusal}
use Rattle.rules.specs.declared.refusal.Refusal.TheVariants.{OverLimit}

abbrev pub accrued_answer : ℤ → Result ℕ Refusal
accrued_answer sum = cond (leb (nat_abs sum) limit) (Ok (of_z w64 sum)) (Err OverLimit)
