-- `limbs::signed_mul_div` meets its contract: the magnitude's quotient and remainder are the sizes of the share and of what it drops, and take the
-- sign of x where they fit.
use Rattle.std.proofs.Common.{nat_abs, ◌∙◌, arith, w64, to_z}
use Rattle.limbs.proofs.Cases.{exact_read, signed-made, quotient-over, remainder-over, none_over}
use Rattle.limbs.proofs.signed_mul_div.Goals as goal
use Rattle.limbs.proofs.signed_mul_div.Goals.{then-size-gt-MOST-via-then-size-gt-MOST, then-size-gt-MOST-via-else-size-gt-MOST+then-size-gt-MOST-2}

pub returns-in_err-size : goal.returns-in_err-size
returns-in_err-size c = c.from_residual.ensures ∙ none_over (to_z w64 c.args.x) c.args.m c.args.d c.magnitude.result c.magnitude.ensures c.in_err-size.ensures

pub returns-then-size-gt-MOST : goal.returns-then-size-gt-MOST
returns-then-size-gt-MOST c =
    let x = to_z w64 c.args.x in
    let exactly = exact_read c.magnitude.result (nat_abs x) c.args.m c.args.d c.in_ok-size.size c.magnitude.ensures c.in_ok-size.ensures in
    elim c.then-size-gt-MOST.branch [
      | then-size-gt-MOST-via-then-size-gt-MOST w ↦ quotient-over x c.args.m c.args.d c.in_ok-size.size exactly (omega arith)
      | then-size-gt-MOST-via-else-size-gt-MOST+then-size-gt-MOST-2 w ↦
          remainder-over x c.args.m c.args.d c.in_ok-size.size exactly (omega arith) (omega arith)
    ]

pub returns : goal.returns
returns c =
    let x = to_z w64 c.args.x in
    let exactly = exact_read c.magnitude.result (nat_abs x) c.args.m c.args.d c.in_ok-size.size c.magnitude.ensures c.in_ok-size.ensures in
    signed-made x c.args.m c.args.d c.in_ok-size.size c.is_negative-negative.result c.signed.result c.signed-2.result exactly (omega arith) (omega arith) (omega arith) (omega arith)
    c.is_negative-negative.ensures c.signed.ensures c.signed-2.ensures
