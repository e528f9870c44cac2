-- `limbs::mul_div` meets its contract: by what `product` and `quotient::divide` ensure, its two answers are the two cases of `mul_div`.
use Rattle.std.proofs.Common.{arith}
use Rattle.limbs.proofs.Cases.{too_large}
use Rattle.limbs.proofs.mul_div.Goals as goal

pub returns-else-p-d : goal.returns-else-p-d
returns-else-p-d c =
    let p = c.before.before in
    too_large _ _ c.args.d p.product-p.result.high p.product-p.result.low p.product-p.ensures (omega arith)
