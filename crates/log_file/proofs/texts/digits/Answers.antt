-- `digits` meets its contract: by the power of ten that a number reaches (`digits-are`).
use Rattle.std.proofs.Common.{sym, arith}
use Rattle.itoa.proofs.Decimal.{length_one}
use Rattle.log_file.proofs.Digits.{digits-are}
use Rattle.log_file.proofs.texts.digits.Goals as goal

pub returns-then-number-eq0-clause-count : goal.returns-then-number-eq0-clause-count
returns-then-number-eq0-clause-count c = sym (length_one c.args.number (omega arith))

pub returns-clause-count : goal.returns-clause-count
returns-clause-count c = (digits-are c.ilog10.result c.args.number c.ilog10.ensures.power_le c.ilog10.ensures.next_power_gt (omega arith))
