-- `is_number` meets its contract: of a word the test is only that it is not 0.
use mathlib.Core.Path.{sym}
use native.Mathlib.Omega.{arith}
use Rattle.rules.proofs.Tests.{word_number}
use Rattle.rules.proofs.fields.is_number.Goals as goal

pub returns : goal.returns
returns c = sym (word_number c.args.number (omega arith))
