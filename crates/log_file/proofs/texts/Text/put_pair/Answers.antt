-- `put_pair` meets its contract: the second number is written behind the first.
use Rattle.std.proofs.Common.{arith}
use Rattle.log_file.proofs.Writing.{wrote-more}
use Rattle.log_file.proofs.texts.Text.put_pair.Goals as goal

pub returns-clause-wrote : goal.returns-clause-wrote
returns-clause-wrote c = wrote-more (omega arith) c.put_number.ensures.wrote c.put_number-2.ensures.wrote
