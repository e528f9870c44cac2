-- `write_ending` meets its contract: the two numbers are written behind the word.
use Rattle.std.proofs.Common.{arith}
use Rattle.log_file.proofs.Writing.{wrote-more}
use Rattle.log_file.proofs.texts.Text.write_ending.Goals as goal

pub returns-clause-wrote : goal.returns-clause-wrote
returns-clause-wrote c = wrote-more (omega arith) c.put_bytes.ensures c.put_pair.ensures.wrote
