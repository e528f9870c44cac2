-- `put_head` meets its contract.
use Rattle.std.proofs.Common.{arith}
use Rattle.log_file.specs.Writer.{head_text}
use Rattle.log_file.proofs.Writing.{wrote-more}
use Rattle.log_file.proofs.texts.Text.put_head.Goals as goal

pub returns : goal.returns
unfolding head_text
returns c = wrote-more (omega arith) c.put_bytes.ensures c.put_word.ensures
