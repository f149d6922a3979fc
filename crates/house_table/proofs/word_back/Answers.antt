-- `word_back`: the opcode's number, exchanged for what the inverse has there. Assumes nothing.
use Rattle.house_table.proofs.Inverse.{by_opcode}
use Rattle.house_table.proofs.word_back.Goals as goal

pub returns : goal.returns
returns c = by_opcode c.args.inverse.now c.args.word c.at_or.result (cc) (cc) (cc)
