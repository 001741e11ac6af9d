use Rattle.std.proofs.Common.{arith}
use Rattle.code.proofs.Forms8.{one_found}
use Rattle.code.proofs.utf8.Utf8TextCode.decode.Goals as goal

pub returns-in-0-to-127 : goal.returns-in-0-to-127
returns-in-0-to-127 c = one_found c.args.bytes.now c.from.result (omega arith) c.from.ensures (omega arith)
