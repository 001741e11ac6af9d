use Rattle.packet.proofs.Once.{one_answer}
use Rattle.packet.proofs.finding.find_has_one_answer.Goals as goal

pub returns : goal.returns
returns c = one_answer
