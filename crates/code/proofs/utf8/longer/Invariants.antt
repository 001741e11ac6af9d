-- The tail bytes before the place have been read.
use Rattle.code.proofs.Forms8.{Behind, Bits}
use Rattle.code.proofs.utf8.longer.Given as goal

abbrev pub invariant-loop-b : goal.invariant-loop-b
invariant-loop-b l = Behind l.bytes l.count l.b-items × Bits l.bytes l.lead l.b-index l.v
