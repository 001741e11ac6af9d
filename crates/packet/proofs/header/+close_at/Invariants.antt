use Rattle.packet.proofs.header.+close_at.Given as goal

abbrev pub decreases-close_at : goal.decreases-close_at
decreases-close_at g l = l.left
