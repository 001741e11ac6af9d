use Rattle.std.proofs.Common.{◌≡◌, ◌+◌, length, take}
use Rattle.text.specs.Stands.{Stands, bytes_of}
use Rattle.text.proofs.reading.Text.word_at.Given as goal

abbrev pub invariant-loop-c : goal.invariant-loop-c
invariant-loop-c g l =
    Stands g.C.TextCode.enc l.self l.at (take l.c-index l.word)
    × (l.behind ≡ l.at + length (bytes_of g.C.TextCode.enc (take l.c-index l.word)))
