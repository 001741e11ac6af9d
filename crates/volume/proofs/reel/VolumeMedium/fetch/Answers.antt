use Rattle.std.proofs.Common.{◌≡◌, ℕ, ◌+◌, ◌*◌, ◌%◌, get_or, subst, arith}
use Rattle.medium.specs.Cells.{byte, lost}
use Rattle.volume.specs.Blocks.{volume_cells}
use Rattle.volume.proofs.Volumes as vol
use Rattle.volume.proofs.reel.VolumeMedium.fetch.Goals as goal

pub returns : goal.returns
returns c =
    let bs = c.args.self.now.bytes.now in
    let e = vol.size bs in
    let p = c.in_ok-k.ensures in
    let k = c.in_ok-k.k in
    let i : 512 * k + c.args.at % 508 ≡ c.args.at + 4 * k = omega arith in
    (omega arith, subst (λ (j : ℕ). get_or (volume_cells bs) c.args.at lost ≡ byte (get_or bs j 0)) i (vol.whole bs c.args.at k p.0 p.1 p.2))
