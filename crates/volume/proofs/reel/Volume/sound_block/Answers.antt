use Rattle.std.proofs.Common.{◌*◌, ◌<◌, length, sym, refl, ◌∙◌, arith}
use Rattle.volume.specs.Blocks.{blocks}
use Rattle.volume.proofs.Volumes as vol
use Rattle.volume.proofs.Verdicts.{at}
use Rattle.volume.proofs.reel.Volume.sound_block.Goals as goal

pub bounds-self-k : goal.bounds-self-k
bounds-self-k c =
    let bs = c.args.self.now.bytes.now in
    let e = vol.size bs in
    (vol.within (length bs) c.args.at (omega arith)).1

pub returns-then-self-k : goal.returns-then-self-k
returns-then-self-k c =
    let v = c.args.self.now in
    let e = vol.size v.bytes.now in
    let h : c.args.at < 508 * blocks v.bytes.now = omega arith in
    (refl, h, sym (at v.sound _ _ v.truthful (vol.within (length v.bytes.now) c.args.at h).0) ∙ c.if-self-k.true)

pub returns-else-self-k : goal.returns-else-self-k
returns-else-self-k c =
    let v = c.args.self.now in
    let e = vol.size v.bytes.now in
    let h : c.args.at < 508 * blocks v.bytes.now = omega arith in
    (refl, omega arith, vol.broken v.bytes.now c.args.at h (sym (at v.sound _ _ v.truthful (vol.within (length v.bytes.now) c.args.at h).0) ∙ c.if-self-k.false))
