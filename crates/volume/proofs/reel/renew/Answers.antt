use Rattle.std.proofs.Common.{◌≡◌, [], ◌∷◌, ◌+◌, ◌-◌, ◌*◌, ◌/◌, ◌%◌, ◌≤◌, length, take, drop, set, ap, ◌∙◌, arith, rules, length-set}
use Rattle.volume.specs.Blocks.{check_of, data_at}
use Rattle.volume.specs.Renewed.{sealed}
use Rattle.volume.proofs.Sealing.{checked-as}
use Rattle.volume.proofs.reel.renew.Goals as goal

pub returns : goal.returns
unfolding sealed
returns c =
    let s = 512 * c.args.k in
    let bs = set c.args.bytes.now (s + c.args.i) c.args.b in
    let t : (s + 508) - s ≡ 508 = omega arith in
    let e : c.weigh.result ≡ check_of (data_at bs c.args.k) = c.weigh.ensures ∙ ap (λ n. check_of (take n (drop s bs))) t in
    let h : s + 512 ≤ length bs = simp length-set (omega arith) in
    let n = c.weigh.result in
    let four : c.copy_from_slice.new.self ≡ (n / 16777216 % 256) ∷ (n / 65536 % 256) ∷ (n / 256 % 256) ∷ (n % 256) ∷ [] = search rules in
    record { renewed = checked-as bs c.args.k n _ _ h four e; bound = omega arith }
