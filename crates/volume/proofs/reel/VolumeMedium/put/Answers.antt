use Rattle.std.proofs.Common.{◌/◌, false, get_or, sym, refl, ap, ◌∙◌, arith}
use Rattle.medium.proofs.Held.{byte_not_lost}
use Rattle.volume.proofs.Volumes as vol
use Rattle.volume.proofs.Puts.{accepted}
use Rattle.volume.proofs.reel.VolumeMedium.put.Goals as goal

pub invariant_of-self : goal.invariant_of-self
invariant_of-self c =
    let v = c.args.self.now in
    let p = c.in_ok-k.ensures in
    let a = accepted v.bytes.now c.renew.new.bytes c.args.at c.in_ok-k.k c.args.b p.0 p.1 p.2 c.renew.ensures.renewed c.renew.ensures.bound in
    record { truthful = v.truthful ∙ sym a.judged }

pub returns : goal.returns
returns c =
    let v = c.args.self.now in
    let p = c.in_ok-k.ensures in
    let a = accepted v.bytes.now c.renew.new.bytes c.args.at c.in_ok-k.k c.args.b p.0 p.1 p.2 c.renew.ensures.renewed c.renew.ensures.bound in
    let e = vol.size v.bytes.now in
    record {
      put = (omega arith, byte_not_lost _ _ (vol.whole v.bytes.now c.args.at c.in_ok-k.k p.0 p.1 p.2), a.cells);
      kept = record {
        lent = refl;
        judged = refl;
        truthful = λ e. e ∙ sym a.judged;
        size = a.size;
        unread = λ q u. a.unread q (ap (λ f. get_or f (q / 512) false) (sym v.truthful) ∙ u);
      };
    }
