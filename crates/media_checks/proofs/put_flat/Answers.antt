use Rattle.std.proofs.Common.{ap, drop, ◌∙◌, sym, rules}
use Rattle.medium.specs.Cells.{flat_cells}
use Rattle.medium.specs.Access.{Put, Replaced}
use Rattle.medium.proofs.Held.{after-put}
use Rattle.media_checks.proofs.Moved.{ended, from_start}
use Rattle.media_checks.proofs.put_flat.Goals as goal

pub returns : goal.returns
returns c =
    let bs = c.args.bytes.now in
    let zs = c.put.new.self.bytes.now in
    let r = c.put.result in
    let h = c.new.ensures.holds in
    let k = sym (c.put.ensures.kept.lent ∙ c.new.ensures.lends) in
    let p = from_start _ (flat_cells bs) (flat_cells zs) _ _ r (ap flat_cells h) c.put.ensures.put in
    record {
      put = ended (λ xs. Put (flat_cells bs) c.args.at c.args.b (flat_cells xs) r) zs (search rules) p;
      bytes = ended (λ xs. Replaced bs c.args.at c.args.b xs r) zs (search rules) (after-put bs zs _ _ r p (c.put.ensures.kept.beyond ∙ ap (drop 1048576) h));
    }
