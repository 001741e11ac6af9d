use Rattle.std.proofs.Common.{subst, rules}
use Rattle.std.specs.Iterator.Runs.{ItemsCountUp}
use Rattle.std.proofs.iter.runs.Sources.{range_runs}
use Rattle.packet.specs.Examines.{EndsAt}
use Rattle.packet.proofs.Again.{trailer-ending}
use Rattle.packet.proofs.Searching.{searched}
use Rattle.packet.proofs.examining.trailer_ending.Goals as goal

pub returns : goal.returns
returns g c =
    let end = c.args.end in
    let found = searched _ _ _ c.max-low.result end (EndsAt g.C.TextCode.enc c.args.text.now end) (λ p e. subst (λ r. ItemsCountUp p r.start r.end) e (range_runs p p.seen)) (λ x r h k. (search rules, search rules)) c.find_map.result c.find_map.ensures.runs in
    trailer-ending g.C.TextCode.enc g.C.TextCode.unit g.C.TextCode.laws c.args.text.now c.args.start c.max-low.result end c.find_map.result (search rules) found
