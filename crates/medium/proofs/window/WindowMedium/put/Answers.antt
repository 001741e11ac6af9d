use Rattle.std.proofs.Common.{◌<◌, length, refl, arith, rules}
use Rattle.medium.specs.Cells.{window}
use Rattle.medium.proofs.Windows as win
use Rattle.medium.proofs.window.WindowMedium.put.Goals as goal

pub returns : goal.returns
returns g c =
    let w = c.args.self.now in
    let cs = g.M.Medium.cells w.inner in
    let h : c.args.at < length (window w.from w.len cs) = omega arith in
    let e : win.Renamed c.put.result c.args.at c.map_err.result = search rules in
    let u = win.replaced cs (g.M.Medium.cells c.put.new.self) _ _ _ _ _ c.put.ensures.put e in
    record {
      put = win.put_in w.from w.len cs _ _ _ _ _ h c.put.ensures.put e;
      kept = record {
        from = refl;
        len = refl;
        inner = c.put.ensures.kept;
        before = win.before w.from w.len cs _ _ _ _ u;
        behind = win.behind w.from w.len cs _ _ _ _ h u;
      };
      under = u;
    }
