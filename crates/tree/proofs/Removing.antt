-- After an accepted remove the tree is lawful, the node is gone, and later items have moved down.
use Rattle.std.proofs.Common.{◌≡◌, false, [], ◌∷◌, Some, None, Ok, Option, refl, ap, ◌∙◌, subst}
use Rattle.std.proofs.lemmas.Bool.{true≢false, cond-true}
use Rattle.tree.specs.Tree.{Node, Tree, is_structure}
use Rattle.tree.specs.Lawful.{Row, Fields, Items, Qualifiers, Lawful}
use Rattle.tree.specs.Paths.{Step, name, number, qualifier, Path, unsuited, vacant, stands, met_name, meet, top, standing, lookup, replace, altered}
use Rattle.tree.specs.Calls.{ending, is_new, remove}
use Rattle.tree.specs.Edits.{AfterRemove, Named, head_of}
use Rattle.names.proofs.Never.{never}
use Rattle.tree.proofs.Meetings.{met_field}
use Rattle.tree.proofs.Walking.{Leads, walk-leads, meet-first, way, moved}
use Rattle.tree.proofs.Rows.{LawfulOne, find-gone}
use Rattle.tree.proofs.Keeping.{row_at, fields-lawful, meet-lawful, none_put, top-lawful, with-lawful}
use Rattle.tree.proofs.Judging.{judged-on, judged-end, upon-on, lookup-on, first-name}
use Rattle.tree.proofs.Calling.{top-altered, get-altered}
use Rattle.tree.proofs.Shrinking.{within-without}

-- where a name led, there is a free place now
meet-gone : (k : Row) (s : Step) (v u : Node) → LawfulOne k v → Named s → meet s v ≡ stands u → meet s (replace s None v) ≡ vacant
meet-gone k (name n) v u l y e =
    let t = (met_field n v u e).0 in
    cond-true (is_structure v.head.form) _ unsuited t ∙ ap met_name (find-gone Fields tt n v.parts (fields-lawful k v l t))
meet-gone k (number i) v u l y e = absurd y
meet-gone k (qualifier n) v u l y e = ap met_name (find-gone Qualifiers tt n v.qualifiers l.1)

leads_gone : (k : Row) (s : Step) (ss : Path) (v u : Node) → LawfulOne k v → Named (ending (s ∷ ss))
    → Leads s ss v (stands u) → Leads s ss (altered s ss None v) vacant
leads_gone k s [] v u l y e = meet-gone k s v u l y e
leads_gone k s (s' ∷ ss) v u l y e =
    (altered s' ss None e.0, meet-first s s' ss None v e.0 e.1, leads_gone (row_at s) s' ss e.0 u (meet-lawful k s v e.0 l e.1) y e.2)

stood : (o : Option Node) → is_new o ≡ false → (u : Node) × (o ≡ Some u)
stood None e = absurd (true≢false e)
stood (Some u) e = (u, refl)

pub after-remove : (t t' : Tree) (p : Path) → Lawful t → remove t p ≡ Ok t' → AfterRemove t p t'
after-remove t t' [] l e = never cc
after-remove t t' (s ∷ ss) l e =
    let a = upon-on (lookup t (s ∷ ss)) _ t' e in
    let b = lookup-on t s ss a.0 a.1 in
    let i = judged-on _ _ _ _ t' a.2 in
    let u = stood a.0 i.0 in
    let d : Leads s ss (top t) (stands u.0) = walk-leads 1 s ss (top t) (Some u.0) (b.1 ∙ ap Ok u.1) in
    subst (AfterRemove t (s ∷ ss)) (judged-end _ t' i.1)
    (record {
      lawful =
          record {
            about = l.about;
            properties = with-lawful t s ss None (stands u.0) l.properties b.0 d tt (none_put (ending (s ∷ ss)));
            limits = within-without t (s ∷ ss) l.properties l.limits;
          };
      gone = λ g. get-altered t s ss None None b.0 (leads_gone Items s ss (top t) u.0 (top-lawful t l.properties) g d);
      about = refl;
      way = λ q a. ap (λ v. head_of (standing q v)) (top-altered t s ss None (first-name s ss b.0))
          ∙ way q (s ∷ ss) a None (top t) (stands u.0) d;
      elsewhere = λ q q' m. ap (standing q) (top-altered t s ss None (first-name s ss b.0)) ∙ moved (s ∷ ss) q q' m (top t) u.0 d;
    })
