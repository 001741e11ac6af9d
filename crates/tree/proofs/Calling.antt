-- A tree in which a call changed what stands at the end of a path.
use Rattle.std.proofs.Common.{◌≡◌, true, [], ◌∷◌, Some, None, Ok, Option, sym, refl, ap, ◌∙◌, subst}
use Rattle.std.proofs.lemmas.Bool.{false≢true}
use Rattle.tree.specs.Tree.{Node, Tree}
use Rattle.tree.specs.Lawful.{Lawful, Within}
use Rattle.tree.specs.Paths.{Step, name, number, qualifier, Path, is_name, first_wrong, Meeting, unsuited, beyond, vacant, stands, met_name, meet}
use Rattle.tree.specs.Paths.{top, standing, walk, rebuilt, replace, altered, with_at}
use Rattle.tree.specs.Calls.{ending, label_at, answered, upon, get}
use Rattle.tree.specs.Edits.{ElseSame, head_of}
use Rattle.tree.proofs.Steps.{Labels}
use Rattle.tree.proofs.Meetings.{Free, meet-label}
use Rattle.tree.proofs.Walking.{Leads, walk-leads, leads_walk, leads_standing, there, way, elsewhere}
use Rattle.tree.proofs.Rows.{LawfulOne}
use Rattle.tree.proofs.Keeping.{row_at, lawful_put, with-lawful}
use Rattle.tree.proofs.Judging.{on_lookup, first-name}

-- the walk through an altered tree is that through the altered node
pub top-altered : (t : Tree) (s : Step) (ss : Path) (w : Option Node) → is_name s ≡ true → top (with_at t (s ∷ ss) w) ≡ altered s ss w (top t)
top-altered t (name n) [] w e = refl
top-altered t (name n) (s' ∷ ss) w e = go (meet (name n) (top t))
  where
    after : Meeting → Node
    after m = rebuilt m (top t) (λ u. replace (name n) (Some (altered s' ss w u)) (top t))

    go : (m : Meeting) → top (record { about = t.about; properties = (after m).parts }) ≡ after m
    go unsuited = refl
    go beyond = refl
    go vacant = refl
    go (stands u) = refl
top-altered t (number k) ss w e = absurd (false≢true e)
top-altered t (qualifier n) ss w e = absurd (false≢true e)

-- what get answers of a node, or of a free place, to which the path then leads
pub get-altered : (t : Tree) (s : Step) (ss : Path) (w o : Option Node) → first_wrong 1 (s ∷ ss) ≡ None
    → Leads s ss (altered s ss w (top t)) (met_name o) → get (with_at t (s ∷ ss) w) (s ∷ ss) ≡ Ok (answered o)
get-altered t s ss w o z e =
    let d = subst (λ v. Leads s ss v (met_name o)) (sym (top-altered t s ss w (first-name s ss z))) e in
    ap (λ r. upon r (λ v. Ok (answered v))) (on_lookup (with_at t (s ∷ ss) w) s ss o z (leads_walk 1 s ss (top (with_at t (s ∷ ss) w)) o d))

-- the free place or the node at the end of a walk
pub met_name-free : (o : Option Node) → Free (met_name o)
met_name-free None = tt
met_name-free (Some u) = tt

pub leads_label : (s : Step) (ss : Path) (v u : Node) → Leads s ss v (stands u) → Labels (ending (s ∷ ss)) u.head.label
leads_label s [] v u e = meet-label s v u e
leads_label s (s' ∷ ss) v u e = leads_label s' ss e.0 u e.2

pub new_label : (s : Step) → Labels s (label_at s)
new_label (name n) = refl
new_label (number k) = tt
new_label (qualifier n) = refl

-- what is known of an accepted call that puts the node w at the end of a path
pub record Accepted (t : Tree) (s : Step) (ss : Path) (o : Option Node) (w : Node) : Type 0 where
  pub lawful : Lawful t
  pub formed : first_wrong 1 (s ∷ ss) ≡ None
  pub walk : walk 1 s ss (top t) ≡ Ok o
  pub node : LawfulOne (row_at (ending (s ∷ ss))) w
  pub label : Labels (ending (s ∷ ss)) w.head.label
  pub within : Within (with_at t (s ∷ ss) (Some w))

module _ (t : Tree) (s : Step) (ss : Path) (o : Option Node) (w : Node) (c : Accepted t s ss o w) where
  leads : Leads s ss (top t) (met_name o)
  leads = walk-leads 1 s ss (top t) o c.walk

  same-top : top (with_at t (s ∷ ss) (Some w)) ≡ altered s ss (Some w) (top t)
  same-top = top-altered t s ss (Some w) (first-name s ss c.formed)

  pub put_lawful : Lawful (with_at t (s ∷ ss) (Some w))
  put_lawful =
      record {
        about = c.lawful.about;
        properties = with-lawful t s ss (Some w) (met_name o) c.lawful.properties c.formed leads (met_name-free o)
            (lawful_put (ending (s ∷ ss)) w c.node c.label);
        limits = c.within;
      }

  put_leads : Leads s ss (altered s ss (Some w) (top t)) (stands w)
  put_leads = there s ss w (top t) (met_name o) leads (met_name-free o) c.label

  pub put_standing : standing (s ∷ ss) (top (with_at t (s ∷ ss) (Some w))) ≡ Some w
  put_standing = ap (standing (s ∷ ss)) same-top ∙ leads_standing s ss (altered s ss (Some w) (top t)) (Some w) put_leads

  pub put_answer : get (with_at t (s ∷ ss) (Some w)) (s ∷ ss) ≡ Ok (Some (w.head.form, w.head.value))
  put_answer = get-altered t s ss (Some w) (Some w) c.formed put_leads

  pub put_others : ElseSame t (s ∷ ss) (with_at t (s ∷ ss) (Some w))
  put_others =
      record {
        about = refl;
        way = λ q a. ap (λ v. head_of (standing q v)) same-top ∙ way q (s ∷ ss) a (Some w) (top t) (met_name o) leads;
        elsewhere = λ q a. ap (standing q) same-top ∙ elsewhere (s ∷ ss) q a w (top t) (met_name o) leads (met_name-free o) c.label;
      }
