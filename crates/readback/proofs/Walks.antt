-- Good markup is walked without anything wrong, and what is read is what it means.
use Rattle.std.proofs.Common.{◌≡◌, ℕ, suc, ◌+◌, ◌<◌, ◌≤◌, List, [], ◌∷◌, ◌++◌, length, Some, sym, refl, ap, ◌∙◌, subst, ap₂, append_assoc, arith}
use Rattle.std.specs.List.{AllByRecursion}
use Rattle.std.proofs.ByRecursion.{All-weaker}
use Rattle.characters.specs.Spelling.{spellings}
use Rattle.characters.specs.declared.escapes.Where.TheVariants.{Content as Running}
use Rattle.names.specs.Order.{Text, Name}
use Rattle.names.specs.Xml.{XmlText}
use Rattle.items.specs.Tokens.{QName, Piece, chars, Attr, Start, End, Words}
use Rattle.items.specs.Grammar.{Stops}
use Rattle.markup.specs.Elements.{Attribute, Markup, nothing, words, element, start_tag, end_tag, markup_text, opened}
use Rattle.markup.specs.Clean.{XmlMarkup}
use Rattle.xml.specs.Namespaces.{Scope, base, in_force, element_name, fields}
use Rattle.xml.specs.Document.{Content, nothing as nothing', words as words', element as element', Document, behind}
use Rattle.xml.specs.Rules.{Frame, Context, building, finished, outside, document_of, scope_of, joined, grown, frame_of, opened as opened', Wrong, WrongTag, start, unmatched}
use Rattle.xml.proofs.Documents.{joined-joined}
use Rattle.xml.proofs.Least.{stay}
use Rattle.readback.specs.Meaning.{Plain, none, said, held, plain, plain_document, name_of, or_none, fields_by, meaning}
use Rattle.readback.proofs.Pieces.{piece, pieces, chars-pieces, text_item}
use Rattle.readback.proofs.Tags.{attrs_of, start_item, end_item}
use Rattle.readback.proofs.Good.{FineTag, Tagged, Good, in_force_lem, fields-by, fine_tag}
use Rattle.readback.proofs.Ways.{Way, step, way_on, no_inner, pieces-xml, attrs_xml}

-- what an element holds, put together
joined-nothing : (c : Content) → joined c nothing' ≡ c
joined-nothing nothing' = refl
joined-nothing (words' p t c) = ap (words' p t) (joined-nothing c)
joined-nothing (element' p n fs i c) = ap (element' p n fs i) (joined-nothing c)

abbrev holding : Frame → Content → Frame
holding g c = record { written = g.written; place = g.place; name = g.name; fields = g.fields; content = c; scope = g.scope }

grown-nothing : (g : Frame) → grown g nothing' ≡ g
grown-nothing g = ap (holding g) (joined-nothing g.content)

grown-grown : (g : Frame) (c d : Content) → grown (grown g c) d ≡ grown g (joined c d)
grown-grown g c d = ap (holding g) (joined-joined g.content c d)

-- items that are not wrong where they stand
fine_start : (gs : List Frame) (n : QName) (as' : List Attr) → ((k : ℕ) → WrongTag gs n as' k → ⊥) → (k : ℕ) → Wrong (building gs) (Start n as') k → ⊥
fine_start gs n as' f k (start h) = f k h

fine_end : (g : Frame) (gs : List Frame) (k : ℕ) → Wrong (building (g ∷ gs)) (End g.written) k → ⊥
fine_end g gs k (unmatched h) = h refl

fine_words : (g : Frame) (gs : List Frame) (a : Piece) (ps : List Piece) (k : ℕ) → Wrong (building (g ∷ gs)) (Words a ps) k → ⊥
fine_words g gs a ps k h = elim h [ ]

-- a walk from the place p, with s to come and g the innermost open element, to where r is to come: what g then holds besides
pub record Walked (g : Frame) (gs : List Frame) (p : ℕ) (s r : Text) (m : Plain) : Type 0 where
  pub content : Content
  pub place : ℕ
  pub way : Way p (building (g ∷ gs)) s place (building (grown g content ∷ gs)) r
  pub says : plain content ≡ m

-- the frame of an element that begins at p
abbrev pub begun : ℕ → Text → List Attribute → Scope → Name → Frame
begun p n as' sc m = frame_of p (name_of n) (attrs_of as') (in_force (attrs_of as') sc) m

-- a start tag opens its element
pub tag_opens : (gs : List Frame) (p : ℕ) (n : Text) (as' : List Attribute) (s : Text) {e : ℕ} {d : Context} {q : Text} (f : FineTag (scope_of gs) n as') → length gs < 32 → AllByRecursion (λ a. XmlText a.value) as'
    → Way (behind p (start_tag n as' ++ s) s) (building (begun p n as' (scope_of gs) f.means ∷ gs)) s e d q → Way p (building gs) (start_tag n as' ++ s) e d q
tag_opens gs p n as' s {e} {d} {q} f l x w =
    step (start_item n as' s f.name f.names) (fine_start gs (name_of n) (attrs_of as') (fine_tag gs n as' f l)) (no_inner (Start (name_of n) (attrs_of as')) (attrs_xml as' _ x))
    (subst (λ o. Way (behind p (start_tag n as' ++ s) s) (opened' p gs (name_of n) (attrs_of as') o) s e d q) (sym f.known) w)

-- what an element means, by its own name, its fields and its content
pub element_means : (sc : Scope) (n : Text) (as' : List Attribute) (c r : Markup) (m : Name) → element_name (in_force (attrs_of as') sc) (name_of n) ≡ Some m
    → held m (fields (in_force (attrs_of as') sc) (attrs_of as')) (meaning (in_force (attrs_of as') sc) c) (meaning sc r) ≡ meaning sc (element n as' c r)
unfolding meaning
element_means sc n as' c r m e =
    ap₂ (λ x fs. held (or_none x) fs (meaning (in_force (attrs_of as') sc) c) (meaning sc r)) (sym e) (fields-by (in_force (attrs_of as') sc) as')
    ∙ ap (λ x. held (or_none (element_name x (name_of n))) (fields_by x as') (meaning x c) (meaning sc r)) (in_force_lem sc as')

regroup : (a b c d r : Text) → a ++ (b ++ (c ++ d)) ++ r ≡ a ++ (b ++ (c ++ (d ++ r)))
regroup a b c d r = simp append_assoc

-- a text, and what follows it
text_walked : (g : Frame) (gs : List Frame) (p c : ℕ) (t s r : Text) (m : Plain) → Stops s → XmlText (c ∷ t)
    → Walked (grown g (words' p (chars (pieces Running (c ∷ t))) nothing')) gs (behind p (spellings Running (c ∷ t) ++ s) s) s r m → Walked g gs p (spellings Running (c ∷ t) ++ s) r (said (c ∷ t) m)
text_walked g gs p c t s r m h x w =
    let y : Content = words' p (chars (pieces Running (c ∷ t))) nothing' in
    record {
      content = joined y w.content;
      place = w.place;
      way = step (text_item c t s h) (fine_words g gs (piece Running c) (pieces Running t)) (no_inner (Words (piece Running c) (pieces Running t)) (pieces-xml 0 Running (c ∷ t) x))
          (subst (λ z. Way (behind p (spellings Running (c ∷ t) ++ s) s) (building (grown g y ∷ gs)) s w.place (building (z ∷ gs)) r) (grown-grown g y w.content) w.way);
      says = ap₂ said (chars-pieces Running (c ∷ t)) w.says;
    }

-- an element, and what follows it
module _ (g : Frame) (gs : List Frame) (p : ℕ) (n : Text) (as' : List Attribute) (c r : Markup) (s b q : Text) (f : FineTag g.scope n as') where
  abbrev inner : Frame
  inner = begun p n as' g.scope f.means

  element_walked : suc (length gs) < 32 → AllByRecursion (λ a. XmlText a.value) as'
      → (u : Walked inner (g ∷ gs) (behind p (start_tag n as' ++ (s ++ (end_tag n ++ b))) (s ++ (end_tag n ++ b))) (s ++ (end_tag n ++ b)) (end_tag n ++ b) (meaning inner.scope c))
      → Walked (grown g (element' p f.means inner.fields u.content nothing')) gs (behind u.place (end_tag n ++ b) b) b q (meaning g.scope r)
      → Walked g gs p (start_tag n as' ++ (s ++ (end_tag n ++ b))) q (meaning g.scope (element n as' c r))
  element_walked l x u w =
      let y : Content = element' p f.means inner.fields u.content nothing' in
      record {
        content = joined y w.content;
        place = w.place;
        way = tag_opens (g ∷ gs) p n as' (s ++ (end_tag n ++ b)) f l x
            (way_on u.way
            (step (end_item n b f.name) (fine_end (grown inner u.content) (g ∷ gs)) (no_inner (End (name_of n)) tt)
            (subst (λ z. Way (behind u.place (end_tag n ++ b) b) (building (grown g y ∷ gs)) b w.place (building (z ∷ gs)) q) (grown-grown g y w.content) w.way)));
        says = ap₂ (held f.means inner.fields) u.says w.says ∙ element_means g.scope n as' c r f.means f.known;
      }

-- a text is followed by a tag or by what stops it
tagged-stops : (m : Markup) (r : Text) → Tagged m → Stops r → Stops (markup_text m ++ r)
unfolding markup_text
tagged-stops nothing r h k = k
tagged-stops (words t m) r h k = absurd h
tagged-stops (element n as' c m) r h k = refl

pub values_xml : (as' : List Attribute) → AllByRecursion (λ a. XmlText a.name × XmlText a.value) as' → AllByRecursion (λ a. XmlText a.value) as'
values_xml as' h = All-weaker _ _ (λ a k. k.1) as' h

pub markup_walked : (m : Markup) (g : Frame) (gs : List Frame) (p : ℕ) (r : Text) → Good g.scope m → XmlMarkup m → suc (length gs) + opened m ≤ 32 → Stops r → Walked g gs p (markup_text m ++ r) r (meaning g.scope m)
unfolding markup_text meaning
markup_walked nothing g gs p r h x l k =
    record { content = nothing'; place = p; way = subst (λ z. Way p (building (g ∷ gs)) r p (building (z ∷ gs)) r) (sym (grown-nothing g)) stay; says = refl }
markup_walked (words [] m) g gs p r h x l k = absurd (h.0 refl)
markup_walked (words (c ∷ t) m) g gs p r h x l k =
    subst (λ s. Walked g gs p s r (said (c ∷ t) (meaning g.scope m))) (sym (append_assoc (spellings Running (c ∷ t)) (markup_text m) r))
    (text_walked g gs p c t (markup_text m ++ r) r (meaning g.scope m) (tagged-stops m r h.1 k) x.0 (markup_walked m _ gs _ r h.2 x.1 l k))
markup_walked (element n as' c m) g gs p r h x l k =
    let b : Text = markup_text m ++ r in
    let u = markup_walked c (begun p n as' g.scope h.0.means) (g ∷ gs) (behind p (start_tag n as' ++ (markup_text c ++ (end_tag n ++ b))) (markup_text c ++ (end_tag n ++ b))) (end_tag n ++ b) h.1 x.2 (omega arith) refl in
    subst (λ s. Walked g gs p s r (meaning g.scope (element n as' c m))) (sym (regroup (start_tag n as') (markup_text c) (end_tag n) (markup_text m) r))
    (element_walked g gs p n as' c m (markup_text c) b r h.0 (omega arith) (values_xml as' x.1) u (markup_walked m _ gs _ r h.2 x.3 (omega arith) k))

-- a good root is walked to its document, with r to come behind it
pub record Rooted (s r : Text) (m : Markup) : Type 0 where
  pub document : Document
  pub place : ℕ
  pub way : Way 0 outside s place (finished document) r
  pub says : plain_document document ≡ meaning base m

pub root_walked : (n : Text) (as' : List Attribute) (c : Markup) (r : Text) → Good base (element n as' c nothing) → XmlMarkup (element n as' c nothing) → opened (element n as' c nothing) ≤ 32
    → Rooted (markup_text (element n as' c nothing) ++ r) r (element n as' c nothing)
unfolding markup_text meaning
root_walked n as' c r h x l =
    let f = h.0 in
    let s : Text = markup_text c ++ (end_tag n ++ r) in
    let g : Frame = begun 0 n as' base f.means in
    let u = markup_walked c g [] (behind 0 (start_tag n as' ++ s) s) (end_tag n ++ r) h.1 x.2 (omega arith) refl in
    record {
      document = document_of (grown g u.content);
      place = behind u.place (end_tag n ++ r) r;
      way = subst (λ z. Way 0 outside z (behind u.place (end_tag n ++ r) r) (finished (document_of (grown g u.content))) r) (sym (regroup (start_tag n as') (markup_text c) (end_tag n) [] r))
          (tag_opens [] 0 n as' s f (omega arith) (values_xml as' x.1)
          (way_on u.way (step (end_item n r f.name) (fine_end (grown g u.content) []) (no_inner (End (name_of n)) tt) stay)));
      says = ap (λ z. held f.means g.fields z none) u.says ∙ element_means base n as' c nothing f.means f.known;
    }
