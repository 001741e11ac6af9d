-- A walk over the items of a text without anything wrong, to the end of its root, and the document that the text is: each gives the other.
use Rattle.std.proofs.Common.{◌≡◌, ℕ, zero, suc, ◌<◌, ◌⊎◌, List, [], ◌∷◌, Some, None, Option, sym, refl, ap, subst, ⊎_elim, arith}
use Rattle.names.specs.Order.{Text, Name}
use Rattle.items.specs.Tokens.{QName, Piece, chars, Attr, Token, Start, Empty, End, Comment, Instruction, Doctype, Cdata, Words}
use Rattle.items.specs.Grammar.{Item}
use Rattle.xml.specs.Faults.{Front, here, next}
use Rattle.xml.specs.Namespaces.{Scope, base, in_force, element_name, Field, fields}
use Rattle.xml.specs.Document.{Content, nothing, words, element, Document, behind, Contents, Root, LiteralWhite, Around, IsDocument}
use Rattle.xml.specs.Rules.{Frame, Context, building, finished, outside, scope_of, joined, closed, frame_of, opened, passed, after, Wrong, unknown_element, start, empty, second_start, second_empty, unmatched, loose_end, loose_before, loose_after, doctype, cdata, Lacks, Inner}

abbrev Fr : ℕ → Context → Text → ℕ → Context → Text → Type 0
Fr = Front Item after Wrong Inner Lacks

-- what an element holds, put together
joined-nothing : (c : Content) → joined c nothing ≡ c
joined-nothing nothing = refl
joined-nothing (words p t c) = ap (words p t) (joined-nothing c)
joined-nothing (element p n fs i c) = ap (element p n fs i) (joined-nothing c)

pub joined-joined : (c d e : Content) → joined (joined c d) e ≡ joined c (joined d e)
joined-joined nothing d e = refl
joined-joined (words p t c) d e = ap (words p t) (joined-joined c d e)
joined-joined (element p n fs i c) d e = ap (element p n fs i) (joined-joined c d e)

-- an open element in which these bindings are in force, and which holds this so far
abbrev frame : QName → ℕ → Name → List Field → Scope → Content → Frame
frame n p m fs sc c = record { written = n; place = p; name = m; fields = fs; content = c; scope = sc }

-- one walk behind another
pub front_on : {p e f : ℕ} {c d b : Context} {s q r : Text} → Fr p c s e d q → Fr e d q f b r → Fr p c s f b r
front_on here g = g
front_on (next i w) g = next i (front_on w g)

-- Content is walked within its element.
opened_some : (p : ℕ) (gs : List Frame) (n : QName) (as' : List Attr) (m : Name) → element_name (in_force as' (scope_of gs)) n ≡ Some m → after p (building gs) (Start n as') ≡ building (frame_of p n as' (in_force as' (scope_of gs)) m ∷ gs)
opened_some p gs n as' m e = ap (opened p gs n as') e

passed-some : (p : ℕ) (gs : List Frame) (n : QName) (as' : List Attr) (m : Name) → element_name (in_force as' (scope_of gs)) n ≡ Some m → after p (building gs) (Empty n as') ≡ closed (frame_of p n as' (in_force as' (scope_of gs)) m) gs
passed-some p gs n as' m e = ap (passed p gs n as') e

-- a walk from a context that is another
from : {p e : ℕ} {c d b : Context} {s q : Text} → c ≡ b → Fr p b s e d q → Fr p c s e d q
from {p} {e} {c} {d} {b} {s} {q} h w = subst (λ x. Fr p x s e d q) (sym h) w

to : {p e : ℕ} {c d b : Context} {s q : Text} → d ≡ b → Fr p c s e d q → Fr p c s e b q
to {p} {e} {c} {d} {b} {s} {q} h w = subst (λ x. Fr p c s e x q) h w

pub contents_front : (gs : List Frame) (a : QName) (o : ℕ) (b : Name) (fs : List Field) (l : Content) {sc : Scope} {p e : ℕ} {s q : Text} {c : Content} → Contents sc p s c e q → Fr p (building (frame a o b fs sc l ∷ gs)) s e (building (frame a o b fs sc (joined l c) ∷ gs)) q
contents_front gs a o b fs l {sc = sc} Contents.done = to (ap (λ x. building (frame a o b fs sc x ∷ gs)) (sym (joined-nothing l))) here
contents_front gs a o b fs l {sc = sc} (Contents.text {p = p} {a = t} {ps = ps} {c = c} i w) =
    next i (to (ap (λ x. building (frame a o b fs sc x ∷ gs)) (joined-joined l (words p (chars (t ∷ ps)) nothing) c)) (contents_front gs a o b fs (joined l (words p (chars (t ∷ ps)) nothing)) w))
contents_front gs a o b fs l (Contents.comment i w) = next i (contents_front gs a o b fs l w)
contents_front gs a o b fs l (Contents.instruction i w) = next i (contents_front gs a o b fs l w)
contents_front gs a o b fs l (Contents.empty {sc = sc} {p = p} {n = n} {as' = as'} {m = m} {c = c} i k w) =
    let x : Content = element p m (fields (in_force as' sc) as') nothing nothing in
    next i (from (passed-some p (frame a o b fs sc l ∷ gs) n as' m k)
    (to (ap (λ y. building (frame a o b fs sc y ∷ gs)) (joined-joined l x c)) (contents_front gs a o b fs (joined l x) w)))
contents_front gs a o b fs l (Contents.whole {sc = sc} {p = p} {n = n} {as' = as'} {m = m} {c = c} {d = d} i k u j w) =
    let x : Content = element p m (fields (in_force as' sc) as') c nothing in
    next i (from (opened_some p (frame a o b fs sc l ∷ gs) n as' m k)
    (front_on (contents_front (frame a o b fs sc l ∷ gs) n p m (fields (in_force as' sc) as') nothing u)
    (next j (to (ap (λ y. building (frame a o b fs sc y ∷ gs)) (joined-joined l x d)) (contents_front gs a o b fs (joined l x) w)))))

-- The root, and what stands around it.
root-front : {p : ℕ} {s q : Text} {e : ℕ} {d : Document} → Root p s d e q → Fr p outside s e (finished d) q
root-front (Root.empty {p = p} {n = n} {as' = as'} {m = m} i k) = next i (from (passed-some p [] n as' m k) here)
root-front (Root.whole {p = p} {n = n} {as' = as'} {m = m} i k u j) =
    next i (from (opened_some p [] n as' m k) (front_on (contents_front [] n p m (fields (in_force as' base) as') nothing u) (next j here)))

before-front : {p e : ℕ} {s q : Text} → Around p s e q → Fr p outside s e outside q
before-front Around.done = here
before-front (Around.white i l w) = next i (before-front w)
before-front (Around.comment i w) = next i (before-front w)
before-front (Around.instruction i w) = next i (before-front w)

after_front : {d : Document} {p e : ℕ} {s q : Text} → Around p s e q → Fr p (finished d) s e (finished d) q
after_front Around.done = here
after_front (Around.white i l w) = next i (after_front w)
after_front (Around.comment i w) = next i (after_front w)
after_front (Around.instruction i w) = next i (after_front w)

-- the text of a document is walked to its end
pub document-front : (s : Text) (d : Document) → (i : IsDocument s d) → Fr 0 outside s i.close (finished d) []
document-front s d i = front_on (before-front i.before) (front_on (root-front i.root) (after_front i.after))

-- The other way: n items in a row, none of them wrong where it stands.
pub data Fine : ℕ → ℕ → Context → Text → ℕ → Context → Text → Type 0 where
  stop : {p : ℕ} {c : Context} {s : Text} → Fine 0 p c s p c s
  more : {n p e : ℕ} {c d : Context} {s r q : Text} {t : Token} → Item s t r → ((k : ℕ) → Wrong c t k → ⊥) → Fine n (behind p s r) (after p c t) r e d q → Fine (suc n) p c s e d q

-- content up to the end tag of its element, and fewer items behind that
record Ends (n p : ℕ) (gs : List Frame) (a : QName) (o : ℕ) (b : Name) (fs : List Field) (sc : Scope) (l : Content) (s : Text) (e : ℕ) (d : Document) : Type 0 where
  content : Content
  place : ℕ
  there : Text
  behind : Text
  left : ℕ
  fewer : left < n
  contents : Contents sc p s content place there
  end : Item there (End a) behind
  rest : Fine left (Rattle.xml.specs.Document.behind place there behind) (closed (frame a o b fs sc (joined l content)) gs) behind e (finished d) []

-- what is shown by a walk of at most k items
abbrev Ending : ℕ → Type 0
Ending k =
    (n p : ℕ) (gs : List Frame) (a : QName) (o : ℕ) (b : Name) (fs : List Field) (sc : Scope) (l : Content) (s : Text) (e : ℕ) (d : Document) → n < k → Fine n p (building (frame a o b fs sc l ∷ gs)) s e (finished d) [] → Ends n p gs a o b fs sc l s e d

-- a walk from a context that is another
fine_from : {n p e : ℕ} {c d b : Context} {s q : Text} → c ≡ b → Fine n p c s e d q → Fine n p b s e d q
fine_from {n} {p} {e} {c} {d} {b} {s} {q} h w = subst (λ x. Fine n p x s e d q) h w

-- a walk that does not end at once begins with an item
record Item-first (n p : ℕ) (c : Context) (s : Text) (e : ℕ) (d : Context) (q : Text) : Type 0 where
  fewer : ℕ
  token : Token
  behind_it : Text
  count : n ≡ suc fewer
  item : Item s token behind_it
  fine : (k : ℕ) → Wrong c token k → ⊥
  walk : Fine fewer (behind p s behind_it) (after p c token) behind_it e d q

first : {n p e : ℕ} {c d : Context} {s q : Text} → Fine n p c s e d q → (c ≡ d → ⊥) → Item-first n p c s e d q
first stop h = absurd (h refl)
first (more {n = n} {r = r} {t = t} i g w) h =
    record { fewer = n; token = t; behind_it = r; count = refl; item = i; fine = g; walk = w }

unfinished : (gs : List Frame) (d : Document) → building gs ≡ finished d → ⊥
unfinished gs d e = let z : ◌≡◌ {A = ℕ} 0 1 = cc in omega arith

module _ (k n p : ℕ) (gs : List Frame) (a : QName) (o : ℕ) (b : Name) (fs : List Field) (sc : Scope) (l : Content) (s r : Text) (e : ℕ) (d : Document) (lt : suc n < suc k) (rec : Ending k) where
  -- the walk goes on in the same element, which holds x more
  goes_on : (x : Content) → ((c : Content) (f : ℕ) (y : Text) → Contents sc (behind p s r) r c f y → Contents sc p s (joined x c) f y) → Fine n (behind p s r) (building (frame a o b fs sc (joined l x) ∷ gs)) r e (finished d) [] → Ends (suc n) p gs a o b fs sc l s e d
  goes_on x f w =
      let z = rec n (behind p s r) gs a o b fs sc (joined l x) r e d (omega arith) w in
      record {
        content = joined x z.content;
        place = z.place;
        there = z.there;
        behind = z.behind;
        left = z.left;
        fewer = omega (arith, z.fewer);
        contents = f z.content z.place z.there z.contents;
        end = z.end;
        rest = fine_from (ap (λ y. closed (frame a o b fs sc y) gs) (joined-joined l x z.content)) z.rest;
      }

-- What is to be known: whether two names are written alike, and whether a run is white space that stands for itself.
module _ (alike : (m n : QName) → (m ≡ n) ⊎ (m ≡ n → ⊥)) (white : (ps : List Piece) → LiteralWhite ps ⊎ (LiteralWhite ps → ⊥)) where
  module _ (k n p : ℕ) (gs : List Frame) (a : QName) (o : ℕ) (b : Name) (fs : List Field) (sc : Scope) (l : Content) (s r : Text) (e : ℕ) (d : Document) (lt : suc n < suc k) (rec : Ending k) where
    abbrev G : Context
    G = building (frame a o b fs sc l ∷ gs)

    -- an element inside, and what follows it
    inside : (m : QName) (as' : List Attr) (v : Name) → Item s (Start m as') r → element_name (in_force as' sc) m ≡ Some v → Fine n (behind p s r) (building (frame m p v (fields (in_force as' sc) as') (in_force as' sc) nothing ∷ frame a o b fs sc l ∷ gs)) r e (finished d) [] → Ends (suc n) p gs a o b fs sc l s e d
    inside m as' v i q w =
        let z = rec n (behind p s r) (frame a o b fs sc l ∷ gs) m p v (fields (in_force as' sc) as') (in_force as' sc) nothing r e d (omega arith) w in
        let x : Content = element p v (fields (in_force as' sc) as') z.content nothing in
        let y = rec z.left (behind z.place z.there z.behind) gs a o b fs sc (joined l x) z.behind e d (omega (arith, z.fewer)) z.rest in
        record {
          content = joined x y.content;
          place = y.place;
          there = y.there;
          behind = y.behind;
          left = y.left;
          fewer = omega (arith, z.fewer, y.fewer);
          contents = Contents.whole i q z.contents z.end y.contents;
          end = y.end;
          rest = fine_from (ap (λ u. closed (frame a o b fs sc u) gs) (joined-joined l x y.content)) y.rest;
        }

    by_token : (t : Token) → Item s t r → ((j : ℕ) → Wrong G t j → ⊥) → Fine n (behind p s r) (after p G t) r e (finished d) [] → Ends (suc n) p gs a o b fs sc l s e d
    by_token (Start m as') i h w = named (element_name (in_force as' sc) m) refl w
      where
        named : (v : Option Name) → element_name (in_force as' sc) m ≡ v → Fine n (behind p s r) (opened p (frame a o b fs sc l ∷ gs) m as' v) r e (finished d) [] → Ends (suc n) p gs a o b fs sc l s e d
        named None q u = absurd (h 8 (start (unknown_element q)))
        named (Some v) q u = inside m as' v i q u
    by_token (Empty m as') i h w = named (element_name (in_force as' sc) m) refl w
      where
        named : (v : Option Name) → element_name (in_force as' sc) m ≡ v → Fine n (behind p s r) (passed p (frame a o b fs sc l ∷ gs) m as' v) r e (finished d) [] → Ends (suc n) p gs a o b fs sc l s e d
        named None q u = absurd (h 8 (empty (unknown_element q)))
        named (Some v) q u = goes_on k n p gs a o b fs sc l s r e d lt rec (element p v (fields (in_force as' sc) as') nothing nothing) (λ c f y c'. Contents.empty i q c') u
    by_token (End m) i h w = ⊎_elim here' (λ q. absurd (h 6 (unmatched q))) (alike m a)
      where
        here' : m ≡ a → Ends (suc n) p gs a o b fs sc l s e d
        here' q =
            record {
              content = nothing;
              place = p;
              there = s;
              behind = r;
              left = n;
              fewer = omega arith;
              contents = Contents.done;
              end = subst (λ x. Item s (End x) r) q i;
              rest = fine_from (ap (λ u. closed (frame a o b fs sc u) gs) (sym (joined-nothing l))) w;
            }
    by_token Comment i h w = goes_on k n p gs a o b fs sc l s r e d lt rec nothing (λ c f y c'. Contents.comment i c') (fine_from (ap (λ u. building (frame a o b fs sc u ∷ gs)) (sym (joined-nothing l))) w)
    by_token Instruction i h w = goes_on k n p gs a o b fs sc l s r e d lt rec nothing (λ c f y c'. Contents.instruction i c') (fine_from (ap (λ u. building (frame a o b fs sc u ∷ gs)) (sym (joined-nothing l))) w)
    by_token Doctype i h w = absurd (h 7 doctype)
    by_token Cdata i h w = absurd (h 7 cdata)
    by_token (Words t ps) i h w = goes_on k n p gs a o b fs sc l s r e d lt rec (words p (chars (t ∷ ps)) nothing) (λ c f y c'. Contents.text i c') w

  -- content ends with the end tag of its element
  content_ends : (k : ℕ) → Ending k
  content_ends zero n p gs a o b fs sc l s e d lt w = absurd (omega arith)
  content_ends (suc k) n p gs a o b fs sc l s e d lt w =
      let f = first w (unfinished (frame a o b fs sc l ∷ gs) d) in
      subst (λ x. Ends x p gs a o b fs sc l s e d) (sym f.count)
      (by_token k f.fewer p gs a o b fs sc l s f.behind_it e d (omega (arith, f.count)) (content_ends k) f.token f.item f.fine f.walk)

  -- behind the root
  behind-root : (d : Document) {n p e : ℕ} {c w : Context} {s q : Text} (d' : Document) → Fine n p c s e w q → c ≡ finished d → w ≡ finished d' → q ≡ [] → (d ≡ d') × Around p s e []
  behind-root d {p = p} d' stop x y z = let v : d ≡ d' = cc in (v, subst (λ u. Around p u p []) (sym z) Around.done)
  behind-root d {p = p} {e = e} {s = s} d' (more {r = r} {t = t} i h f) x y z =
      let g = behind-root d d' f (ap (λ u. after p u t) x) y z in
      (g.0, by_token_behind t i (λ j v. h j (subst (λ u. Wrong u t j) (sym x) v)) g.1)
    where
      by_token_behind : (t : Token) → Item s t r → ((j : ℕ) → Wrong (finished d) t j → ⊥) → Around (behind p s r) r e [] → Around p s e []
      by_token_behind (Start m as') i h u = absurd (h 6 second_start)
      by_token_behind (Empty m as') i h u = absurd (h 6 second_empty)
      by_token_behind (End m) i h u = absurd (h 6 loose_end)
      by_token_behind Comment i h u = Around.comment i u
      by_token_behind Instruction i h u = Around.instruction i u
      by_token_behind Doctype i h u = absurd (h 7 doctype)
      by_token_behind Cdata i h u = absurd (h 7 cdata)
      by_token_behind (Words a ps) i h u = ⊎_elim (λ v. Around.white i v u) (λ v. absurd (h 6 (loose_after v))) (white (a ∷ ps))

  -- before the root, the root, and what is behind it
  record Parts (p : ℕ) (s : Text) (e : ℕ) (d : Document) : Type 0 where
    start : ℕ
    there : Text
    end : ℕ
    rest : Text
    before : Around p s start there
    root : Root start there d end rest
    after : Around end rest e []

  -- the root begins here
  rooted : (p : ℕ) (s : Text) (e f : ℕ) (r : Text) (d d' : Document) → Root p s d f r → (d ≡ d') × Around f r e [] → Parts p s e d'
  rooted p s e f r d d' t g =
      record { start = p; there = s; end = f; rest = r; before = Around.done; root = subst (λ x. Root p s x f r) g.0 t; after = g.1 }

  -- it begins further on
  further : (p : ℕ) (s : Text) (f : ℕ) (r : Text) (e : ℕ) (d : Document) → ((g : ℕ) (q : Text) → Around f r g q → Around p s g q) → Parts f r e d → Parts p s e d
  further p s f r e d h t =
      record { start = t.start; there = t.there; end = t.end; rest = t.rest; before = h t.start t.there t.before; root = t.root; after = t.after }

  before-token : (n p : ℕ) (s r : Text) (e : ℕ) (d : Document) (t : Token) → Item s t r → ((j : ℕ) → Wrong outside t j → ⊥) → (Fine n (behind p s r) outside r e (finished d) [] → Parts (behind p s r) r e d) → Fine n (behind p s r) (after p outside t) r e (finished d) [] → Parts p s e d
  before-token n p s r e d (Start m as') i h f w = named (element_name (in_force as' base) m) refl w
    where
      named : (v : Option Name) → element_name (in_force as' base) m ≡ v → Fine n (behind p s r) (opened p [] m as' v) r e (finished d) [] → Parts p s e d
      named None q u = absurd (h 8 (start (unknown_element q)))
      named (Some v) q u =
          let z = content_ends (suc n) n (behind p s r) [] m p v (fields (in_force as' base) as') (in_force as' base) nothing r e d (omega arith) u in
          rooted p s e (behind z.place z.there z.behind) z.behind _ d (Root.whole i q z.contents z.end) (behind-root _ d z.rest refl refl refl)
  before-token n p s r e d (Empty m as') i h f w = named (element_name (in_force as' base) m) refl w
    where
      named : (v : Option Name) → element_name (in_force as' base) m ≡ v → Fine n (behind p s r) (passed p [] m as' v) r e (finished d) [] → Parts p s e d
      named None q u = absurd (h 8 (empty (unknown_element q)))
      named (Some v) q u = rooted p s e (behind p s r) r _ d (Root.empty i q) (behind-root _ d u refl refl refl)
  before-token n p s r e d (End m) i h f w = absurd (h 6 (unmatched (λ x. x)))
  before-token n p s r e d Comment i h f w = further p s (behind p s r) r e d (λ g q a. Around.comment i a) (f w)
  before-token n p s r e d Instruction i h f w = further p s (behind p s r) r e d (λ g q a. Around.instruction i a) (f w)
  before-token n p s r e d Doctype i h f w = absurd (h 7 doctype)
  before-token n p s r e d Cdata i h f w = absurd (h 7 cdata)
  before-token n p s r e d (Words a ps) i h f w =
      ⊎_elim (λ v. further p s (behind p s r) r e d (λ g q u. Around.white i v u) (f w)) (λ v. absurd (h 6 (loose_before v))) (white (a ∷ ps))

  parts : (k n p : ℕ) (s : Text) (e : ℕ) (d : Document) → n < k → Fine n p outside s e (finished d) [] → Parts p s e d
  parts zero n p s e d lt w = absurd (omega arith)
  parts (suc k) n p s e d lt w =
      let f = first w (unfinished [] d) in
      before-token f.fewer p s f.behind_it e d f.token f.item f.fine (parts k f.fewer (behind p s f.behind_it) f.behind_it e d (omega (arith, f.count))) f.walk

  -- a text that is walked to its end without anything wrong is that of the document
  pub fine_document : (n e : ℕ) (s : Text) (d : Document) → Fine n 0 outside s e (finished d) [] → IsDocument s d
  fine_document n e s d w =
      let t = parts (suc n) n 0 s e d (omega arith) w in
      record { start = t.start; there = t.there; end = t.end; rest = t.rest; close = e; before = t.before; root = t.root; after = t.after }
