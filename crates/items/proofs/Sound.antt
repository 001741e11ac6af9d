-- Whatever the scanner finds is an item of the grammar.
use Rattle.std.proofs.Common.{◌≡◌, ℕ, ◌+◌, Bool, true, false, cond, ◌||◌, eqb, ◌≢◌, ◌⊎◌, List, [], ◌∷◌, ◌++◌, length, Some, None, codes, Option, sym, refl, ap, ◌∙◌, subst, subst₂, inl, inr, ⊎_elim, append_assoc, append-nil, arith, length-append}
use Rattle.std.proofs.lemmas.Bool.{eqb-true, eqb-false, or_cases}
use Rattle.std.proofs.ByRecursion.{All-push}
use Rattle.characters.specs.Classes.{is_white, is_name}
use Rattle.names.specs.Order.{Text}
use Rattle.items.specs.Tokens.{QName, written, NcName, IsQName, Piece, Attr, Token, Start, Empty, End, Comment, Instruction, Doctype, Cdata, Words}
use Rattle.items.specs.Grammar.{Each, no_more, next, White, Space, InText, InValue, InComment, NoCdataEnd, is_xml_word, NoInstructionEnd, IsAttr, attribute, IsTag, start, empty, end, comment, instruction, doctype, cdata, Stops, Item, tag, run}
use Rattle.items.specs.Scan.{q_name, referred, has_cdata_end, is_char_of_name, Tag, Begun, Mode, content, content_reference, angle, opening, between, gap, naming, named, equals, value, value_reference, emptied, slash, ending, ended, bang, word, bang_hyphen, comment_hyphen, comment_end, question, target, data', data_question, target_end, Move, on, ends, before, wrong, with, run_ends, tag_of, with_attr, longer, in_tag, move, last_run, at_end, moved, scan, item}
use Rattle.items.proofs.Options.{none_some, same-inside}
use Rattle.items.proofs.Names.{reads-name}
use Rattle.items.proofs.References.{taken_refers}
use Rattle.items.proofs.Runs.{clean_run, no_end_nil, no_end_cons, same_head, nil_cons}

-- Things spelt one after the other, and one more behind them.
each-push : {A : Type 0} {R : Text → A → Type 0} {s a : Text} {x : A} {xs : List A} → Each R s xs → R a x → Each R (s ++ a) (xs ++ (x ∷ []))
each-push {R = R} {a = a} {x = x} no_more r = subst (λ b. Each R b (x ∷ [])) (append-nil a) (next r no_more)
each-push {R = R} {a = b} {x = x} (next {a = a} {s = s} {x = y} {xs = ys} q e) r =
    subst (λ t. Each R t (y ∷ (ys ++ (x ∷ [])))) (sym (append_assoc a s b)) (next q (each-push e r))

each_nil : {A : Type 0} {R : Text → A → Type 0} {s : Text} → Each R s [] → s ≡ []
each_nil no_more = refl

-- Texts in other brackets.
regroup_right : (a b c d : Text) → a ++ (b ++ c) ++ d ≡ a ++ (b ++ (c ++ d))
regroup_right a b c d = simp append_assoc

regroup_left : (a b c d : Text) → a ++ b ++ c ++ d ≡ a ++ (b ++ (c ++ d))
regroup_left a b c d = simp append_assoc

-- What was read behind `p`: pieces; or pieces, then `&` and the text `r`.
record Read (R : Text → Piece → Type 0) (p : Text) (ps : List Piece) (q : Text) : Type 0 where
  text : Text
  is : q ≡ p ++ text
  each : Each R text ps

record Reading (R : Text → Piece → Type 0) (p : Text) (ps : List Piece) (r q : Text) : Type 0 where
  text : Text
  is : q ≡ p ++ (text ++ (38 ∷ r))
  each : Each R text ps

module _ {R : Text → Piece → Type 0} {p : Text} {ps : List Piece} {q : Text} where
  read_more : {a : Text} {x : Piece} → Read R p ps q → R a x → Read R p (ps ++ (x ∷ [])) (q ++ a)
  read_more {a} h r = record { text = h.text ++ a; is = ap (λ s. s ++ a) h.is ∙ append_assoc p h.text a; each = each-push h.each r }

  read-ampersand : Read R p ps q → Reading R p ps [] (q ++ (38 ∷ []))
  read-ampersand h = record { text = h.text; is = ap (λ s. s ++ (38 ∷ [])) h.is ∙ append_assoc p h.text (38 ∷ []); each = h.each }

  reading_more : {r : Text} (c : ℕ) → Reading R p ps r q → Reading R p ps (r ++ (c ∷ [])) (q ++ (c ∷ []))
  reading_more {r} c h = record { text = h.text; is = ap (λ s. s ++ (c ∷ [])) h.is ∙ regroup_right p h.text (38 ∷ r) (c ∷ []); each = h.each }

  reading_ends : {r : Text} {x : Piece} → Reading R p ps r q → R (38 ∷ (r ++ (59 ∷ []))) x → Read R p (ps ++ (x ∷ [])) (q ++ (59 ∷ []))
  reading_ends {r} h k =
      record { text = h.text ++ (38 ∷ (r ++ (59 ∷ []))); is = ap (λ s. s ++ (59 ∷ [])) h.is ∙ regroup_right p h.text (38 ∷ r) (59 ∷ []); each = each-push h.each k }

-- What was read of a start tag: `<`, its name and its attributes.
record Tagged (t : Tag) (q : Text) : Type 0 where
  attrs : Text
  is : q ≡ 60 ∷ (written t.name ++ attrs)
  known : IsQName t.name
  each : Each IsAttr attrs t.attrs

tagged-more : {t : Tag} {x a : Text} {y : Attr} → Tagged t x → IsAttr a y → Tagged (record { name = t.name; attrs = t.attrs ++ (y ∷ []) }) (x ++ a)
tagged-more {t} {a = a} h i =
    record { attrs = h.attrs ++ a; is = ap (λ s. s ++ a) h.is ∙ append_assoc (60 ∷ written t.name) h.attrs a; known = h.known; each = each-push h.each i }

-- and behind that a text of some kind
record Under (t : Tag) (P : Text → Type 0) (q : Text) : Type 0 where
  front : Text
  back : Text
  is : q ≡ front ++ back
  tagged : Tagged t front
  holds : P back

under : {t : Tag} {P : Text → Type 0} {q : Text} (a : Text) → Tagged t q → P a → Under t P (q ++ a)
under {q = q} a h p = record { front = q; back = a; is = refl; tagged = h; holds = p }

under_more : {t : Tag} {P Q : Text → Type 0} {q : Text} (a : Text) → Under t P q → ((b : Text) → P b → Q (b ++ a)) → Under t Q (q ++ a)
under_more a h f =
    record { front = h.front; back = h.back ++ a; is = ap (λ s. s ++ a) h.is ∙ append_assoc h.front h.back a; tagged = h.tagged; holds = f h.back h.holds }

under_as : {t : Tag} {P Q : Text → Type 0} {q : Text} → Under t P q → ((b : Text) → P b → Q b) → Under t Q q
under_as h f = record { front = h.front; back = h.back; is = h.is; tagged = h.tagged; holds = f h.back h.holds }

under_close : {t : Tag} {q : Text} → Under t White q → IsTag (q ++ (62 ∷ [])) (Start t.name t.attrs) × IsTag (q ++ (47 ∷ 62 ∷ [])) (Empty t.name t.attrs)
under_close {t} {q} h =
    let g = h.tagged in
    let z = h.back in
    let w = 60 ∷ written t.name in
    let regroup : (e : Text) → w ++ (g.attrs ++ (z ++ e)) ≡ q ++ e = λ e. sym (ap (λ s. s ++ e) (h.is ∙ ap (λ s. s ++ z) g.is) ∙ regroup_left w g.attrs z e) in (
      subst (λ s. IsTag s (Start t.name t.attrs)) (regroup (62 ∷ [])) (start t.name z g.known g.each h.holds),
      subst (λ s. IsTag s (Empty t.name t.attrs)) (regroup (47 ∷ 62 ∷ [])) (empty t.name z g.known g.each h.holds),
    )

-- The head of an attribute as far as it was read, by what makes it one: behind its name; behind `=`; in its value.
abbrev Quote : ℕ → Type 0
Quote q = (q ≡ 34) ⊎ (q ≡ 39)

abbrev Gap : ℕ → Text → Type 0
Gap k y = Space y × (k ≡ length y)

abbrev Named : Begun → Text → Type 0
Named b h = (z w v : Text) (q : ℕ) (ps : List Piece) → White z → White w → Quote q → Each (InValue q) v ps
    → IsAttr (h ++ (z ++ (61 ∷ (w ++ (q ∷ (v ++ (q ∷ []))))))) (record { lead = b.lead + length z + 1 + length w + 1; name = b.name; value = ps })

abbrev Equalled : Begun → Text → Type 0
Equalled b h = (w v : Text) (q : ℕ) (ps : List Piece) → White w → Quote q → Each (InValue q) v ps
    → IsAttr (h ++ (w ++ (q ∷ (v ++ (q ∷ []))))) (record { lead = b.lead + length w + 1; name = b.name; value = ps })

abbrev Opens : Begun → ℕ → Text → Type 0
Opens b q h = (v : Text) (ps : List Piece) → Each (InValue q) v ps → IsAttr (h ++ (v ++ (q ∷ []))) (record { lead = b.lead; name = b.name; value = ps })

attr_as : {s u : Text} {k l : ℕ} {n : QName} {ps : List Piece} → s ≡ u → k ≡ l
    → IsAttr s (record { lead = k; name = n; value = ps }) → IsAttr u (record { lead = l; name = n; value = ps })
attr_as {n = n} {ps = ps} e f i = subst₂ (λ s k. IsAttr s (record { lead = k; name = n; value = ps })) e f i

behind : (q : Text) (c : ℕ) (s : Text) → q ++ (c ∷ s) ≡ (q ++ (c ∷ [])) ++ s
behind q c s = sym (append_assoc q (c ∷ []) s)

space_white : (y : Text) → Space y → White y
space_white [] h = absurd h
space_white (c ∷ y) h = h

space_push : (y : Text) (c : ℕ) → Space y → is_white c ≡ true → Space (y ++ (c ∷ []))
space_push [] c h w = absurd h
space_push (d ∷ y) c h w = (h.0, All-push _ y c h.1 w)

named_first : (k : ℕ) (n y : Text) (m : QName) → IsQName m → n ≡ written m → Gap k y → Named (record { lead = k + length n; name = m }) (y ++ n)
named_first k n y m i e g z w v q ps wz ww h es =
    let rest = z ++ (61 ∷ (w ++ (q ∷ (v ++ (q ∷ []))))) in
    attr_as (ap (λ u. y ++ (u ++ rest)) (sym e) ∙ sym (append_assoc y n rest)) (omega (arith, g.1, ap length e))
    (attribute y z w m q g.0 i wz ww h es)

module _ (b : Begun) (h : Text) where
  named_white : (c : ℕ) → is_white c ≡ true → Named b h → Named (longer b) (h ++ (c ∷ []))
  named_white c e g z w v q ps wz ww k es = attr_as (behind h c _) (omega arith) (g (c ∷ z) w v q ps (e, wz) ww k es)

  named_equals : Named b h → Equalled (longer b) (h ++ (61 ∷ []))
  named_equals g w v q ps ww k es = attr_as (behind h 61 _) (omega arith) (g [] w v q ps tt ww k es)

  equalled_white : (c : ℕ) → is_white c ≡ true → Equalled b h → Equalled (longer b) (h ++ (c ∷ []))
  equalled_white c e g w v q ps ww k es = attr_as (behind h c _) (omega arith) (g (c ∷ w) v q ps (e, ww) k es)

  equalled_quote : (q : ℕ) → Quote q → Equalled b h → Opens (longer b) q (h ++ (q ∷ []))
  equalled_quote q k g v ps es = attr_as (behind h q _) (omega arith) (g [] v q ps tt k es)

-- the end of a value
value-ends : {t : Tag} {b : Begun} {q : ℕ} {p s : Text} {ps : List Piece} → Under t (Opens b q) p → Read (InValue q) p ps s → Tagged (with_attr t b ps) (s ++ (q ∷ []))
value-ends {t} {b} {q} {ps = ps} u h =
    subst (Tagged (with_attr t b ps)) (sym (ap (λ x. x ++ (q ∷ [])) (h.is ∙ ap (λ x. x ++ h.text) u.is) ∙ regroup_left u.front u.back h.text (q ∷ [])))
    (tagged-more u.tagged (u.holds h.text ps h.each))

-- What each mode says of the text read so far: what it is made of, or what it becomes by what may come.
abbrev InMode : Mode → Text → Type 0
InMode (content ps) q = Read InText [] ps q
InMode (content_reference ps r) q = Reading InText [] ps r q
InMode angle q = q ≡ 60 ∷ []
InMode (opening n) q = q ≡ 60 ∷ n
InMode (between t) q = Tagged t q
InMode (gap t k) q = Under t (Gap k) q
InMode (naming t k n) q = (p : Text) × (q ≡ p ++ n) × Under t (Gap k) p
InMode (named t b) q = Under t (Named b) q
InMode (equals t b) q = Under t (Equalled b) q
InMode (value t b c ps) q = (p : Text) × Under t (Opens b c) p × Read (InValue c) p ps q
InMode (value_reference t b c ps r) q = (p : Text) × Under t (Opens b c) p × Reading (InValue c) p ps r q
InMode (emptied t) q = IsTag (q ++ (62 ∷ [])) (Empty t.name t.attrs)
InMode slash q = q ≡ 60 ∷ 47 ∷ []
InMode (ending n) q = q ≡ 60 ∷ 47 ∷ n
InMode (ended n) q = (z : Text) → White z → IsTag (q ++ (z ++ (62 ∷ []))) (End n)
InMode bang q = q ≡ 60 ∷ 33 ∷ []
InMode (word w t) q = IsTag (q ++ w) t
InMode bang_hyphen q = q ≡ 60 ∷ 33 ∷ 45 ∷ []
InMode Mode.comment q = (s t : Text) → Each InComment s t → IsTag (q ++ (s ++ (45 ∷ 45 ∷ 62 ∷ []))) Comment
InMode comment_hyphen q =
    ((c : ℕ) (s t : Text) → c ≢ 45 → Each InComment s t → IsTag (q ++ (c ∷ (s ++ (45 ∷ 45 ∷ 62 ∷ [])))) Comment) × IsTag (q ++ (45 ∷ 62 ∷ [])) Comment
InMode comment_end q = IsTag (q ++ (62 ∷ [])) Comment
InMode question q = q ≡ 60 ∷ 63 ∷ []
InMode (target n) q = (q ≡ 60 ∷ 63 ∷ n) × NcName n
InMode data' q = (t : Text) → NoInstructionEnd t → IsTag (q ++ (t ++ (63 ∷ 62 ∷ []))) Instruction
InMode data_question q =
    ((t : Text) → NoInstructionEnd (63 ∷ t) → IsTag (q ++ (t ++ (63 ∷ 62 ∷ []))) Instruction) × IsTag (q ++ (62 ∷ [])) Instruction
InMode target_end q = IsTag (q ++ (62 ∷ [])) Instruction

abbrev IsRun : Text → Token → Type 0
IsRun q t = (p : Piece) × (ps : List Piece) × (t ≡ Words p ps) × Each InText q (p ∷ ps) × NoCdataEnd (p ∷ ps)

-- What a move says of what was read, the character `c` with it.
abbrev Fact : Text → ℕ → Move → Type 0
Fact q c (on m) = InMode m (q ++ (c ∷ []))
Fact q c (ends t) = IsTag (q ++ (c ∷ [])) t
Fact q c (before t) = IsRun q t × (c ≡ 60)
Fact q c wrong = Unit {0}

record Holds (q : Text) (c : ℕ) (v : Move) : Type 0 where
  fact : Fact q c v

module _ {q : Text} {c : ℕ} where
  choose : (b : Bool) {x y : Move} → (b ≡ true → Holds q c x) → (b ≡ false → Holds q c y) → Holds q c (cond b x y)
  choose true f g = f refl
  choose false f g = g refl

  -- a character that is `k`, or not
  is : (k : ℕ) {x y : Move} → (c ≡ k → Holds q c x) → (c ≢ k → Holds q c y) → Holds q c (cond (eqb c k) x y)
  is k f g = choose (eqb c k) (λ e. f (eqb-true c k e)) (λ e. g (eqb-false c k e))

  given : {A : Type 0} (o : Option A) {f : A → Move} → ((a : A) → o ≡ Some a → Holds q c (f a)) → Holds q c (with o f)
  given None g = record { fact = tt }
  given (Some a) g = g a refl

  stays : {m : Mode} → InMode m (q ++ (c ∷ [])) → Holds q c (on m)
  stays h = record { fact = h }

  done : {t : Token} → IsTag (q ++ (c ∷ [])) t → Holds q c (ends t)
  done h = record { fact = h }

  fails : Holds q c wrong
  fails = record { fact = tt }

  -- the same with the character known
  stays_at : {k : ℕ} {m : Mode} → c ≡ k → InMode m (q ++ (k ∷ [])) → Holds q c (on m)
  stays_at {m = m} e h = record { fact = subst (λ d. InMode m (q ++ (d ∷ []))) (sym e) h }

  done_at : {k : ℕ} {t : Token} → c ≡ k → IsTag (q ++ (k ∷ [])) t → Holds q c (ends t)
  done_at {t = t} e h = record { fact = subst (λ d. IsTag (q ++ (d ∷ [])) t) (sym e) h }

-- what becomes an item by `c` and `s` does so, behind `c`, by `s`
tag_behind : (q : Text) (c : ℕ) (s : Text) {t : Token} → IsTag (q ++ (c ∷ s)) t → IsTag ((q ++ (c ∷ [])) ++ s) t
tag_behind q c s {t} i = subst (λ u. IsTag u t) (behind q c s) i

push : {q p : Text} (c : ℕ) → q ≡ p → q ++ (c ∷ []) ≡ p ++ (c ∷ [])
push c e = ap (λ s. s ++ (c ∷ [])) e

nc_push : (n : Text) (c : ℕ) → NcName n → is_name false c ≡ true → NcName (n ++ (c ∷ []))
nc_push [] c h e = absurd h
nc_push (d ∷ n) c h e = (h.0, All-push _ n c h.1 e)

quote_of : (c : ℕ) → (eqb c 34 || eqb c 39) ≡ true → Quote c
quote_of c e = ⊎_elim (λ f. inl (eqb-true c 34 f)) (λ f. inr (eqb-true c 39 f)) (or_cases (eqb c 34) (eqb c 39) e)

-- The steps that modes have in common: at the end of a start tag, behind a name or an attribute, behind the name of an attribute,
-- behind the name of an end tag, at the end of a run.
closes : (t : Tag) (q : Text) (c : ℕ) {v : Move} → Under t White q → Holds q c v → Holds q c (cond (eqb c 62) (ends (Start t.name t.attrs)) (cond (eqb c 47) (on (emptied t)) v))
closes t q c h k =
    is 62 (λ e. done_at e (under_close h).0) λ _.
    is 47 (λ e. stays_at e (tag_behind q 47 (62 ∷ []) (under_close h).1)) (λ _. k)

in_tag_lem : (t : Tag) (q : Text) (c : ℕ) → Tagged t q → Holds q c (in_tag t c)
in_tag_lem t q c h =
    closes t q c (subst (Under t White) (append-nil q) (under [] h tt))
    (choose (is_white c) (λ w. stays (under (c ∷ []) h ((w, tt), refl))) (λ _. fails))

in_named : (t : Tag) (b : Begun) (q : Text) (c : ℕ) → Under t (Named b) q → Holds q c (move (named t b) c)
in_named t b q c h =
    is 61 (λ e. stays_at e (under_more (61 ∷ []) h (named_equals b))) λ _.
    choose (is_white c) (λ w. stays (under_more (c ∷ []) h (λ y. named_white b y c w))) (λ _. fails)

in_ended : (n : QName) (q : Text) (c : ℕ) → InMode (ended n) q → Holds q c (move (ended n) c)
in_ended n q c h =
    is 62 (λ e. done_at e (h [] tt)) λ _.
    choose (is_white c) (λ w. stays (λ z u. tag_behind q c (z ++ (62 ∷ [])) (h (c ∷ z) (w, u)))) (λ _. fails)

run_of : {p : Piece} {ps : List Piece} {q : Text} → Read InText [] (p ∷ ps) q → has_cdata_end (p ∷ ps) ≡ false → IsRun q (Words p ps)
run_of {p} {ps} h e = (p, ps, refl, subst (λ s. Each InText s (p ∷ ps)) (sym h.is) h.each, clean_run (p ∷ ps) e)

run_stops : (ps : List Piece) (q : Text) (c : ℕ) → Read InText [] ps q → c ≡ 60 → Holds q c (run_ends ps)
run_stops [] q c h e = stays_at e (push 60 (h.is ∙ each_nil h.each))
run_stops (p ∷ ps) q c h e = choose (has_cdata_end (p ∷ ps)) (λ _. fails) (λ f. record { fact = (run_of h f, e) })

-- Every step keeps what the modes say.
steps : (m : Mode) (q : Text) (c : ℕ) → InMode m q → Holds q c (move m c)
steps (content ps) q c h =
    is 38 (λ e. stays_at e (read-ampersand h)) λ x.
    is 60 (run_stops ps q c h) λ y. stays (read_more h (InText.itself c x y))
steps (content_reference ps r) q c h =
    is 59 (λ e. given (referred r) λ d k. stays_at e (reading_ends h (InText.reference (taken_refers r d k)))) λ _.
    stays (reading_more c h)
steps angle q c h =
    choose (is_name true c) (λ _. stays (push c h)) λ _.
    is 47 (λ e. stays_at e (push 47 h)) λ _. is 33 (λ e. stays_at e (push 33 h)) λ _. is 63 (λ e. stays_at e (push 63 h)) (λ _. fails)
steps (opening n) q c h =
    choose (is_char_of_name c) (λ _. stays (push c h)) λ _. given (q_name n) λ m k.
    let r = reads-name n m k in
    in_tag_lem (tag_of m) q c (record { attrs = []; is = h ∙ ap (λ s. 60 ∷ s) (r.1 ∙ sym (append-nil (written m))); known = r.0; each = no_more })
steps (between t) q c h = in_tag_lem t q c h
steps (gap t k) q c h =
    choose (is_name true c) (λ _. stays (q, refl, h)) λ _. closes t q c (under_as h (λ y g. space_white y g.0))
    (choose (is_white c) (λ w. stays (under_more (c ∷ []) h (λ y g. (space_push y c g.0 w, omega (arith, g.1, length-append y (c ∷ [])))))) (λ _. fails))
steps (naming t k n) q c h =
    choose (is_char_of_name c) (λ _. stays (h.0, push c h.1 ∙ append_assoc h.0 n (c ∷ []), h.2)) λ _. given (q_name n) λ m i.
    let r = reads-name n m i in
    let b : Begun = record { lead = k + length n; name = m } in
    in_named t b q c (subst (Under t (Named b)) (sym h.1) (under_more n h.2 (λ y. named_first k n y m r.0 r.1)))
steps (named t b) q c h = in_named t b q c h
steps (equals t b) q c h =
    choose (eqb c 34 || eqb c 39)
    (λ e. stays (q ++ (c ∷ []), under_more (c ∷ []) h (λ y. equalled_quote b y c (quote_of c e)), record { text = []; is = sym (append-nil _); each = no_more })) λ _.
    choose (is_white c) (λ w. stays (under_more (c ∷ []) h (λ y. equalled_white b y c w))) (λ _. fails)
steps (value t b k ps) q c h =
    is k (λ e. stays_at e (value-ends h.1 h.2)) λ x. is 38 (λ e. stays_at e (h.0, h.1, read-ampersand h.2)) λ y.
    is 60 (λ _. fails) λ z. stays (h.0, h.1, read_more h.2 (InValue.itself c x y z))
steps (value_reference t b k ps r) q c h =
    is 59 (λ e. given (referred r) λ d i. stays_at e (h.0, h.1, reading_ends h.2 (InValue.reference (taken_refers r d i)))) λ _.
    stays (h.0, h.1, reading_more c h.2)
steps (emptied t) q c h = is 62 (λ e. done_at e h) (λ _. fails)
steps slash q c h = choose (is_name true c) (λ _. stays (push c h)) (λ _. fails)
steps (ending n) q c h =
    choose (is_char_of_name c) (λ _. stays (push c h)) λ _. given (q_name n) λ m k.
    let r = reads-name n m k in
    in_ended m q c (λ z w. subst (λ s. IsTag (s ++ (z ++ (62 ∷ []))) (End m)) (sym (h ∙ ap (λ s. 60 ∷ 47 ∷ s) r.1)) (end m z r.0 w))
steps (ended n) q c h = in_ended n q c h
steps bang q c h =
    is 45 (λ e. stays_at e (push 45 h)) λ _.
    is 68 (λ e. stays_at e (subst (λ s. IsTag ((s ++ (68 ∷ [])) ++ codes "OCTYPE") Doctype) (sym h) doctype)) λ _.
    is 91 (λ e. stays_at e (subst (λ s. IsTag ((s ++ (91 ∷ [])) ++ codes "CDATA[") Cdata) (sym h) cdata)) (λ _. fails)
steps (word [] t) q c h = fails
steps (word (d ∷ []) t) q c h = is d (λ e. done_at e h) (λ _. fails)
steps (word (d ∷ k ∷ w) t) q c h = is d (λ e. stays_at e (tag_behind q d (k ∷ w) h)) (λ _. fails)
steps bang_hyphen q c h =
    is 45 (λ e. stays_at e (λ s t i. subst (λ u. IsTag ((u ++ (45 ∷ [])) ++ (s ++ (45 ∷ 45 ∷ 62 ∷ []))) Comment) (sym h) (comment i))) (λ _. fails)
steps Mode.comment q c h =
    is 45 (λ e. stays_at e (λ d s t n i. tag_behind q 45 _ (h (45 ∷ d ∷ s) (d ∷ t) (next (InComment.hyphen d n) i)), tag_behind q 45 _ (h [] [] no_more))) λ n.
    stays (λ s t i. tag_behind q c _ (h (c ∷ s) (c ∷ t) (next (InComment.itself c n) i)))
steps comment_hyphen q c h = is 45 (λ e. stays_at e (tag_behind q 45 _ h.1)) λ n. stays (λ s t i. tag_behind q c _ (h.0 c s t n i))
steps comment_end q c h = is 62 (λ e. done_at e h) (λ _. fails)
steps question q c h = choose (is_name true c) (λ e. stays (push c h, (e, tt))) (λ _. fails)
steps (target n) q c h =
    choose (is_name false c) (λ e. stays (push c h.0, nc_push n c h.1 e)) λ _. choose (is_xml_word n) (λ _. fails) λ x.
    is 63 (λ e. stays_at e (tag_behind q 63 (62 ∷ []) (subst (λ s. IsTag (s ++ (63 ∷ 62 ∷ [])) Instruction) (sym h.0) (instruction n [] h.1 x tt)))) λ _.
    choose (is_white c)
    (λ w. stays (λ t i. tag_behind q c _ (subst (λ s. IsTag (s ++ (c ∷ (t ++ (63 ∷ 62 ∷ [])))) Instruction) (sym h.0) (instruction n (c ∷ t) h.1 x (w, i))))) (λ _. fails)
steps data' q c h =
    is 63 (λ e. stays_at e (λ t i. tag_behind q 63 _ (h (63 ∷ t) i), tag_behind q 63 _ (h [] no_end_nil))) λ n.
    stays (λ t i. tag_behind q c _ (h (c ∷ t) (no_end_cons c t (λ e. absurd (n e)) i)))
steps data_question q c h =
    is 62 (λ e. done_at e h.1) λ d.
    is 63
    (λ e. stays_at e (
      λ t i. tag_behind q 63 _ (h.0 (63 ∷ t) (no_end_cons 63 (63 ∷ t) (λ _ zs f. let k = same_head f in omega arith) i)),
      tag_behind q 63 _ (h.0 [] (no_end_cons 63 [] (λ _ zs f. nil_cons f) no_end_nil)),
    )) λ n.
    stays (λ t i. tag_behind q c _ (h.0 (c ∷ t) (no_end_cons 63 (c ∷ t) (λ _ zs f. d (same_head f)) (no_end_cons c t (λ e. absurd (n e)) i))))
steps target_end q c h = is 62 (λ e. done_at e h) (λ _. fails)

-- What the scanner answers.
as_found : (s : Text) (y x : Token × Text) → Some y ≡ Some x → Item s y.0 y.1 → Item s x.0 x.1
as_found s y x e i = subst (λ z. Item s z.0 z.1) (same-inside e) i

as_run : (q r : Text) (t : Token) → IsRun q t → Stops r → Item (q ++ r) t r
as_run q r t h k = subst (λ u. Item (q ++ r) u r) (sym h.2) (run h.3 h.4 k)

last_run_lem : (ps : List Piece) (q : Text) (x : Token × Text) → Read InText [] ps q → last_run ps ≡ Some x → Item (q ++ []) x.0 x.1
last_run_lem [] q x h e = none_some e
last_run_lem (p ∷ ps) q x h e = go (has_cdata_end (p ∷ ps)) refl e
  where
    go : (b : Bool) → has_cdata_end (p ∷ ps) ≡ b → cond b None (Some (Words p ps, [])) ≡ Some x → Item (q ++ []) x.0 x.1
    go true f g = none_some g
    go false f g = as_found _ (Words p ps, []) x g (as_run q [] _ (run_of h f) tt)

at_end_lem : (m : Mode) (q : Text) (x : Token × Text) → InMode m q → at_end m ≡ Some x → Item (q ++ []) x.0 x.1
at_end_lem (content ps) q x h e = last_run_lem ps q x h e
at_end_lem (content_reference ps r) q x h e = none_some e
at_end_lem angle q x h e = none_some e
at_end_lem (opening n) q x h e = none_some e
at_end_lem (between t) q x h e = none_some e
at_end_lem (gap t k) q x h e = none_some e
at_end_lem (naming t k n) q x h e = none_some e
at_end_lem (named t b) q x h e = none_some e
at_end_lem (equals t b) q x h e = none_some e
at_end_lem (value t b c ps) q x h e = none_some e
at_end_lem (value_reference t b c ps r) q x h e = none_some e
at_end_lem (emptied t) q x h e = none_some e
at_end_lem slash q x h e = none_some e
at_end_lem (ending n) q x h e = none_some e
at_end_lem (ended n) q x h e = none_some e
at_end_lem bang q x h e = none_some e
at_end_lem (word w t) q x h e = none_some e
at_end_lem bang_hyphen q x h e = none_some e
at_end_lem Mode.comment q x h e = none_some e
at_end_lem comment_hyphen q x h e = none_some e
at_end_lem comment_end q x h e = none_some e
at_end_lem question q x h e = none_some e
at_end_lem (target n) q x h e = none_some e
at_end_lem data' q x h e = none_some e
at_end_lem data_question q x h e = none_some e
at_end_lem target_end q x h e = none_some e

found : (v : Move) (q : Text) (c : ℕ) (s : Text) (x : Token × Text) → Holds q c v
    → ((m : Mode) → InMode m (q ++ (c ∷ [])) → scan m s ≡ Some x → Item ((q ++ (c ∷ [])) ++ s) x.0 x.1)
    → moved v c s (λ k. scan k s) ≡ Some x → Item ((q ++ (c ∷ [])) ++ s) x.0 x.1
found (on m) q c s x h rec e = rec m h.fact e
found (ends t) q c s x h rec e = as_found _ (t, s) x e (tag h.fact)
found (before t) q c s x h rec e =
    as_found _ (t, c ∷ s) x e (subst (λ u. Item u t (c ∷ s)) (behind q c s) (as_run q (c ∷ s) t h.fact.0 h.fact.1))
found wrong q c s x h rec e = none_some e

sound_from : (m : Mode) (q s : Text) (x : Token × Text) → InMode m q → scan m s ≡ Some x → Item (q ++ s) x.0 x.1
unfolding scan
sound_from m q [] x h e = at_end_lem m q x h e
sound_from m q (c ∷ s) x h e =
    subst (λ u. Item u x.0 x.1) (append_assoc q (c ∷ []) s)
    (found (move m c) q c s x (steps m q c h) (λ k i f. sound_from k (q ++ (c ∷ [])) s x i f) e)

pub sound : (s r : Text) (t : Token) → item s ≡ Some (t, r) → Item s t r
sound s r t e = sound_from (content []) [] s (t, r) (record { text = []; is = refl; each = no_more }) e
