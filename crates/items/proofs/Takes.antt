-- The scanner finds every item that the grammar describes.
use Rattle.std.proofs.Common.{◌≡◌, ℕ, ◌+◌, true, false, ◌||◌, eqb, ◌⊎◌, List, [], ◌∷◌, ◌++◌, length, Some, Option, sym, refl, ap, ◌∙◌, subst, inl, inr, ⊎_elim, arith}
use Rattle.std.specs.List.{AllByRecursion}
use Rattle.std.proofs.lemmas.Bool.{ne_eqb, eq-eqb, cases_eq}
use Rattle.characters.specs.Classes.{In, white_ranges, is_white, is_name}
use Rattle.characters.proofs.Deciding.{white_decides}
use Rattle.names.specs.Order.{Text}
use Rattle.items.specs.Tokens.{QName, written, IsQName, Piece, Attr, Token, Start, Empty, Instruction, Words}
use Rattle.items.specs.Grammar.{White, Each, no_more, next, InText, InValue, InComment, IsAttr, attribute, is_xml_word, NoCdataEnd, NoInstructionEnd, InstructionData, IsTag, start, empty, end, comment, instruction, doctype, cdata, Stops, Item, tag, run}
use Rattle.items.specs.Scan.{is_char_of_name, Tag, Begun, Mode, content, content_reference, angle, opening, between, gap, naming, named, equals, value, value_reference, slash, ending, ended, question, target, data', data_question, target_end, on, move, scan, item}
use Rattle.items.proofs.Names.{white_ends, name-reads, NameText, name-text}
use Rattle.items.proofs.References.{no_semicolon, refers_taken}
use Rattle.items.proofs.Runs.{run_clean, no_end_tail}
use Rattle.items.proofs.Goes.{Leads, Goes, Finds, stop, one, last, ◌▸◌, comes_to, like, Gathers, absorb_all, Counts, absorb_white, absorb_each}

-- White space: the four characters, and the modes that pass it.
white_is : (P : ℕ → Type 0) → P 9 → P 10 → P 13 → P 32 → (c : ℕ) → is_white c ≡ true → P c
white_is P tab line return space c w = by ((white_decides c).0 w)
  where
    by : In white_ranges c → P c
    by (inl h) = ⊎_elim (λ e. subst P (sym e) tab) (λ n. let e : c ≡ 10 = omega arith in subst P (sym e) line) (cases_eq c 9)
    by (inr (inl h)) = let e : c ≡ 13 = omega arith in subst P (sym e) return
    by (inr (inr (inl h))) = let e : c ≡ 32 = omega arith in subst P (sym e) space
    by (inr (inr (inr h))) = absurd h

abbrev begun : QName → ℕ → Begun
begun n k = record { lead = k; name = n }

module _ (t : Tag) where
  between_white : (c : ℕ) → is_white c ≡ true → move (between t) c ≡ on (gap t 1)
  unfolding is_white
  between_white = white_is (λ c. move (between t) c ≡ on (gap t 1)) refl refl refl refl

  gap_white : Counts (gap t)
  unfolding is_white is_name
  gap_white k = white_is (λ c. move (gap t k) c ≡ on (gap t (k + 1))) refl refl refl refl

  named_white : (n : QName) → Counts (λ k. named t (begun n k))
  unfolding is_white
  named_white n k = white_is (λ c. move (named t (begun n k)) c ≡ on (named t (begun n (k + 1)))) refl refl refl refl

  equals_white : (n : QName) → Counts (λ k. equals t (begun n k))
  unfolding is_white
  equals_white n k = white_is (λ c. move (equals t (begun n k)) c ≡ on (equals t (begun n (k + 1)))) refl refl refl refl

ended_white : (n : QName) (c : ℕ) → is_white c ≡ true → move (ended n) c ≡ on (ended n)
unfolding is_white
ended_white n = white_is (λ c. move (ended n) c ≡ on (ended n)) refl refl refl refl

target_white : (n : Text) → is_xml_word n ≡ false → (c : ℕ) → is_white c ≡ true → move (target n) c ≡ on data'
unfolding is_white is_name
target_white n x = white_is (λ c. move (target n) c ≡ on data') (rw x) (rw x) (rw x) (rw x)

-- Names: the way over one, and what ends it.
abbrev Begins : Mode → (Text → Mode) → Type 0
Begins m hold = (c : ℕ) → is_name true c ≡ true → move m c ≡ on (hold (c ∷ []))

over_name : {P : ℕ → Type 0} (m : Mode) (hold : Text → Mode) → Begins m hold → Gathers P hold → (c : ℕ) (n : Text) → is_name true c ≡ true → AllByRecursion P n → Goes m (c ∷ n) (hold (c ∷ n))
over_name m hold first more c n e h = one (first c e) (absorb_all hold more (c ∷ []) n h)

over_qname : (m : Mode) (hold : Text → Mode) → Begins m hold → Gathers (λ c. is_char_of_name c ≡ true) hold → (n : Text) → NameText n → Goes m n (hold n)
over_qname m hold first more [] h = absurd h
over_qname m hold first more (c ∷ n) h = over_name m hold first more c n h.0 h.1

abbrev Ends : Text → Type 0
Ends [] = ⊥
Ends (c ∷ s) = is_char_of_name c ≡ false

is_end : (is_char_of_name 61 ≡ false) × (is_char_of_name 62 ≡ false) × (is_char_of_name 47 ≡ false)
unfolding is_name
is_end = (refl, refl, refl)

ends_white : (z e : Text) → White z → Ends e → Ends (z ++ e)
ends_white [] e w h = h
ends_white (c ∷ z) e w h = white_ends c w.0

ends_attrs : {s : Text} {as' : List Attr} → (e : Text) → Each IsAttr s as' → Ends e → Ends (s ++ e)
ends_attrs e no_more h = h
ends_attrs e (next (attribute [] z w n q y k x v u g) es) h = absurd y
ends_attrs e (next (attribute (c ∷ y) z w n q i k x v u g) es) h = white_ends c i.0

-- behind a name a mode goes on like another
leaves : {m k : Mode} {f : Text → Option (Token × Text)} → ((c : ℕ) → is_char_of_name c ≡ false → move m c ≡ move k c) → (e : Text) → Ends e → Leads k e f → Leads m e f
leaves moves [] h g = absurd h
leaves moves (c ∷ e) h g = like (moves c h) g

-- Characters of runs and of values.
text_char : (ps : List Piece) (a : Text) (p : Piece) → InText a p → Goes (content ps) a (content (ps ++ (p ∷ [])))
text_char ps a p (InText.itself c x y) = one (rw (ne_eqb c 38 x, ne_eqb c 60 y)) stop
text_char ps a p (InText.reference {r = r} h) =
    one refl (absorb_all (content_reference ps) (λ u d k. rw k) [] r (no_semicolon h) ▸ one (rw (refers_taken h)) stop)

not_ampersand : (q : ℕ) → (q ≡ 34) ⊎ (q ≡ 39) → eqb 38 q ≡ false
not_ampersand q h = ne_eqb 38 q (λ e. ⊎_elim (λ k. omega arith) (λ k. omega arith) h)

quotes : (q : ℕ) → (q ≡ 34) ⊎ (q ≡ 39) → (eqb q 34 || eqb q 39) ≡ true
quotes q (inl e) = rw e
quotes q (inr e) = rw e

module _ (t : Tag) (b : Begun) (q : ℕ) (h : (q ≡ 34) ⊎ (q ≡ 39)) where
  value-char : (ps : List Piece) (a : Text) (p : Piece) → InValue q a p → Goes (value t b q ps) a (value t b q (ps ++ (p ∷ [])))
  value-char ps a p (InValue.itself c x y z) = one (rw (ne_eqb c q x, ne_eqb c 38 y, ne_eqb c 60 z)) stop
  value-char ps a p (InValue.reference {r = r} k) =
      one (rw (not_ampersand q h)) (absorb_all (value_reference t b q ps) (λ u d k. rw k) [] r (no_semicolon k) ▸ one (rw (refers_taken k)) stop)

-- Attributes.
abbrev read : QName → List Attr → Tag
read n as' = record { name = n; attrs = as' }

attr_next : (n : QName) (as' : List Attr) (a : Text) (x : Attr) → IsAttr a x → Goes (between (read n as')) a (between (read n (as' ++ (x ∷ []))))
attr_next n as' a x (attribute [] z w m q y i wz ww h v) = absurd y
attr_next n as' a x (attribute (c ∷ y) z w m q {v = u} s i wz ww h v) =
    one (between_white t c s.0) (comes_to (absorb_white (gap t) (gap_white t) 1 y s.1) (ap (gap t) (omega arith))) ▸
    over_qname (gap t k) (naming t k) (λ d e. rw e) (λ r d e. rw e) (written m) (name-text m i) ▸
    leaves (λ d e. rw (e, name-reads m i)) (z ++ (61 ∷ (w ++ (q ∷ (u ++ (q ∷ [])))))) (ends_white z _ wz is_end.0) (
    absorb_white (λ j. named t (begun m j)) (named_white t m) (k + length (written m)) z wz ▸
    one refl (absorb_white (λ j. equals t (begun m j)) (equals_white t m) (k + length (written m) + length z + 1) w ww ▸
    one (rw (quotes q h)) (absorb_each (value t b q) (value-char t b q h) [] v ▸ one (rw (eq-eqb q q refl)) stop)))
  where
    t : Tag
    t = read n as'

    k : ℕ
    k = length (c ∷ y)

    b : Begun
    b = begun m (k + length (written m) + length z + 1 + length w + 1)

-- Start tags: the attributes, white space, and `e`, how the tag ends.
white_end : (t : Tag) (z e : Text) (k : Token) → White z → Finds (between t) e k → ((j : ℕ) → Finds (gap t j) e k) → Finds (between t) (z ++ e) k
white_end t [] e k w f g = f
white_end t (c ∷ z) e k w f g = one (between_white t c w.0) (absorb_white (gap t) (gap_white t) 1 z w.1 ▸ g (1 + length z))

tag_end : (n : QName) (as' : List Attr) {s : Text} (z e : Text) (k : Token) → IsQName n → Each IsAttr s as' → White z → Ends e
    → Finds (between (read n as')) e k → ((j : ℕ) → Finds (gap (read n as') j) e k) → Finds (content []) (60 ∷ (written n ++ (s ++ (z ++ e)))) k
tag_end n as' {s} z e k h es w l f g =
    one refl (over_qname angle opening (λ d i. rw i) (λ r d i. rw i) (written n) (name-text n h) ▸
    leaves (λ d i. rw (i, name-reads n h)) (s ++ (z ++ e)) (ends_attrs (z ++ e) es (ends_white z e w l)) (
    absorb_each (λ l. between (read n l)) (attr_next n) [] es ▸ white_end (read n as') z e k w f g))

-- Comments.
comment_char : (t a : Text) (c : ℕ) → InComment a c → Goes Mode.comment a Mode.comment
comment_char t a c (InComment.itself d h) = one (rw (ne_eqb d 45 h)) stop
comment_char t a c (InComment.hyphen d h) = one refl (one (rw (ne_eqb d 45 h)) stop)

-- The data of an instruction, from its front and from behind a `?`.
data_found : (t : Text) → (NoInstructionEnd t → Finds data' (t ++ (63 ∷ 62 ∷ [])) Instruction) × (NoInstructionEnd (63 ∷ t) → Finds data_question (t ++ (63 ∷ 62 ∷ [])) Instruction)
data_found [] = (λ h. one refl (last refl), λ h. one refl (last refl))
data_found (c ∷ t) = (
  λ h. ⊎_elim
      (λ e. one {k = data_question} (rw e) ((data_found t).1 (rw e at h)))
      (λ e. one {k = data'} (rw (ne_eqb c 63 e)) ((data_found t).0 (no_end_tail c t h)))
      (cases_eq c 63),
  λ h. let i = no_end_tail 63 (c ∷ t) h in ⊎_elim
      (λ e. absurd (h [] t (rw e)))
      (λ d. ⊎_elim
      (λ e. one {k = data_question} (rw e) ((data_found t).1 (rw e at i)))
      (λ e. one {k = data'} (rw (ne_eqb c 62 d, ne_eqb c 63 e)) ((data_found t).0 (no_end_tail c t i)))
      (cases_eq c 63))
      (cases_eq c 62),
)

instruction_end : (n t : Text) → is_xml_word n ≡ false → InstructionData t → Finds (target n) (t ++ (63 ∷ 62 ∷ [])) Instruction
unfolding is_name
instruction_end n [] x h = one {k = target_end} (rw x) (last refl)
instruction_end n (c ∷ t) x h = one (target_white n x c h.0) ((data_found t).0 h.1)

-- Tags and runs.
tag_found : (a : Text) (k : Token) → IsTag a k → Finds (content []) a k
unfolding is_name scan
tag_found a k (start n z {as' = as'} h es w) = tag_end n as' z (62 ∷ []) (Start n as') h es w is_end.1 (last refl) (λ j. last refl)
tag_found a k (empty n z {as' = as'} h es w) = tag_end n as' z (47 ∷ 62 ∷ []) (Empty n as') h es w is_end.2 (one refl (last refl)) (λ j. one refl (last refl))
tag_found a k (end n z h w) =
    one refl (one refl (over_qname slash ending (λ d i. rw i) (λ r d i. rw i) (written n) (name-text n h) ▸
    leaves (λ d i. rw (i, name-reads n h)) (z ++ (62 ∷ [])) (ends_white z (62 ∷ []) w is_end.1) (
    absorb_white (λ j. ended n) (λ j. ended_white n) 0 z w ▸ last refl)))
tag_found a k (comment es) = one refl (one refl (one refl (one refl (absorb_each (λ _. Mode.comment) comment_char [] es ▸ one refl (one refl (last refl))))))
tag_found a k (instruction [] t h x d) = absurd h
tag_found a k (instruction (c ∷ n) t h x d) =
    one refl (one refl (over_name question target (λ e i. rw i) (λ r e i. rw i) c n h.0 h.1 ▸ instruction_end (c ∷ n) t x d))
tag_found a k doctype = record { to = λ s. refl }
tag_found a k cdata = record { to = λ s. refl }

run_stops : (p : Piece) (ps : List Piece) (r : Text) → NoCdataEnd (p ∷ ps) → Stops r → scan (content (p ∷ ps)) r ≡ Some (Words p ps, r)
unfolding scan
run_stops p ps [] h s = rw (run_clean (p ∷ ps) h)
run_stops p ps (c ∷ r) h s = rw (s, run_clean (p ∷ ps) h)

pub complete : (s r : Text) (t : Token) → Item s t r → item s ≡ Some (t, r)
complete s r t (tag {a = a} h) = (tag_found a t h).to r
complete s r t (run {p = p} {ps = ps} es h k) = (absorb_each content text_char [] es).to r ∙ run_stops p ps r h k
