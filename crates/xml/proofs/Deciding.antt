-- Each test of the reader answers whether what it tests for holds.
use Rattle.std.proofs.Common.{◌≡◌, ℕ, ◌<◌, ◌≤◌, true, false, not, ◌&&◌, eqb, leb, ◌⊎◌, List, [], ◌∷◌, length, Some, None, codes, Decides, Option, sym, refl, ap, ap₂}
use Rattle.std.proofs.lemmas.Bool.{leb-true, le-leb, false≢true}
use Rattle.std.proofs.lemmas.Bool.Decides.{Decides-eqb, Decides-ltb, Decides-and, Decides-or, Decides-not, Decides-like}
use Rattle.std.proofs.ByRecursion.{Decides-by_and}
use Rattle.characters.specs.Classes.{is_white}
use Rattle.names.specs.Order.{Text, Name, same, same_name}
use Rattle.names.specs.Reserved.{xml_uri, xmlns_uri}
use Rattle.names.proofs.Deciding.{same-decides, same_name-decides}
use Rattle.items.specs.Tokens.{QName, bare, prefixed, Piece, chars, Attr}
use Rattle.xml.specs.Namespaces.{Member, Repeats, declares, in_force, element_name, expansions, expanded_names, WrongBinding, WronglyBinds, SomeWrong, prefixes, is_among}
use Rattle.xml.specs.Document.{LiteralWhite}
use Rattle.xml.specs.Rules.{Frame, scope_of, names_of, HasXmlnsPrefix, Innermost, repeats_text, is_among_names, repeats_name, is_none, some_none, is_wrong_binding, binds_wrongly, some_wrong, has_xmlns_prefix, is_six, is_eight, is_eleven, same_written, is_innermost, all_white}

never_decides : Decides false ⊥
never_decides = (λ e. absurd (false≢true e), λ h. absurd h)

-- repeated texts and names
among_decides : (x : Text) (xs : List Text) → Decides (is_among x xs) (Member x xs)
among_decides x [] = never_decides
among_decides x (y ∷ ys) = Decides-or (same x y) (is_among x ys) (same-decides x y) (among_decides x ys)

repeats_text-decides : (xs : List Text) → Decides (repeats_text xs) (Repeats xs)
repeats_text-decides [] = never_decides
repeats_text-decides (x ∷ xs) = Decides-or (is_among x xs) (repeats_text xs) (among_decides x xs) (repeats_text-decides xs)

among_names_decides : (x : Name) (xs : List Name) → Decides (is_among_names x xs) (Member x xs)
among_names_decides x [] = never_decides
among_names_decides x (y ∷ ys) = Decides-or (same_name x y) (is_among_names x ys) (same_name-decides x y) (among_names_decides x ys)

repeats_name-decides : (xs : List Name) → Decides (repeats_name xs) (Repeats xs)
repeats_name-decides [] = never_decides
repeats_name-decides (x ∷ xs) = Decides-or (is_among_names x xs) (repeats_name xs) (among_names_decides x xs) (repeats_name-decides xs)

-- names without a meaning
none_decides : (n : Option Name) → Decides (is_none n) (n ≡ None)
none_decides None = (λ _. refl, λ _. refl)
none_decides (Some n) = (λ e. cc, λ e. cc)

some_none-decides : (ns : List (Option Name)) → Decides (some_none ns) (Member None ns)
some_none-decides [] = never_decides
some_none-decides (n ∷ ns) = Decides-or (is_none n) (some_none ns) (Decides-like (is_none n) sym sym (none_decides n)) (some_none-decides ns)

-- declarations that are not allowed
other_decides : (s t : Text) → Decides (not (same s t)) (s ≡ t → ⊥)
other_decides s t = Decides-not (same s t) (same-decides s t)

wrong_binding_decides : (p v : Text) → Decides (is_wrong_binding p v) (WrongBinding p v)
wrong_binding_decides p v =
    Decides-or _ _ (same-decides p (codes "xmlns"))
    (Decides-or _ _ (Decides-and _ _ (same-decides p (codes "xml")) (other_decides v xml_uri))
    (Decides-or _ _ (Decides-and _ _ (other_decides p (codes "xml")) (same-decides v xml_uri))
    (Decides-or _ _ (same-decides v xmlns_uri) (Decides-and _ _ (other_decides p []) (same-decides v [])))))

binds_wrongly-decides : (o : Option Text) (v : Text) → Decides (binds_wrongly o v) (WronglyBinds o v)
binds_wrongly-decides None v = never_decides
binds_wrongly-decides (Some p) v = wrong_binding_decides p v

some_wrong-decides : (as' : List Attr) → Decides (some_wrong as') (SomeWrong as')
some_wrong-decides [] = never_decides
some_wrong-decides (a ∷ as') =
    Decides-or _ _ (binds_wrongly-decides (declares a.name) (chars a.value)) (some_wrong-decides as')

xmlns_prefix_decides : (n : QName) → Decides (has_xmlns_prefix n) (HasXmlnsPrefix n)
xmlns_prefix_decides (bare l) = never_decides
xmlns_prefix_decides (prefixed p l) = same-decides p (codes "xmlns")

-- names as they are written
pub same_written-decides : (m n : QName) → Decides (same_written m n) (m ≡ n)
same_written-decides (bare a) (bare b) = Decides-like (same a b) (ap bare) (λ e. cc) (same-decides a b)
same_written-decides (bare a) (prefixed q b) = (λ e. cc, λ e. cc)
same_written-decides (prefixed p a) (bare b) = (λ e. cc, λ e. cc)
same_written-decides (prefixed p a) (prefixed q b) =
    Decides-like (same p q && same a b) (λ h. ap₂ prefixed h.0 h.1) (λ e. (cc, cc))
    (Decides-and (same p q) (same a b) (same-decides p q) (same-decides a b))

pub innermost_decides : (n : QName) (gs : List Frame) → Decides (is_innermost n gs) (Innermost n gs)
innermost_decides n [] = never_decides
innermost_decides n (g ∷ gs) = same_written-decides n g.written

-- white space that stands for itself
pub white_decides : (ps : List Piece) → Decides (all_white ps) (LiteralWhite ps)
white_decides =
    Decides-by_and (λ a. eqb a.width 1 && is_white a.char) (λ a. (a.width ≡ 1) × (is_white a.char ≡ true)) all_white
    (λ a. Decides-and _ _ (Decides-eqb a.width 1) (λ e. e, λ e. e)) refl (λ _ _. refl)

-- what is wrong with a tag, by its number
abbrev pub Six : List Frame → QName → List Attr → Type 0
Six gs n as' = Repeats (names_of as') ⊎ (Repeats (expanded_names (expansions (in_force as' (scope_of gs)) as')) ⊎ (SomeWrong as' ⊎ HasXmlnsPrefix n))

abbrev pub Eight : List Frame → QName → List Attr → Type 0
Eight gs n as' = (element_name (in_force as' (scope_of gs)) n ≡ None) ⊎ Member None (expansions (in_force as' (scope_of gs)) as')

abbrev pub Eleven : List Frame → List Attr → Type 0
Eleven gs as' = (32 ≤ length gs) ⊎ ((32 < length as') ⊎ (32 < length (prefixes (in_force as' (scope_of gs)))))

pub six_decides : (gs : List Frame) (n : QName) (as' : List Attr) → Decides (is_six gs n as') (Six gs n as')
six_decides gs n as' =
    Decides-or _ _ (repeats_text-decides (names_of as'))
    (Decides-or _ _ (repeats_name-decides (expanded_names (expansions (in_force as' (scope_of gs)) as')))
    (Decides-or _ _ (some_wrong-decides as') (xmlns_prefix_decides n)))

pub eight_decides : (gs : List Frame) (n : QName) (as' : List Attr) → Decides (is_eight gs n as') (Eight gs n as')
eight_decides gs n as' =
    Decides-or _ _ (none_decides (element_name (in_force as' (scope_of gs)) n)) (some_none-decides (expansions (in_force as' (scope_of gs)) as'))

leb_decides : (a b : ℕ) → Decides (leb a b) (a ≤ b)
leb_decides a b = (leb-true a b, le-leb a b)

pub eleven_decides : (gs : List Frame) (n : QName) (as' : List Attr) → Decides (is_eleven gs n as') (Eleven gs as')
eleven_decides gs n as' =
    Decides-or _ _ (leb_decides 32 (length gs))
    (Decides-or _ _ (Decides-ltb 32 (length as')) (Decides-ltb 32 (length (prefixes (in_force as' (scope_of gs))))))
