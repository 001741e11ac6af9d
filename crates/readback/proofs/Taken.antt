-- A text that is walked to a document is read as it.
use Rattle.std.proofs.Common.{◌≡◌, ℕ, ◌+◌, List, [], ◌∷◌, get_or, refl, ap, ◌∙◌, subst, ⊎_elim}
use Rattle.std.specs.List.{AllByRecursion}
use Rattle.std.proofs.ByRecursion.{All-get_or}
use Rattle.std.proofs.lemmas.Bool.{both_ways}
use Rattle.characters.specs.Classes.{is_xml, is_white}
use Rattle.names.specs.Order.{Text}
use Rattle.names.specs.Xml.{XmlText}
use Rattle.items.specs.Tokens.{Piece, literal, Words, references}
use Rattle.items.specs.Grammar.{Item}
use Rattle.canonical.specs.Packet.{padding}
use Rattle.xml.specs.Faults.{At, ill_formed, misplaced, inside, unfinished, forbidden, stands, taken}
use Rattle.xml.specs.Document.{Document, LiteralWhite, behind}
use Rattle.xml.specs.Rules.{finished, outside, after, Wrong, loose_after, Lacks, Inner}
use Rattle.xml.specs.Reading.{unixed, UnixFault, MarkupFault, of, reads}
use Rattle.xml.proofs.Least.{no_item, stay, clean_front, beyond, front_same}
use Rattle.xml.proofs.Right.{markup_takes, markup_faultless}
use Rattle.canonical.proofs.Padding.{padding-all}
use Rattle.readback.proofs.Pieces.{Blank, literals, blank_item}
use Rattle.readback.proofs.Ways.{Way, clears, step, no_inner, NamedXml}

-- White space behind the root: it names no character by a reference.
blank_xml : (k : ℕ) (t : Text) → AllByRecursion NamedXml (references k (literals t))
blank_xml k [] = tt
blank_xml k (c ∷ t) = blank_xml (k + 1) t

blank_white : (t : Text) → AllByRecursion Blank t → LiteralWhite (literals t)
blank_white [] h = tt
blank_white (c ∷ t) h = ((refl, h.0), blank_white t h.1)

fine_blank : (d : Document) (a : Piece) (ps : List Piece) → LiteralWhite (a ∷ ps) → (k : ℕ) → Wrong (finished d) (Words a ps) k → ⊥
fine_blank d a ps h k (loose_after f) = f h

blank_walked : (d : Document) (p : ℕ) (t : Text) → AllByRecursion Blank t → (e : ℕ) × Way p (finished d) t e (finished d) []
blank_walked d p [] h = (p, stay)
blank_walked d p (c ∷ t) h =
    (behind p (c ∷ t) [], step (blank_item c t h) (fine_blank d (literal c) (literals t) (blank_white (c ∷ t) h)) (no_inner (Words (literal c) (literals t)) (blank_xml 0 (c ∷ t))) stay)

pub padding_walked : (d : Document) (p n : ℕ) → (e : ℕ) × Way p (finished d) (padding n) e (finished d) []
unfolding is_white
padding_walked d p n = blank_walked d p (padding n) (padding-all Blank refl refl n)

-- nothing is wrong where a document has ended and so has the text
nothing_wrong : (d : Document) (k n : ℕ) → At Item after Wrong Inner Lacks (finished d) [] k n → ⊥
nothing_wrong d k n (ill_formed h f) = h refl
nothing_wrong d k n (misplaced i w) = no_item clears i refl
nothing_wrong d k n (inside i w) = no_item clears i refl
nothing_wrong d k n (unfinished h l) = elim l [ ]

-- so the text has no fault
faultless : (s : Text) (d : Document) (e : ℕ) → XmlText s → Way 0 outside s e (finished d) [] → (p n : ℕ) → UnixFault s p n → ⊥
faultless s d e x w p n (forbidden i h k) = both_ways (is_xml (get_or s i 0)) k (All-get_or _ s i 0 h x)
faultless s d e x w p n (stands {k = k} f a) =
    ⊎_elim (λ b. nothing_wrong d k n b.0) (λ b. no_item clears b.2 refl) (beyond Item after Wrong Inner Lacks clears w f a)

no_fault : (s : Text) → unixed s ≡ s → ((p n : ℕ) → UnixFault s p n → ⊥) → (p n : ℕ) → MarkupFault s p n → ⊥
no_fault s u f p n (of {i = i} h) = f i n (subst (λ t. UnixFault t i n) u h)

-- and is read as that document
pub walked_taken : (s : Text) (d : Document) (e : ℕ) → XmlText s → unixed s ≡ s → Way 0 outside s e (finished d) [] → reads s ≡ taken d
walked_taken s d e x u w =
    let t = markup_faultless s (no_fault s u (faultless s d e x w)) in
    let v = (markup_takes s t.0 t.1).1 in
    let y : Way 0 outside s v.0 (finished t.0) [] = subst (λ r. Way 0 outside r v.0 (finished t.0) []) u v.1 in
    let o = front_same Item after Wrong Inner Lacks clears (clean_front Item after Wrong Inner Lacks y) (clean_front Item after Wrong Inner Lacks w) in
    let j : t.0 ≡ d = cc in
    t.1 ∙ ap taken j
