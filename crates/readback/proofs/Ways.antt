-- Walks over items with nothing wrong.
use Rattle.std.proofs.Common.{◌≡◌, ℕ, ◌+◌, true, ltb, List, [], ◌∷◌, length, sym, subst, inl, inr}
use Rattle.std.specs.List.{AllByRecursion}
use Rattle.std.proofs.ByRecursion.{All-append}
use Rattle.std.proofs.lemmas.Bool.{both_ways, cond_both}
use Rattle.characters.specs.Classes.{is_xml}
use Rattle.characters.specs.Spelling.{spelling}
use Rattle.characters.specs.declared.escapes.Where.{Where}
use Rattle.characters.specs.declared.escapes.Where.TheVariants.{Attribute as Quoted}
use Rattle.names.specs.Order.{Text}
use Rattle.names.specs.Xml.{XmlText}
use Rattle.items.specs.Tokens.{Token, references, attr_references, references_of}
use Rattle.items.specs.Grammar.{Item}
use Rattle.markup.specs.Elements.{Attribute}
use Rattle.xml.specs.Faults.{At, ill_formed, misplaced, inside, unfinished}
use Rattle.xml.specs.Namespaces.{Member}
use Rattle.xml.specs.Document.{behind}
use Rattle.xml.specs.Rules.{Context, after, Wrong, Lacks, Inner, refers}
use Rattle.xml.proofs.Least.{Clear, no_item, Clean, stay, go}
use Rattle.xml.proofs.Whole.{clear}
use Rattle.xml.proofs.Right.{parts}
use Rattle.readback.proofs.Pieces.{pieces}
use Rattle.readback.proofs.Tags.{attrs_of}

abbrev pub Way : ℕ → Context → Text → ℕ → Context → Text → Type 0
Way = Clean Item after Wrong Inner Lacks

pub clears : Clear Item
clears = clear Item after Wrong Inner Lacks parts

-- nothing is wrong with an item that is not wrong where it stands, and whose references name XML's characters
free : {c : Context} {s r : Text} {t : Token} {k n : ℕ} → Item s t r → ((m : ℕ) → Wrong c t m → ⊥) → ((j m : ℕ) → Inner t j m → ⊥) → At Item after Wrong Inner Lacks c s k n → ⊥
free i w f (ill_formed h k) = k _ _ i
free {c = c} i w f (misplaced {n = n} j z) = w n (subst (λ u. Wrong c u n) (clears.once j i).0 z)
free i w f (inside {k = k} {n = n} j z) = f k n (subst (λ u. Inner u k n) (clears.once j i).0 z)
free i w f (unfinished h l) = no_item clears i h

pub step : {p e : ℕ} {c d : Context} {s r q : Text} {t : Token} → Item s t r → ((m : ℕ) → Wrong c t m → ⊥) → ((j m : ℕ) → Inner t j m → ⊥) → Way (behind p s r) (after p c t) r e d q → Way p c s e d q
step i w f g = go (λ k n. free i w f) i g

-- one walk behind another
pub way_on : {p e f : ℕ} {c d b : Context} {s q r : Text} → Way p c s e d q → Way e d q f b r → Way p c s f b r
way_on stay g = g
way_on (go h i w) g = go h i (way_on w g)

-- References.
abbrev pub NamedXml : ℕ × ℕ → Type 0
NamedXml x = is_xml x.1 ≡ true

pub member_all : {A : Type 0} (P : A → Type 0) (x : A) (xs : List A) → AllByRecursion P xs → Member x xs → P x
member_all P x [] h m = absurd m
member_all P x (y ∷ ys) h (inl e) = subst P (sym e) h.0
member_all P x (y ∷ ys) h (inr m) = member_all P x ys h.1 m

pub no_inner : (t : Token) → AllByRecursion NamedXml (references_of t) → (k n : ℕ) → Inner t k n → ⊥
no_inner t h k n (refers c m e) = both_ways (is_xml c) e (member_all NamedXml (k, c) (references_of t) h m)

-- those of spelt texts and values
pub pieces-xml : (k : ℕ) (w : Where) (t : Text) → XmlText t → AllByRecursion NamedXml (references k (pieces w t))
pieces-xml k w [] h = tt
pieces-xml k w (c ∷ t) h =
    let j : ℕ = k + length (spelling w c) in
    let l = pieces-xml j w t h.1 in
    cond_both (ltb 1 (length (spelling w c))) ((k, c) ∷ references j (pieces w t)) (references j (pieces w t)) (AllByRecursion NamedXml) (λ _. (h.0, l)) (λ _. l)

pub attrs_xml : (as' : List Attribute) (k : ℕ) → AllByRecursion (λ a. XmlText a.value) as' → AllByRecursion NamedXml (attr_references k (attrs_of as'))
attrs_xml [] k h = tt
attrs_xml (a ∷ as') k h = All-append NamedXml (references _ (pieces Quoted a.value)) _ (pieces-xml _ Quoted a.value h.0) (attrs_xml as' _ h.1)
