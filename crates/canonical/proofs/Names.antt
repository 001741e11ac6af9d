-- Names as they are written in canonical text.
use Rattle.std.proofs.Common.{◌≡◌, ℕ, ◌+◌, ◌<◌, ◌≤◌, true, false, ltb, ◌≢◌, List, [], ◌∷◌, ◌++◌, length, codes, sym, subst, inl, inr, ⊎_elim, arith}
use Rattle.std.specs.List.{AllByRecursion}
use Rattle.std.proofs.ByRecursion.{All-append, All-weaker}
use Rattle.std.proofs.lemmas.Bool.{cond_both, ltb-true}
use Rattle.characters.specs.Classes.{In, local_at, is_xml, is_local}
use Rattle.characters.proofs.Deciding.{xml_decides, local_decides}
use Rattle.names.specs.Order.{Text, Name, same}
use Rattle.names.specs.Xml.{XmlText}
use Rattle.tree.specs.Names.{LocalName}
use Rattle.names.specs.Reserved.{lang_name}
use Rattle.tree.specs.Tree.{Label, named, item}
use Rattle.tree.specs.Lawful.{Row, Fields, Items, Qualifiers, LawfulLabel}
use Rattle.markup.specs.Clean.{PlainName}
use Rattle.canonical.specs.Prefixes.{dc_uri, xmp_uri, tiff_uri, is_known, decimal, prefix_as, number_after, prefix_from, prefix, qualified}
use Rattle.canonical.specs.Document.{element_name}

-- a character of names as they are written: from `-` to `z`, and neither `<` nor `?`
abbrev pub Sign : ℕ → Type 0
Sign c = (45 ≤ c) × (c < 123) × (c ≢ 60) × (c ≢ 63)

sign_xml : (c : ℕ) → Sign c → is_xml c ≡ true
sign_xml c h = (xml_decides c).1 (inr (inr (inl (omega arith, omega arith))))

-- a name as it is written: not empty, and made of signs
abbrev pub Fit : Text → Type 0
Fit [] = ⊥
Fit (c ∷ t) = AllByRecursion Sign (c ∷ t)

pub fit_plain : (n : Text) → Fit n → PlainName n
fit_plain [] h = absurd h
fit_plain (c ∷ n) h = (h.0.3, All-weaker Sign (λ d. d ≢ 60) (λ d p. p.2) (c ∷ n) h)

pub fit_xml : (n : Text) → Fit n → XmlText n
fit_xml [] h = absurd h
fit_xml (c ∷ n) h = All-weaker Sign (λ d. is_xml d ≡ true) sign_xml (c ∷ n) h

fit_more : (s : Text) (c : ℕ) (t : Text) → AllByRecursion Sign s → AllByRecursion Sign (c ∷ t) → Fit (s ++ (c ∷ t))
fit_more [] c t h k = k
fit_more (d ∷ s) c t h k = All-append Sign (d ∷ s) (c ∷ t) h k

-- names with the prefix rdf
pub rdf_fit : (t : Text) → AllByRecursion Sign t → Fit (codes "rdf:" ++ t)
rdf_fit t h = All-append Sign (codes "rdf:") t (omega arith) h

-- prefixes, with numbers below a hundred
decimal-signs : (k : ℕ) → k < 100 → AllByRecursion Sign (decimal k)
decimal-signs k h = cond_both (ltb k 10) _ _ (AllByRecursion Sign) (λ e. let l = ltb-true k 10 e in omega arith) (λ _. omega arith)

pub prefix-signs : (k : ℕ) (u : Text) → k < 100 → AllByRecursion Sign (prefix_as k u)
prefix-signs k u h =
    cond_both (same u dc_uri) _ _ (AllByRecursion Sign) (λ _. omega arith)
    (λ _. cond_both (same u xmp_uri) _ _ (AllByRecursion Sign) (λ _. omega arith)
    (λ _. cond_both (same u tiff_uri) _ _ (AllByRecursion Sign) (λ _. omega arith) (λ _. (omega arith, decimal-signs k h))))

pub number-after : (k : ℕ) (u : Text) → (k ≤ number_after k u) × (number_after k u ≤ k + 1)
number-after k u = cond_both (is_known u) _ _ (λ n. (k ≤ n) × (n ≤ k + 1)) (λ _. omega arith) (λ _. omega arith)

prefixes-signs : (k : ℕ) (us : List Text) (u : Text) → k + length us < 100 → AllByRecursion Sign (prefix_from k us u)
prefixes-signs k [] u h = tt
prefixes-signs k (v ∷ us) u h =
    let l = number-after k v in
    cond_both (same u v) _ _ (AllByRecursion Sign) (λ _. prefix-signs k v (omega arith)) (λ _. prefixes-signs (number_after k v) us u (omega arith))

-- local names
local_sign : (c : ℕ) → is_local false c ≡ true → Sign c
local_sign c e = let h : In (local_at false) c = (local_decides false c).0 e in omega arith

local_signs : (t : Text) → LocalName t → AllByRecursion Sign t
local_signs [] h = absurd h
local_signs (c ∷ t) h =
    let k : In (local_at true) c = (local_decides true c).0 h.0 in
    (omega arith, All-weaker (λ d. is_local false d ≡ true) Sign local_sign t h.1)

lang_signs : (n : Name) → n ≡ lang_name → AllByRecursion Sign n.local
unfolding lang_name
lang_signs n e = subst (λ (m : Name). AllByRecursion Sign m.local) (sym e) (omega arith)

-- names of elements
qualified-fit : (us : List Text) (n : Name) → length us ≤ 24 → AllByRecursion Sign n.local → Fit (qualified us n)
unfolding prefix
qualified-fit us n l h = fit_more (prefix_from 1 us n.uri) 58 n.local (prefixes-signs 1 us n.uri (omega arith)) (omega arith, h)

pub element_fit : (us : List Text) → length us ≤ 24 → (k : Row) (l : Label) → LawfulLabel k l → Fit (element_name us l)
element_fit us s Fields (named n) h = qualified-fit us n s (local_signs n.local h.0.local)
element_fit us s Fields item h = absurd h
element_fit us s Items (named n) h = absurd h
element_fit us s Items item h = omega arith
element_fit us s Qualifiers (named n) h =
    qualified-fit us n s (⊎_elim (lang_signs n) (λ p. local_signs n.local p.local) h.0)
element_fit us s Qualifiers item h = absurd h
