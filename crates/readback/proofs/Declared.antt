-- Declarations of namespaces: what a tag with them keeps, and what is bound inside.
use Rattle.std.proofs.Common.{◌≡◌, suc, ◌≤◌, true, false, ◌||◌, ◌≢◌, List, [], ◌∷◌, ◌++◌, length, Some, codes, sym, refl, ap, ◌∙◌, subst, ap₂, inl, inr, ⊎_elim, arith}
use Rattle.std.specs.List.{AllByRecursion}
use Rattle.std.proofs.lemmas.Bool.{cond_both, cases_Bool, or_right}
use Rattle.std.proofs.lemmas.List.{append_cancel_left}
use Rattle.characters.specs.Classes.{is_name}
use Rattle.names.specs.Order.{Text, same}
use Rattle.names.specs.Reserved.{xml_uri, xmlns_uri}
use Rattle.names.proofs.Deciding.{same_refl, same_true}
use Rattle.items.specs.Tokens.{QName, prefixed, NcName, IsQName, chars}
use Rattle.markup.specs.Elements.{Attribute}
use Rattle.xml.specs.Namespaces.{Member, Repeats, Scope, base, bound, declares, binding, in_force, expansions, WrongBinding, WronglyBinds, SomeWrong, prefixes_past, prefixes, is_among}
use Rattle.xml.specs.Rules.{names_of}
use Rattle.readback.specs.Meaning.{name_of, declared_by}
use Rattle.readback.proofs.Named.{Named, named, name-of}
use Rattle.characters.specs.declared.escapes.Where.TheVariants.{Attribute as Quoted}
use Rattle.readback.proofs.Pieces.{pieces, chars-pieces}
use Rattle.readback.proofs.Tags.{attrs_of}
use Rattle.readback.proofs.Good.{in_force_lem}
use Rattle.readback.proofs.Ways.{member_all}

-- the attributes that declare these bindings
abbrev pub declaring : Scope → List Attribute
declaring [] = []
declaring (x ∷ b) = record { name = codes "xmlns:" ++ x.0; value = x.1 } ∷ declaring b

-- a binding that may be declared
pub record Fair (x : Text × Text) : Type 0 where
  pub proper : NcName x.0
  pub not_xml : x.0 ≢ codes "xml"
  pub not_xmlns : x.0 ≢ codes "xmlns"
  pub some : x.1 ≢ []
  pub other : x.1 ≢ xml_uri
  pub apart : x.1 ≢ xmlns_uri

-- no prefix is bound twice
abbrev pub Single : Scope → Type 0
Single [] = Unit {0}
Single (x ∷ b) = AllByRecursion (λ y. y.0 ≢ x.0) b × Single b

-- the names of the attributes
abbrev of_prefix : Text → QName
of_prefix p = prefixed (codes "xmlns") p

of_prefix-proper : (p : Text) → NcName p → IsQName (of_prefix p)
unfolding is_name
of_prefix-proper p h = ((refl, (refl, (refl, (refl, (refl, tt))))), h)

of_prefix-read : (p : Text) → NcName p → name_of (codes "xmlns:" ++ p) ≡ of_prefix p
of_prefix-read p h = name-of (of_prefix p) (of_prefix-proper p h)

of_prefix-declares : (p : Text) → NcName p → declares (name_of (codes "xmlns:" ++ p)) ≡ Some p
unfolding same
of_prefix-declares p h = ap declares (of_prefix-read p h)

pub declaring-named : (b : Scope) → AllByRecursion Fair b → AllByRecursion (λ a. Named a.name) (declaring b)
declaring-named [] h = tt
declaring-named (x ∷ b) h = (named (of_prefix x.0) (of_prefix-proper x.0 h.0.proper), declaring-named b h.1)

-- no name is repeated
other_names : (p : Text) (b : Scope) → AllByRecursion Fair b → AllByRecursion (λ y. y.0 ≢ p) b → AllByRecursion (λ n. codes "xmlns:" ++ p ≢ n) (names_of (attrs_of (declaring b)))
other_names p [] h k = tt
other_names p (x ∷ b) h k =
    (λ e. k.0 (sym (append_cancel_left (codes "xmlns:") p x.0 (e ∙ (declaring-named (x ∷ b) h).0.same))), other_names p b h.1 k.1)

no_member : {A : Type 0} (x : A) (xs : List A) → AllByRecursion (λ y. x ≢ y) xs → Member x xs → ⊥
no_member x [] h m = absurd m
no_member x (y ∷ ys) h (inl e) = h.0 e
no_member x (y ∷ ys) h (inr m) = no_member x ys h.1 m

pub declaring-once : (b : Scope) → AllByRecursion Fair b → Single b → Repeats (names_of (attrs_of (declaring b))) → ⊥
declaring-once [] h s r = absurd r
declaring-once (x ∷ b) h s (inl m) =
    no_member _ _ (other_names x.0 b h.1 s.0) (subst (λ n. Member n (names_of (attrs_of (declaring b)))) (declaring-named (x ∷ b) h).0.same m)
declaring-once (x ∷ b) h s (inr r) = declaring-once b h.1 s.1 r

-- what is bound inside
pub declaring-bound : (b : Scope) (sc : Scope) → AllByRecursion Fair b → in_force (attrs_of (declaring b)) sc ≡ b ++ sc
declaring-bound b sc h = in_force_lem sc (declaring b) ∙ go b h
  where
    go : (b : Scope) → AllByRecursion Fair b → declared_by (declaring b) sc ≡ b ++ sc
    go [] h = refl
    go (x ∷ b) h = ap₂ (λ o r. binding o x.1 r) (of_prefix-declares x.0 h.0.proper) (go b h.1)

-- all declare something
pub declaring-expands : (b : Scope) (sc : Scope) → AllByRecursion Fair b → expansions sc (attrs_of (declaring b)) ≡ []
declaring-expands [] sc h = refl
declaring-expands (x ∷ b) sc h = rw (of_prefix-declares x.0 h.0.proper) (declaring-expands b sc h.1)

-- and nothing that is not allowed
fair_binding : (x : Text × Text) (v : Text) → v ≡ x.1 → Fair x → WrongBinding x.0 v → ⊥
fair_binding x v e f (inl a) = f.not_xmlns a
fair_binding x v e f (inr (inl a)) = f.not_xml a.0
fair_binding x v e f (inr (inr (inl a))) = f.other (sym e ∙ a.1)
fair_binding x v e f (inr (inr (inr (inl a)))) = f.apart (sym e ∙ a)
fair_binding x v e f (inr (inr (inr (inr a)))) = f.some (sym e ∙ a.1)

pub declaring-fair : (b : Scope) → AllByRecursion Fair b → SomeWrong (attrs_of (declaring b)) → ⊥
declaring-fair [] h w = absurd w
declaring-fair (x ∷ b) h (inl w) =
    fair_binding x _ (chars-pieces Quoted x.1) h.0 (subst (λ o. WronglyBinds o (chars (pieces Quoted x.1))) (of_prefix-declares x.0 h.0.proper) w)
declaring-fair (x ∷ b) h (inr w) = declaring-fair b h.1 w

pub declaring-length : (b : Scope) → length (attrs_of (declaring b)) ≡ length b
declaring-length [] = refl
declaring-length (x ∷ b) = ap suc (declaring-length b)

-- prefixes are no more than the bindings, xml aside
past : (seen : List Text) (b : Scope) → length (prefixes_past seen (b ++ base)) ≤ length b
unfolding same
past seen [] = rw (or_right (is_among (codes "xml") seen) true refl) (omega arith)
past seen (x ∷ b) =
    let l = past (x.0 ∷ seen) b in
    cond_both (is_among x.0 seen || (same x.0 (codes "xml") || same x.1 [])) (prefixes_past (x.0 ∷ seen) (b ++ base)) (x.0 ∷ prefixes_past (x.0 ∷ seen) (b ++ base)) (λ ps. length ps ≤ suc (length b))
    (λ _. omega arith) (λ _. omega arith)

pub prefixes_few : (b : Scope) → length (prefixes (b ++ base)) ≤ length b
unfolding prefixes
prefixes_few b = past [] b

pub unlike : (s t : Text) → s ≢ t → same s t ≡ false
unlike s t h = ⊎_elim (λ e. absurd (h (same_true s t e))) (λ e. e) (cases_Bool (same s t))

-- a binding is found, and xml behind the others
pub bound_member : (b sc : Scope) (p u : Text) → Single b → Member (p, u) b → bound (b ++ sc) p ≡ Some u
bound_member [] sc p u s m = absurd m
bound_member (x ∷ b) sc p u s (inl e) =
    rw (subst (λ q. same x.0 q ≡ true) (sym (ap (λ (y : Text × Text). y.0) e)) (same_refl x.0)) (ap (λ (y : Text × Text). Some y.1) (sym e))
bound_member (x ∷ b) sc p u s (inr m) =
    rw (unlike x.0 p (λ e. member_all (λ (y : Text × Text). y.0 ≢ x.0) (p, u) b s.0 m (sym e))) (bound_member b sc p u s.1 m)

pub bound_behind : (b sc : Scope) (p : Text) → AllByRecursion (λ y. y.0 ≢ p) b → bound (b ++ sc) p ≡ bound sc p
bound_behind [] sc p h = refl
bound_behind (x ∷ b) sc p h = rw (unlike x.0 p h.0) (bound_behind b sc p h.1)
