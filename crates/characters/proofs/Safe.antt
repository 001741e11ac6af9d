-- That spelt text is safe.
use Rattle.std.specs.Prelude.{◌≡◌, ℕ, ◌<◌, ◌≤◌, true, ◌≢◌, List, [], ◌∷◌, length, codes, ◌==◌, refl}
use Rattle.std.proofs.Common.{inl, inr, arith, length-append}
use Rattle.std.specs.List.{AllByRecursion}
use Rattle.std.proofs.ByRecursion.{All-append, All-weaker}
use Rattle.std.proofs.lemmas.Bool.{eqb-false, ne_eqb, cond_both}
use Rattle.std.proofs.lemmas.Bool.Decides.{not_from_Decides}
use Rattle.characters.specs.declared.escapes.Where.{Where}
use Rattle.characters.specs.declared.escapes.Where.TheVariants.{Content, Attribute}
use Rattle.characters.specs.Classes.{In, white_ranges, is_xml, is_white}
use Rattle.characters.proofs.Deciding.{xml_decides, white_decides}
use Rattle.characters.specs.Members.{Plain}
use Rattle.characters.specs.Safe.{Quiet}
use Rattle.characters.specs.Spelling.{spelt, spelt_quoted, spelling, spellings}

-- a character that stands for itself in content, and in an attribute
abbrev pub Bare : ℕ → Type 0
Bare c = (c ≢ 13) × (c ≢ 38) × (c ≢ 60) × (c ≢ 62)

abbrev pub BareIn : Where → ℕ → Type 0
BareIn Content c = Bare c
BareIn Attribute c = Bare c × (c ≢ 9) × (c ≢ 10) × (c ≢ 34)

bare_spelt : (c : ℕ) → Bare c → spelt c ≡ c ∷ []
bare_spelt c h = simp (ne_eqb c 13 h.0, ne_eqb c 38 h.1, ne_eqb c 60 h.2, ne_eqb c 62 h.3)

-- such a character is spelt by itself
pub bare_spelling : (w : Where) (c : ℕ) → BareIn w c → spelling w c ≡ c ∷ []
unfolding spelling
bare_spelling Content c h = bare_spelt c h
bare_spelling Attribute c h = rw (ne_eqb c 34 h.3, ne_eqb c 9 h.1, ne_eqb c 10 h.2) (bare_spelt c h.0)

-- in an attribute more characters have references than in content
pub bare_anywhere : (w : Where) (c : ℕ) → BareIn Attribute c → spelling w c ≡ c ∷ []
bare_anywhere Content c h = bare_spelling Content c h.0
bare_anywhere Attribute c h = bare_spelling Attribute c h

-- characters of names are such
pub plain-spelling : (w : Where) (c : ℕ) → Plain c → spelling w c ≡ c ∷ []
plain-spelling w c p =
    let h : In white_ranges c → ⊥ = not_from_Decides (is_white c) (white_decides c) p.white in
    bare_anywhere w c
    ((λ e. h (inr (inl (omega arith))), p.ampersand, p.less, p.greater), λ e. h (inl (omega arith)), λ e. h (inl (omega arith)), p.quote)

pub plain-spellings : (w : Where) (cs : List ℕ) → AllByRecursion Plain cs → spellings w cs ≡ cs
plain-spellings w [] h = refl
plain-spellings w (c ∷ cs) h = rw (plain-spelling w c h.0, plain-spellings w cs h.1) refl

-- the others have references
pub ampersand_spelling : (w : Where) → spelling w 38 ≡ codes "&amp;"
unfolding spelling
ampersand_spelling Content = refl
ampersand_spelling Attribute = refl

pub less_spelling : (w : Where) → spelling w 60 ≡ codes "&lt;"
unfolding spelling
less_spelling Content = refl
less_spelling Attribute = refl

pub greater_spelling : (w : Where) → spelling w 62 ≡ codes "&gt;"
unfolding spelling
greater_spelling Content = refl
greater_spelling Attribute = refl

pub return_spelling : (w : Where) → spelling w 13 ≡ codes "&#xD;"
unfolding spelling
return_spelling Content = refl
return_spelling Attribute = refl

pub quote_spelling : spelling Attribute 34 ≡ codes "&quot;"
unfolding spelling
quote_spelling = refl

pub tab_spelling : spelling Attribute 9 ≡ codes "&#x9;"
unfolding spelling
tab_spelling = refl

pub feed_spelling : spelling Attribute 10 ≡ codes "&#xA;"
unfolding spelling
feed_spelling = refl

-- what references are made of: `&`, `#`, `;`, letters and digits
abbrev pub Sign : ℕ → Type 0
Sign d = (35 ≤ d) × (d < 123) × (d ≢ 60) × (d ≢ 62)

abbrev Reference : List ℕ → Type 0
Reference l = AllByRecursion Sign l × (4 ≤ length l) × (length l ≤ 6)

-- what holds of references, and of each character that stands for itself, holds of every spelling
by_spelt : (P : List ℕ → Type 0) (c : ℕ) → ((l : List ℕ) → Reference l → P l) → (Bare c → P (c ∷ [])) → P (spelt c)
by_spelt P c n f =
    cond_both (c == 38) _ _ P (λ _. n (codes "&amp;") (omega arith))
    (λ a. cond_both (c == 60) _ _ P (λ _. n (codes "&lt;") (omega arith))
    (λ b. cond_both (c == 62) _ _ P (λ _. n (codes "&gt;") (omega arith))
    (λ d. cond_both (c == 13) _ _ P (λ _. n (codes "&#xD;") (omega arith))
    (λ e. f (eqb-false c 13 e, eqb-false c 38 a, eqb-false c 60 b, eqb-false c 62 d)))))

by_quoted : (P : List ℕ → Type 0) (c : ℕ) → ((l : List ℕ) → Reference l → P l) → (BareIn Attribute c → P (c ∷ [])) → P (spelt_quoted c)
by_quoted P c n f =
    cond_both (c == 34) _ _ P (λ _. n (codes "&quot;") (omega arith))
    (λ a. cond_both (c == 9) _ _ P (λ _. n (codes "&#x9;") (omega arith))
    (λ b. cond_both (c == 10) _ _ P (λ _. n (codes "&#xA;") (omega arith))
    (λ d. by_spelt P c n (λ h. f (h, eqb-false c 9 b, eqb-false c 10 d, eqb-false c 34 a)))))

by_spelling : (P : List ℕ → Type 0) (w : Where) (c : ℕ) → ((l : List ℕ) → Reference l → P l) → (BareIn w c → P (c ∷ [])) → P (spelling w c)
unfolding spelling
by_spelling P Content c n f = by_spelt P c n f
by_spelling P Attribute c n f = by_quoted P c n f

-- what holds of the signs of references, and of a character where it stands for itself, holds of each character of its spelling
pub spelling-all : (R : ℕ → Type 0) (w : Where) (c : ℕ) → ((d : ℕ) → Sign d → R d) → (BareIn w c → R c) → AllByRecursion R (spelling w c)
spelling-all R w c f g = by_spelling (AllByRecursion R) w c (λ l n. All-weaker Sign R f l n.0) (λ h. (g h, tt))

-- and what is so of each character of a text is so of the text
pub spellings-all : (P R : ℕ → Type 0) (w : Where) → ((c : ℕ) → P c → AllByRecursion R (spelling w c)) → (cs : List ℕ) → AllByRecursion P cs → AllByRecursion R (spellings w cs)
spellings-all P R w f [] h = tt
spellings-all P R w f (c ∷ cs) h = All-append R (spelling w c) (spellings w cs) (f c h.0) (spellings-all P R w f cs h.1)

-- a reader of spelt text meets quiet characters alone
pub spelling-quiet : (w : Where) (c : ℕ) → AllByRecursion (Quiet w) (spelling w c)
spelling-quiet Content c = spelling-all (Quiet Content) Content c (λ d h. omega arith) (λ h. omega arith)
spelling-quiet Attribute c = spelling-all (Quiet Attribute) Attribute c (λ d h. omega arith) (λ h. omega arith)

pub spellings-quiet : (w : Where) (cs : List ℕ) → AllByRecursion (Quiet w) (spellings w cs)
spellings-quiet w [] = tt
spellings-quiet w (c ∷ cs) = All-append (Quiet w) (spelling w c) (spellings w cs) (spelling-quiet w c) (spellings-quiet w cs)

-- what XML allows is spelt by what XML allows
sign_xml : (d : ℕ) → Sign d → is_xml d ≡ true
sign_xml d h = (xml_decides d).1 (inr (inr (inl (omega arith, omega arith))))

pub spelling-xml : (w : Where) (c : ℕ) → is_xml c ≡ true → AllByRecursion (λ d. is_xml d ≡ true) (spelling w c)
spelling-xml w c e = spelling-all (λ d. is_xml d ≡ true) w c sign_xml (λ _. e)

pub spellings-xml : (w : Where) (cs : List ℕ) → AllByRecursion (λ c. is_xml c ≡ true) cs → AllByRecursion (λ d. is_xml d ≡ true) (spellings w cs)
spellings-xml w cs h = spellings-all (λ c. is_xml c ≡ true) (λ d. is_xml d ≡ true) w (spelling-xml w) cs h

-- a spelling has one to six characters
pub spelling-length : (w : Where) (c : ℕ) → (1 ≤ length (spelling w c)) × (length (spelling w c) ≤ 6)
spelling-length w c = by_spelling (λ l. (1 ≤ length l) × (length l ≤ 6)) w c (λ l n. omega arith) (λ h. omega arith)

pub spellings-length : (w : Where) (cs : List ℕ) → length cs ≤ length (spellings w cs)
spellings-length w [] = omega arith
spellings-length w (c ∷ cs) = omega (arith, length-append (spelling w c) (spellings w cs), spelling-length w c, spellings-length w cs)
