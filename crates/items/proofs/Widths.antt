-- How long items are, and where their references stand.
use Rattle.std.proofs.Common.{◌≡◌, ℕ, ◌+◌, ◌<◌, ◌≤◌, Bool, true, false, cond, ltb, ◌⊎◌, List, [], ◌∷◌, ◌++◌, length, refl, inl, inr, ⊎_elim, arith, length-append}
use Rattle.std.proofs.lemmas.Bool.{ltb-true}
use Rattle.names.specs.Order.{Text}
use Rattle.items.specs.Tokens.{written, Piece, widths, Attr, Token, Start, Empty, End, Comment, Instruction, Doctype, Cdata, Words, references, attr_references, references_of}
use Rattle.items.specs.Grammar.{Each, no_more, next, InText, InValue, IsAttr, attribute, IsTag, start, empty, end, comment, instruction, doctype, cdata, Item, tag, run}

-- Every piece is as wide as its spelling, and every attribute.
pub text_width : {a : Text} {p : Piece} → InText a p → p.width ≡ length a
text_width (InText.itself c x y) = refl
text_width (InText.reference {r = r} h) = omega (arith, length-append r (59 ∷ []))

pub value-width : {q : ℕ} {a : Text} {p : Piece} → InValue q a p → p.width ≡ length a
value-width (InValue.itself c x y z) = refl
value-width (InValue.reference {r = r} h) = omega (arith, length-append r (59 ∷ []))

each_width : {A : Type 0} {R : Text → A → Type 0} (size : A → ℕ) (total : List A → ℕ) → total [] ≡ 0
    → ((x : A) (xs : List A) → total (x ∷ xs) ≡ size x + total xs) → ((a : Text) (x : A) → R a x → size x ≡ length a) → {s : Text} {xs : List A} → Each R s xs → total xs ≡ length s
each_width size total z more f no_more = z
each_width size total z more f (next {a = a} {s = s} {x = x} {xs = xs} r e) =
    omega (arith, more x xs, f a x r, each_width size total z more f e, length-append a s)

abbrev pub attr_width : Attr → ℕ
attr_width a = a.lead + widths a.value + 1

abbrev pub attr_widths : List Attr → ℕ
attr_widths [] = 0
attr_widths (a ∷ as') = attr_width a + attr_widths as'

pub text_widths : {s : Text} {ps : List Piece} → Each InText s ps → widths ps ≡ length s
text_widths e = each_width (λ p. p.width) widths refl (λ _ _. refl) (λ a p h. text_width h) e

pub value-widths : {q : ℕ} {s : Text} {ps : List Piece} → Each (InValue q) s ps → widths ps ≡ length s
value-widths e = each_width (λ p. p.width) widths refl (λ _ _. refl) (λ a p h. value-width h) e

pub attr_width_lem : {s : Text} {a : Attr} → IsAttr s a → attr_width a ≡ length s
attr_width_lem (attribute y z w n q {v = v} sp h wz ww k e) =
    let value = v ++ (q ∷ []) in
    let quoted = w ++ (q ∷ value) in
    let equal = z ++ (61 ∷ quoted) in
    omega (arith, value-widths e, length-append y (written n ++ equal), length-append (written n) equal, length-append z (61 ∷ quoted), length-append w (q ∷ value), length-append v (q ∷ []))

pub attr_widths_lem : {s : Text} {as' : List Attr} → Each IsAttr s as' → attr_widths as' ≡ length s
attr_widths_lem e = each_width attr_width attr_widths refl (λ _ _. refl) (λ s a h. attr_width_lem h) e

-- An item is never empty.
tag_long : {a : Text} {t : Token} → IsTag a t → 0 < length a
tag_long (start n z h e w) = omega arith
tag_long (empty n z h e w) = omega arith
tag_long (end n z h w) = omega arith
tag_long (comment e) = omega arith
tag_long (instruction n t h x d) = omega arith
tag_long doctype = omega arith
tag_long cdata = omega arith

char_long : {a : Text} {p : Piece} → InText a p → 0 < length a
char_long (InText.itself c x y) = omega arith
char_long (InText.reference h) = omega arith

run_long : {a : Text} {p : Piece} {ps : List Piece} → Each InText a (p ∷ ps) → 0 < length a
run_long (next {a = a} {s = s} r e) = omega (arith, char_long r, length-append a s)

pub shorter : (s r : Text) (t : Token) → Item s t r → length r < length s
shorter s r t (tag {a = a} h) = omega (arith, tag_long h, length-append a r)
shorter s r t (run {a = a} e h k) = omega (arith, run_long e, length-append a r)

pub item-length : (s r : Text) (t : Token) → Item s t r → (w : ℕ) × (length s ≡ w + length r)
item-length s r t (tag {a = a} h) = (length a, length-append a r)
item-length s r t (run {a = a} e h k) = (length a, length-append a r)

-- The place and the number of a reference among others.
abbrev pub Listed : ℕ → ℕ → List (ℕ × ℕ) → Type 0
Listed k c [] = ⊥
Listed k c (x ∷ xs) = ((k ≡ x.0) × (c ≡ x.1)) ⊎ Listed k c xs

pub listed_append : (k c : ℕ) (xs ys : List (ℕ × ℕ)) → Listed k c (xs ++ ys) → Listed k c xs ⊎ Listed k c ys
listed_append k c [] ys h = inr h
listed_append k c (x ∷ xs) ys (inl h) = inl (inl h)
listed_append k c (x ∷ xs) ys (inr h) = ⊎_elim (λ i. inl (inr i)) inr (listed_append k c xs ys h)

-- the references of pieces from place j on stand within the width of these
pub references-within : (k c j : ℕ) (ps : List Piece) → Listed k c (references j ps) → (j ≤ k) × (k < j + widths ps)
references-within k c j [] h = absurd h
references-within k c j (p ∷ ps) h = go (ltb 1 p.width) refl h (references-within k c (j + p.width) ps)
  where
    go : (b : Bool) → ltb 1 p.width ≡ b → Listed k c (cond b ((j, p.char) ∷ references (j + p.width) ps) (references (j + p.width) ps))
        → (Listed k c (references (j + p.width) ps) → (j + p.width ≤ k) × (k < j + p.width + widths ps)) → (j ≤ k) × (k < j + (p.width + widths ps))
    go true e (inl i) rec = let w = ltb-true 1 p.width e in (omega arith, omega arith)
    go true e (inr i) rec = let r = rec i in (omega arith, omega arith)
    go false e i rec = let r = rec i in (omega arith, omega arith)

-- and so do those of attributes
pub attrs_within : (k c j : ℕ) (as' : List Attr) → Listed k c (attr_references j as') → (j ≤ k) × (k < j + attr_widths as')
attrs_within k c j [] h = absurd h
attrs_within k c j (a ∷ as') h =
    ⊎_elim (λ i. let r = references-within k c (j + a.lead) a.value i in (omega arith, omega arith))
    (λ i. let r = attrs_within k c (j + a.lead + widths a.value + 1) as' i in (omega arith, omega arith))
    (listed_append k c (references (j + a.lead) a.value) _ h)

-- Every reference of an item lies inside it.
tag_within : (k c : ℕ) {a : Text} {t : Token} → IsTag a t → Listed k c (references_of t) → k < length a
tag_within k c (start n z {s = s} {as' = as'} h e w) i =
    let r = attrs_within k c (1 + length (written n)) as' i in
    omega (arith, r.1, attr_widths_lem e, length-append (written n) (s ++ (z ++ (62 ∷ []))), length-append s (z ++ (62 ∷ [])))
tag_within k c (empty n z {s = s} {as' = as'} h e w) i =
    let r = attrs_within k c (1 + length (written n)) as' i in
    omega (arith, r.1, attr_widths_lem e, length-append (written n) (s ++ (z ++ (47 ∷ 62 ∷ []))), length-append s (z ++ (47 ∷ 62 ∷ [])))
tag_within k c (end n z h w) i = absurd i
tag_within k c (comment e) i = absurd i
tag_within k c (instruction n t h x d) i = absurd i
tag_within k c doctype i = absurd i
tag_within k c cdata i = absurd i

pub reference_within : (s r : Text) (t : Token) → Item s t r → (k c : ℕ) → Listed k c (references_of t) → k + length r < length s
reference_within s r t (tag {a = a} h) k c i = omega (arith, tag_within k c h i, length-append a r)
reference_within s r t (run {a = a} {p = p} {ps = ps} e h l) k c i =
    omega (arith, (references-within k c 0 (p ∷ ps) i).1, text_widths e, length-append a r)

-- The references of an item ascend.
abbrev pub Rising : List (ℕ × ℕ) → Type 0
Rising [] = Unit {0}
Rising (x ∷ []) = Unit {0}
Rising (x ∷ y ∷ xs) = (x.0 < y.0) × Rising (y ∷ xs)

rising_cons : (x : ℕ × ℕ) (xs : List (ℕ × ℕ)) → ((k c : ℕ) → Listed k c xs → x.0 < k) → Rising xs → Rising (x ∷ xs)
rising_cons x [] f h = tt
rising_cons x (y ∷ xs) f h = (f y.0 y.1 (inl (refl, refl)), h)

rising_append : (xs ys : List (ℕ × ℕ)) → ((k c l d : ℕ) → Listed k c xs → Listed l d ys → k < l) → Rising xs → Rising ys → Rising (xs ++ ys)
rising_append [] ys f h i = i
rising_append (x ∷ []) ys f h i = rising_cons x ys (λ k c j. f x.0 x.1 k c (inl (refl, refl)) j) i
rising_append (x ∷ y ∷ xs) ys f h i = (h.0, rising_append (y ∷ xs) ys (λ k c l d j. f k c l d (inr j)) h.1 i)

references-rise : (j : ℕ) (ps : List Piece) → Rising (references j ps)
references-rise j [] = tt
references-rise j (p ∷ ps) = go (ltb 1 p.width) refl (references-rise (j + p.width) ps)
  where
    go : (b : Bool) → ltb 1 p.width ≡ b → Rising (references (j + p.width) ps) → Rising (cond b ((j, p.char) ∷ references (j + p.width) ps) (references (j + p.width) ps))
    go true e h =
        rising_cons (j, p.char) (references (j + p.width) ps)
        (λ k c i. let r = references-within k c (j + p.width) ps i in let w = ltb-true 1 p.width e in omega arith) h
    go false e h = h

attrs_rise : (j : ℕ) (as' : List Attr) → Rising (attr_references j as')
attrs_rise j [] = tt
attrs_rise j (a ∷ as') =
    let v = j + a.lead in
    let n = v + widths a.value + 1 in
    rising_append (references v a.value) (attr_references n as')
    (λ k c l d x y. let r = references-within k c v a.value x in let q = attrs_within l d n as' y in omega arith)
    (references-rise v a.value) (attrs_rise n as')

pub references-ascend : (t : Token) → Rising (references_of t)
references-ascend (Start n as') = attrs_rise (1 + length (written n)) as'
references-ascend (Empty n as') = attrs_rise (1 + length (written n)) as'
references-ascend (End n) = tt
references-ascend Comment = tt
references-ascend Instruction = tt
references-ascend Doctype = tt
references-ascend Cdata = tt
references-ascend (Words p ps) = references-rise 0 (p ∷ ps)
