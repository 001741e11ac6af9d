-- The checks of an item where it stands, and of the end, find the least number of what is wrong.
use Rattle.std.proofs.Common.{◌≡◌, ℕ, ◌≤◌, Bool, true, false, cond, ◌⊎◌, List, [], ◌∷◌, Some, None, Decides, Option, refl, inl, inr, arith}
use Rattle.std.proofs.lemmas.Bool.Decides.{not_from_Decides}
use Rattle.items.specs.Tokens.{QName, Piece, Attr, Token, Start, Empty, End, Comment, Instruction, Doctype, Cdata, Words}
use Rattle.xml.specs.Faults.{Lowest}
use Rattle.xml.specs.Document.{Document, LiteralWhite}
use Rattle.xml.specs.Rules.{Frame, Context, building, finished, WrongTag, repeated, equal_names, wrong_declaration, xmlns_element, unknown_element, unknown_attribute, too_deep, too_many, too_bound, Innermost, Wrong, start, empty, second_start, second_empty, unmatched, loose_end, loose_before, loose_after, doctype, cdata, Lacks, unfinished, is_six, is_eight, is_eleven, check_tag, is_innermost, all_white, check, lacks}
use Rattle.xml.proofs.Deciding.{innermost_decides, white_decides, Six, Eight, Eleven, six_decides, eight_decides, eleven_decides}

-- a number that is the only one
only : {W : ℕ → Type 0} (n : ℕ) → W n → ((k : ℕ) → W k → k ≡ n) → Lowest W (Some n)
only n w f = (w, λ m h. let e = f m h in omega arith)

-- one thing that must hold, or 6
unless : {P : Type 0} {W : ℕ → Type 0} (b : Bool) → Decides b P → ((P → ⊥) → W 6) → ((k : ℕ) → W k → (k ≡ 6) × (P → ⊥)) → Lowest W (cond b None (Some 6))
unless true d f g = λ n h. (g n h).1 (d.0 refl)
unless false d f g = only 6 (f (not_from_Decides false d refl)) (λ k h. (g k h).0)

-- the least of three numbers
module _ {P Q R : Type 0} {W : ℕ → Type 0} (six : P → W 6) (eight : Q → W 8) (eleven : R → W 11) (which : (k : ℕ) → W k → ((k ≡ 6) × P) ⊎ (((k ≡ 8) × Q) ⊎ ((k ≡ 11) × R))) where
  at_least : {m n : ℕ} → ((m ≡ 6) × P → n ≤ m) → ((m ≡ 8) × Q → n ≤ m) → ((m ≡ 11) × R → n ≤ m) → W m → n ≤ m
  at_least {m = m} f g h w = elim (which m w) [ inl a ↦ f a | inr (inl b) ↦ g b | inr (inr c) ↦ h c ]

  three : (x y z : Bool) → Decides x P → Decides y Q → Decides z R → Lowest W (cond x (Some 6) (cond y (Some 8) (cond z (Some 11) None)))
  three true y z p q r = (six (p.0 refl), λ m. at_least (λ a. omega (arith, a.0)) (λ b. omega (arith, b.0)) (λ c. omega (arith, c.0)))
  three false true z p q r = (eight (q.0 refl), λ m. at_least (λ a. absurd (not_from_Decides false p refl a.1)) (λ b. omega (arith, b.0)) (λ c. omega (arith, c.0)))
  three false false true p q r =
      (eleven (r.0 refl), λ m. at_least (λ a. absurd (not_from_Decides false p refl a.1)) (λ b. absurd (not_from_Decides false q refl b.1)) (λ c. omega (arith, c.0)))
  three false false false p q r = λ n w.
      elim (which n w) [ inl a ↦ not_from_Decides false p refl a.1 | inr (inl b) ↦ not_from_Decides false q refl b.1 | inr (inr c) ↦ not_from_Decides false r refl c.1 ]

-- tags
module _ (gs : List Frame) (n : QName) (as' : List Attr) where
  six : Six gs n as' → WrongTag gs n as' 6
  six (inl h) = repeated h
  six (inr (inl h)) = equal_names h
  six (inr (inr (inl h))) = wrong_declaration h
  six (inr (inr (inr h))) = xmlns_element h

  eight : Eight gs n as' → WrongTag gs n as' 8
  eight (inl h) = unknown_element h
  eight (inr h) = unknown_attribute h

  eleven : Eleven gs as' → WrongTag gs n as' 11
  eleven (inl h) = too_deep h
  eleven (inr (inl h)) = too_many h
  eleven (inr (inr h)) = too_bound h

  which : (k : ℕ) → WrongTag gs n as' k → ((k ≡ 6) × Six gs n as') ⊎ (((k ≡ 8) × Eight gs n as') ⊎ ((k ≡ 11) × Eleven gs as'))
  which k (repeated h) = inl (refl, inl h)
  which k (equal_names h) = inl (refl, inr (inl h))
  which k (wrong_declaration h) = inl (refl, inr (inr (inl h)))
  which k (xmlns_element h) = inl (refl, inr (inr (inr h)))
  which k (unknown_element h) = inr (inl (refl, inl h))
  which k (unknown_attribute h) = inr (inl (refl, inr h))
  which k (too_deep h) = inr (inr (refl, inl h))
  which k (too_many h) = inr (inr (refl, inr (inl h)))
  which k (too_bound h) = inr (inr (refl, inr (inr h)))

  tag : Lowest (WrongTag gs n as') (check_tag gs n as')
  tag =
      three six eight eleven which (is_six gs n as') (is_eight gs n as') (is_eleven gs n as')
      (six_decides gs n as') (eight_decides gs n as') (eleven_decides gs n as')

-- a test for one family is a test for another that holds alike
through : {P Q : ℕ → Type 0} → ((n : ℕ) → P n → Q n) → ((n : ℕ) → Q n → P n) → (o : Option ℕ) → Lowest P o → Lowest Q o
through f g None h = λ n q. h n (g n q)
through f g (Some n) h = (f n h.0, λ m q. h.1 m (g m q))

-- what may be wrong with each item
of_start : {gs : List Frame} {n : QName} {as' : List Attr} (k : ℕ) → Wrong (building gs) (Start n as') k → WrongTag gs n as' k
of_start k (start h) = h

of_empty : {gs : List Frame} {n : QName} {as' : List Attr} (k : ℕ) → Wrong (building gs) (Empty n as') k → WrongTag gs n as' k
of_empty k (empty h) = h

of_end : {gs : List Frame} {n : QName} (k : ℕ) → Wrong (building gs) (End n) k → (k ≡ 6) × (Innermost n gs → ⊥)
of_end k (unmatched h) = (refl, h)

of_words : {a : Piece} {ps : List Piece} (k : ℕ) → Wrong (building []) (Words a ps) k → (k ≡ 6) × (LiteralWhite (a ∷ ps) → ⊥)
of_words k (loose_before h) = (refl, h)

of_late_start : {d : Document} {n : QName} {as' : List Attr} (k : ℕ) → Wrong (finished d) (Start n as') k → k ≡ 6
of_late_start k second_start = refl

of_late_empty : {d : Document} {n : QName} {as' : List Attr} (k : ℕ) → Wrong (finished d) (Empty n as') k → k ≡ 6
of_late_empty k second_empty = refl

of_late_end : {d : Document} {n : QName} (k : ℕ) → Wrong (finished d) (End n) k → k ≡ 6
of_late_end k loose_end = refl

of_late_words : {d : Document} {a : Piece} {ps : List Piece} (k : ℕ) → Wrong (finished d) (Words a ps) k → (k ≡ 6) × (LiteralWhite (a ∷ ps) → ⊥)
of_late_words k (loose_after h) = (refl, h)

of_doctype : {c : Context} (k : ℕ) → Wrong c Doctype k → k ≡ 7
of_doctype k doctype = refl

of_cdata : {c : Context} (k : ℕ) → Wrong c Cdata k → k ≡ 7
of_cdata k cdata = refl

of_comment : {c : Context} (k : ℕ) → Wrong c Comment k → ⊥
of_comment k h = elim h [ ]

of_instruction : {c : Context} (k : ℕ) → Wrong c Instruction k → ⊥
of_instruction k h = elim h [ ]

of_content : {g : Frame} {gs : List Frame} {a : Piece} {ps : List Piece} (k : ℕ) → Wrong (building (g ∷ gs)) (Words a ps) k → ⊥
of_content k h = elim h [ ]

pub checks : (c : Context) (t : Token) → Lowest (Wrong c t) (check c t)
checks (building gs) (Start n as') = through (λ k h. start h) of_start _ (tag gs n as')
checks (building gs) (Empty n as') = through (λ k h. empty h) of_empty _ (tag gs n as')
checks (building gs) (End n) = unless (is_innermost n gs) (innermost_decides n gs) unmatched of_end
checks (building gs) Comment = of_comment
checks (building gs) Instruction = of_instruction
checks (building gs) Doctype = only 7 doctype of_doctype
checks (building gs) Cdata = only 7 cdata of_cdata
checks (building []) (Words a ps) = unless (all_white (a ∷ ps)) (white_decides (a ∷ ps)) loose_before of_words
checks (building (g ∷ gs)) (Words a ps) = of_content
checks (finished d) (Start n as') = only 6 second_start of_late_start
checks (finished d) (Empty n as') = only 6 second_empty of_late_empty
checks (finished d) (End n) = only 6 loose_end of_late_end
checks (finished d) Comment = of_comment
checks (finished d) Instruction = of_instruction
checks (finished d) Doctype = only 7 doctype of_doctype
checks (finished d) Cdata = only 7 cdata of_cdata
checks (finished d) (Words a ps) = unless (all_white (a ∷ ps)) (white_decides (a ∷ ps)) loose_after of_late_words

-- the end
of_unfinished : {gs : List Frame} (k : ℕ) → Lacks (building gs) k → k ≡ 6
of_unfinished k unfinished = refl

pub ends : (c : Context) → Lowest (Lacks c) (lacks c)
ends (building gs) = only 6 unfinished of_unfinished
ends (finished d) = λ k h. elim h [ ]
