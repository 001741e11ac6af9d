-- Texts that are made of parts, looked for part by part.
use Rattle.std.proofs.Common.{◌≡◌, ℕ, ◌+◌, ◌-◌, ◌≤◌, Bool, true, false, eqb, ◌==◌, ◌||◌, ◌≢◌, ◌⊎◌, List, [], ◌∷◌, ◌++◌, length, Some, None, Option, MatchOption, sym, refl, ap, ◌∙◌, subst, inl, inr, ⊎_elim, arith, length-append}
use Rattle.std.specs.Bool.{then_some}
use Rattle.std.proofs.lemmas.Bool.{eqb-true, eqb-false}
use Rattle.std.proofs.lemmas.List.{append-nil}
use Rattle.medium.specs.Cells.{Cell}
use Rattle.code.specs.Codes.{Scalar, Laws}
use Rattle.text.specs.Stands.{Expected, Holds, Stands, Stepped, WordAt, bytes_of}
use Rattle.text.proofs.Standing as standing
use Rattle.packet.specs.Texts.{Quote}
use Rattle.packet.specs.Parts.{Closing, Ends, MarkAt, Marked, Naming, QuoteAt, Quoting, Then}

-- cells that are read in a lawful text code
pub record Reading : Type 0 where
  pub enc : ℕ → List ℕ
  pub unit : ℕ
  pub laws : Laws enc unit
  pub cs : List Cell

abbrev pub reading : (enc : ℕ → List ℕ) (unit : ℕ) → Laws enc unit → List Cell → Reading
reading enc unit laws cs = record { enc = enc; unit = unit; laws = laws; cs = cs }

module _ (read : Reading) where
  abbrev enc : ℕ → List ℕ
  enc = read.enc

  abbrev unit : ℕ
  unit = read.unit

  abbrev laws : Laws enc unit
  laws = read.laws

  abbrev cs : List Cell
  cs = read.cs

  -- a character that stands is a text that stands
  pub one : (k v : ℕ) → Scalar v → Holds cs k (enc v) → Stands enc cs k (v ∷ [])
  one k v s h = standing.stands_more enc unit laws cs k v [] s h (tt, refl)

  pub one-long : (v : ℕ) → length (bytes_of enc (v ∷ [])) ≡ length (enc v)
  one-long v = ap length (append-nil (enc v))

  -- behind a word that stands
  pub after : (w : List ℕ) (P : List ℕ → Type 0) (k e : ℕ) (r : Option ℕ) → WordAt enc cs k w (Some e) → Ends enc cs P e r → Ends enc cs (Then w P) k r
  after w P k e (Some z) a x =
      let u = x.0 in
      let l = ap length (standing.bytes_append enc unit laws w u) ∙ length-append (bytes_of enc w) (bytes_of enc u) in
      let m = x.3 in
      let b = a.1 in
      (w ++ u, (u, x.1, refl), standing.stands_join enc unit laws cs k w u a.0 (subst (λ n. Stands enc cs n u) b x.2), omega arith)
  after w P k e None a n = λ t x st.
      n x.0 x.1 (subst (λ m. Stands enc cs m x.0) (sym a.1) (standing.stands_back enc unit laws cs k w x.0 (subst (Stands enc cs k) x.2 st)))

  -- where the word does not stand
  pub without : (w : List ℕ) (P : List ℕ → Type 0) (k : ℕ) → WordAt enc cs k w None → Ends enc cs (Then w P) k None
  without w P k n = λ t x st. n (standing.stands_front enc unit laws cs k w x.0 (subst (Stands enc cs k) x.2 st))

  scalar : (q : ℕ) → Quote q → Scalar q
  scalar q x = (omega arith, λ h. omega arith)

  -- the character that stands at a place, taken if it is a quote
  pub quote-from_step : (k : ℕ) (a r : Option (ℕ × ℕ)) → Stepped enc cs k a → MatchOption a (r ≡ None) (λ x. r ≡ then_some ((x.0 == 34) || (x.0 == 39)) x) → QuoteAt enc cs k r
  quote-from_step k None r n e = rw e (λ q isq h. n q (scalar q isq) h)
  quote-from_step k (Some x) r s e = rw e (by (x.0 == 34) (x.0 == 39) refl refl)
    where
      by : (a b : Bool) → (x.0 == 34) ≡ a → (x.0 == 39) ≡ b → QuoteAt enc cs k (then_some (a || b) x)
      by true b p q = (inl (eqb-true x.0 34 p), s.0, s.1, s.2)
      by false true p q = (inr (eqb-true x.0 39 q), s.0, s.1, s.2)
      by false false p q = λ c isq h.
          let same : x.0 ≡ c = standing.only enc unit laws cs k x.0 c s.0 (scalar c isq) s.1 h in
          ⊎_elim (λ e. eqb-false x.0 34 p (same ∙ e)) (λ e. eqb-false x.0 39 q (same ∙ e)) isq

  -- behind a quote that stands
  pub quoted : (P : ℕ → List ℕ → Type 0) (k q e : ℕ) (r : Option ℕ) → QuoteAt enc cs k (Some (q, e)) → Ends enc cs (P q) e r → Ends enc cs (Quoting P) k r
  quoted P k q e (Some z) (isq, s, h, l) x =
      let u = x.0 in
      let a = length-append (enc q) (bytes_of enc u) in
      let m = x.3 in
      (q ∷ u, (q, u, isq, x.1, refl), standing.stands_more enc unit laws cs k q u s h (subst (λ n. Stands enc cs n u) l x.2), omega arith)
  quoted P k q e None (isq, s, h, l) n = λ t x st.
      let st' = subst (Stands enc cs k) x.4 st in
      let same : x.0 ≡ q = standing.only enc unit laws cs k x.0 q st'.0.0 s (standing.stands_head enc unit laws cs k x.0 x.1 st') h in
      n x.1 (subst (λ z. P z x.1) same x.3)
      (subst (λ m. Stands enc cs m x.1) (sym l) (subst (λ z. Stands enc cs (k + length (enc z)) x.1) same (standing.stands_tail enc unit laws cs k x.0 x.1 st')))

  -- where no quote stands
  pub unquoted : (P : ℕ → List ℕ → Type 0) (k : ℕ) → QuoteAt enc cs k None → Ends enc cs (Quoting P) k None
  unquoted P k n = λ t x st. n x.0 x.2 (standing.stands_head enc unit laws cs k x.0 x.1 (subst (Stands enc cs k) x.4 st))

  -- one of two kinds of text, where the other does not stand
  left : (P Q : List ℕ → Type 0) (k : ℕ) (r : Option ℕ) → Ends enc cs P k r → Ends enc cs Q k None → Ends enc cs (λ t. P t ⊎ Q t) k r
  left P Q k (Some e) x n = (x.0, inl x.1, x.2, x.3)
  left P Q k None x n = λ t c st. ⊎_elim (λ p. x t p st) (λ q. n t q st) c

  right : (P Q : List ℕ → Type 0) (k : ℕ) (r : Option ℕ) → Ends enc cs Q k r → Ends enc cs P k None → Ends enc cs (λ t. P t ⊎ Q t) k r
  right P Q k (Some e) x n = (x.0, inr x.1, x.2, x.3)
  right P Q k None x n = λ t c st. ⊎_elim (λ p. n t p st) (λ q. x t q st) c

  -- under a condition that holds, and under one that does not
  given : (A : Type 0) (P : List ℕ → Type 0) (k : ℕ) (r : Option ℕ) → A → Ends enc cs P k r → Ends enc cs (λ t. A × P t) k r
  given A P k (Some e) a x = (x.0, (a, x.1), x.2, x.3)
  given A P k None a n = λ t x st. n t x.1 st

  never : (A : Type 0) (P : List ℕ → Type 0) (k : ℕ) → (A → ⊥) → Ends enc cs (λ t. A × P t) k None
  never A P k n = λ t x st. absurd (n x.0)

  -- the same texts by another name
  pub renamed : (P Q : List ℕ → Type 0) (k : ℕ) (r : Option ℕ) → ((t : List ℕ) → P t → Q t) → ((t : List ℕ) → Q t → P t) → Ends enc cs P k r → Ends enc cs Q k r
  renamed P Q k (Some e) f g x = (x.0, f x.0 x.1, x.2, x.3)
  renamed P Q k None f g n = λ t q st. n t (g t q) st

  -- a word and nothing else
  pub exactly : (w : List ℕ) (k : ℕ) (r : Option ℕ) → WordAt enc cs k w r → Ends enc cs (λ t. t ≡ w) k r
  exactly w k (Some e) x = (w, refl, x.0, x.1)
  exactly w k None n = λ t e st. n (subst (Stands enc cs k) e st)

  -- behind one character, and where it does not stand
  pub after_one : (v : ℕ) (P : List ℕ → Type 0) (k e : ℕ) (r : Option ℕ) → Expected enc cs k v (Some e) → Ends enc cs P e r → Ends enc cs (Then (v ∷ []) P) k r
  after_one v P k e r (s, h, l) x = after (v ∷ []) P k e r (one k v s h, l ∙ ap (λ n. k + n) (sym (one-long v))) x

  pub without_one : (v : ℕ) (P : List ℕ → Type 0) (k : ℕ) → Expected enc cs k v None → Ends enc cs (Then (v ∷ []) P) k None
  without_one v P k n = without (v ∷ []) P k (λ st. n st.0.0 (standing.stands_head enc unit laws cs k v [] st))

  -- two characters are one and then another
  both : (a b : ℕ) (P : List ℕ → Type 0) (k : ℕ) (r : Option ℕ) → Ends enc cs (Then (a ∷ []) (Then (b ∷ []) P)) k r → Ends enc cs (Then (a ∷ b ∷ []) P) k r
  both a b P k r x =
      renamed (Then (a ∷ []) (Then (b ∷ []) P)) (Then (a ∷ b ∷ []) P) k r
      (λ t y. (y.1.0, y.1.1, y.2 ∙ ap (λ u. a ∷ u) y.1.2)) (λ t y. (b ∷ y.0, (y.0, y.1, refl), y.2)) x

  -- where a mark stands, no quote does
  clash : (A : Type 0) (q : ℕ) (P : List ℕ → Type 0) (k e : ℕ) → Quote q → Expected enc cs k 65279 (Some e) → Ends enc cs (λ t. A × Then (q ∷ []) P t) k None
  clash A q P k e isq (s, h, l) = λ t x st.
      without_one q P k (λ sq hq. let same : q ≡ 65279 = standing.only enc unit laws cs k q 65279 sq s hq h in omega arith) t x.1 st

  -- behind a mark, and where none may be left out
  pub after_mark : (q k m : ℕ) (r : Option ℕ) → Quote q → MarkAt enc cs unit k (Some m) → Ends enc cs (Then (q ∷ []) Naming) m r → Ends enc cs (Marked unit q) k r
  after_mark q k m r isq (inl a) x =
      left (Then (65279 ∷ q ∷ []) Naming) (λ t. (unit ≡ 1) × Then (q ∷ []) Naming t) k r
      (both 65279 q Naming k r (after_one 65279 (Then (q ∷ []) Naming) k m r a x))
      (clash (unit ≡ 1) q Naming k m isq a)
  after_mark q k m r isq (inr (n, one, e)) x =
      right (Then (65279 ∷ q ∷ []) Naming) (λ t. (unit ≡ 1) × Then (q ∷ []) Naming t) k r
      (given (unit ≡ 1) (Then (q ∷ []) Naming) k r one (subst (λ j. Ends enc cs (Then (q ∷ []) Naming) j r) e x))
      (both 65279 q Naming k None (without_one 65279 (Then (q ∷ []) Naming) k n))

  pub without_mark : (q k : ℕ) → MarkAt enc cs unit k None → Ends enc cs (Marked unit q) k None
  without_mark q k (n, more) =
      left (Then (65279 ∷ q ∷ []) Naming) (λ t. (unit ≡ 1) × Then (q ∷ []) Naming t) k None
      (both 65279 q Naming k None (without_one 65279 (Then (q ∷ []) Naming) k n))
      (never (unit ≡ 1) (Then (q ∷ []) Naming) k more)

  -- the end of a header: no character stands, the last one does, one that may not stand does, one more does
  pub close_none : (n : ℕ) (p : Bool) (k : ℕ) → Stepped enc cs k None → Ends enc cs (Closing n p) k None
  close_none n p k none = λ t x st. go t x st
    where
      go : (t : List ℕ) → Closing n p t → Stands enc cs k t → ⊥
      go [] x st = x
      go (c ∷ t) x st = none c st.0.0 (standing.stands_head enc unit laws cs k c t st)

  pub close_here : (n : ℕ) (p : Bool) (k c e : ℕ) → p ≡ true → c ≡ 62 → Stepped enc cs k (Some (c, e)) → Ends enc cs (Closing n p) k (Some e)
  close_here n p k c e pt ce (s, h, l) = (c ∷ [], inl (pt, ce, refl), one k c s h, let m = one-long c in omega arith)

  pub close_stop : (n : ℕ) (p : Bool) (k c e : ℕ) → (p ≡ true → c ≡ 62 → ⊥) → ((1 ≤ n) → c ≢ 60 → ⊥) → Stepped enc cs k (Some (c, e)) → Ends enc cs (Closing n p) k None
  close_stop n p k c e far bad (s, h, l) = λ t x st. go t x st
    where
      go : (t : List ℕ) → Closing n p t → Stands enc cs k t → ⊥
      go [] x st = x
      go (d ∷ t) x st =
          let same : d ≡ c = standing.only enc unit laws cs k d c st.0.0 s (standing.stands_head enc unit laws cs k d t st) h in
          ⊎_elim (λ y. far y.0 (sym same ∙ y.1)) (λ y. bad y.1 (λ z. y.2 (same ∙ z))) x

  pub close_more : (n : ℕ) (p : Bool) (k c e : ℕ) (r : Option ℕ) → (p ≡ true → c ≡ 62 → ⊥) → 1 ≤ n → c ≢ 60 → Stepped enc cs k (Some (c, e)) → Ends enc cs (Closing (n - 1) (eqb c 63)) e r → Ends enc cs (Closing n p) k r
  close_more n p k c e (Some z) far some ne (s, h, l) x =
      let u = x.0 in
      let a = length-append (enc c) (bytes_of enc u) in
      let m = x.3 in
      (c ∷ u, inr (far, some, ne, x.1), standing.stands_more enc unit laws cs k c u s h (subst (λ i. Stands enc cs i u) l x.2), omega arith)
  close_more n p k c e None far some ne (s, h, l) none = λ t x st. go t x st
    where
      go : (t : List ℕ) → Closing n p t → Stands enc cs k t → ⊥
      go [] x st = x
      go (d ∷ t) x st =
          let same : d ≡ c = standing.only enc unit laws cs k d c st.0.0 s (standing.stands_head enc unit laws cs k d t st) h in
          let behind = subst (λ i. Stands enc cs i t) (sym l) (subst (λ z. Stands enc cs (k + length (enc z)) t) same (standing.stands_tail enc unit laws cs k d t st)) in
          ⊎_elim (λ y. far y.0 (sym same ∙ y.1)) (λ y. none t (subst (λ z. Closing (n - 1) (eqb z 63) t) same y.3) behind) x
