-- The reader answers the least fault, or what it has read if there is none.
use Rattle.std.proofs.Common.{◌≡◌, ℕ, zero, suc, ◌+◌, ◌-◌, ◌<◌, ◌≤◌, Bool, true, false, cond, ◌⊎◌, ◌↔◌, [], ◌∷◌, length, get_or, Some, None, Option, sym, refl, ap, ◌∙◌, subst, inl, inr, arith}
use Rattle.names.specs.Order.{Text}
use Rattle.names.proofs.Never.{never}
use Rattle.xml.specs.Faults.{ill_formed, misplaced, inside, unfinished, Fault, forbidden, stands, Least, Lowest, First, Answer, taken, refused}
use Rattle.xml.specs.Reader.{is_lesser, merge, first_bad, Halt, at_once, judged, judge, halt, carry, walk, placed, answer, read}
use Rattle.xml.proofs.Least.{Clear, no_item, Fr, Wr, Clean, stay, go, clean_front, front_place, beyond, both}

not_none : {X A : Type 0} {x : X} → None ≡ Some x → A
not_none e = never cc

one_of : {X A : Type 0} (x y : X) (b : Bool) → cond b (Some x) (Some y) ≡ None → A
one_of x y true e = not_none (sym e)
one_of x y false e = not_none (sym e)

-- a test for one family is a test for another that holds alike
pub through : (P Q : ℕ → ℕ → Type 0) → ((k n : ℕ) → P k n → Q k n) → ((k n : ℕ) → Q k n → P k n) → (o : Option (ℕ × ℕ)) → First P o → First Q o
through P Q f g None h = λ k n z. h k n (g k n z)
through P Q f g (Some x) h = (f _ _ h.0, λ k n z. h.1 k n (g k n z))

-- there is one least fault at most
pub least_once : {F : ℕ → ℕ → Type 0} {p n q m : ℕ} → Least F p n → Least F q m → (p ≡ q) × (n ≡ m)
least_once {p = p} {n = n} {q = q} {m = m} h k = let a = h.1 q m k.0 in let b = k.1 p n h.0 in (omega (arith, a.0, b.0), omega (arith, a.0, b.0, a.1, b.1))

-- the forbidden characters, counted from b
data Bads (Forbidden : ℕ → Type 0) (b : ℕ) (s : Text) : ℕ → ℕ → Type 0 where
  bads : (p : ℕ) → p < length s → Forbidden (get_or s p 0) → Bads Forbidden b s (b + p) 5

module _ (Forbidden : ℕ → Type 0) (bad : ℕ → Bool) (says : (c : ℕ) → bad c ≡ true → Forbidden c) (tells : (c : ℕ) → bad c ≡ false → Forbidden c → ⊥) where
  abbrev B : ℕ → Text → ℕ → ℕ → Type 0
  B = Bads Forbidden

  later : (b : ℕ) (c : ℕ) (s : Text) (p n : ℕ) → B (b + 1) s p n → B b (c ∷ s) p n
  later b c s p n (bads i h k) = subst (λ j. B b (c ∷ s) j 5) (omega arith) (bads (suc i) (omega arith) k)

  earlier : (b : ℕ) (c : ℕ) (s : Text) → bad c ≡ false → (p n : ℕ) → B b (c ∷ s) p n → B (b + 1) s p n
  earlier b c s e p n (bads zero h k) = absurd (tells c e k)
  earlier b c s e p n (bads (suc i) h k) = subst (λ j. B (b + 1) s j 5) (omega arith) (bads i (omega arith) k)

  none_in : (b p n : ℕ) → B b [] p n → ⊥
  none_in b p n (bads i h k) = absurd (omega arith)

  from_here : (b : ℕ) (s : Text) (q m : ℕ) → B b s q m → (b ≤ q) × (q ≤ b → 5 ≤ m)
  from_here b s q m (bads i h k) = (omega arith, λ z. omega arith)

  bad_least : (b : ℕ) (s : Text) → First (B b s) (first_bad bad b s)
  bad_least b [] = none_in b
  bad_least b (c ∷ s) = pick (bad c) refl (bad_least (b + 1) s)
    where
      pick : (t : Bool) → bad c ≡ t → First (B (b + 1) s) (first_bad bad (b + 1) s) → First (B b (c ∷ s)) (cond t (Some (b, 5)) (first_bad bad (b + 1) s))
      pick true e h = (subst (λ j. B b (c ∷ s) j 5) (omega arith) (bads 0 (omega arith) (says c e)), from_here b (c ∷ s))
      pick false e h = through (B (b + 1) s) (B b (c ∷ s)) (later b c s) (earlier b c s e) _ h

module _ {T C : Type 0} (Item : Text → T → Text → Type 0) (after : ℕ → C → T → C) (Wrong : C → T → ℕ → Type 0) (Inner : T → ℕ → ℕ → Type 0) (Lacks : C → ℕ → Type 0) where
  abbrev Fore : ℕ → C → Text → ℕ → C → Text → Type 0
  Fore = Fr Item after Wrong Inner Lacks

  abbrev Ill : C → Text → ℕ → ℕ → Type 0
  Ill = Wr Item after Wrong Inner Lacks

  abbrev Way : ℕ → C → Text → ℕ → C → Text → Type 0
  Way = Clean Item after Wrong Inner Lacks

  -- the faults but for those of single characters
  data Stands (c : C) (s : Text) : ℕ → ℕ → Type 0 where
    place : {e : ℕ} {d : C} {q : Text} {k n : ℕ} → Fore 0 c s e d q → Ill d q k n → Stands c s (e + k) n

  -- what the reader's parts are held to
  pub record Parts (item : Text → Option (T × Text)) (check : C → T → Option ℕ) (inner : T → Option (ℕ × ℕ)) (lacks : C → Option ℕ) : Type 0 where
    pub takes : {s r : Text} {t : T} → Item s t r → item s ≡ Some (t, r)
    pub sound : (s : Text) (x : T × Text) → item s ≡ Some x → Item s x.0 x.1
    pub shorter : {s r : Text} {t : T} → Item s t r → length r < length s
    pub checks : (c : C) (t : T) → Lowest (Wrong c t) (check c t)
    pub inners : (t : T) → First (Inner t) (inner t)
    pub within : {s r : Text} {t : T} {k n : ℕ} → Item s t r → Inner t k n → k + length r < length s
    pub ends : (c : C) → Lowest (Lacks c) (lacks c)

  module _ {item : Text → Option (T × Text)} {check : C → T → Option ℕ} {inner : T → Option (ℕ × ℕ)} {lacks : C → Option ℕ} (parts : Parts item check inner lacks) where
    get : T × Text → Option (T × Text) → T × Text
    get d None = d
    get d (Some x) = x

    once : {s r q : Text} {t u : T} → Item s t r → Item s u q → (t ≡ u) × (r ≡ q)
    unfolding get
    once {r = r} {t = t} i j =
        let e = ap (get (t, r)) (sym (parts.takes i) ∙ parts.takes j) in
        (ap (λ x. x.0) e, ap (λ x. x.1) e)

    pub clear : Clear Item
    clear = record { shorter = parts.shorter; once = once }

    -- what may be wrong at the end, at an item, and where no item begins
    at_end_lem : {c : C} {q : Text} {k n : ℕ} → q ≡ [] → Ill c q k n → (k ≡ 0) × Lacks c n
    at_end_lem e (ill_formed h k) = absurd (h e)
    at_end_lem e (misplaced i w) = no_item clear i e
    at_end_lem e (inside i w) = no_item clear i e
    at_end_lem e (unfinished h l) = (refl, l)

    at_item : {c : C} {q r : Text} {t : T} {k n : ℕ} → Item q t r → Ill c q k n → ((k ≡ 0) × Wrong c t n) ⊎ Inner t k n
    at_item i (ill_formed h k) = absurd (k _ _ i)
    at_item {c = c} i (misplaced {n = n} j w) = inl (refl, subst (λ u. Wrong c u n) (once j i).0 w)
    at_item i (inside {k = k} {n = n} j w) = inr (subst (λ u. Inner u k n) (once j i).0 w)
    at_item i (unfinished h l) = no_item clear i h

    at_none : {c : C} {q : Text} {k n : ℕ} → (q ≡ [] → ⊥) → item q ≡ None → Ill c q k n → (k ≡ 0) × (n ≡ 6)
    at_none h e (ill_formed k l) = (refl, refl)
    at_none h e (misplaced i w) = not_none (sym e ∙ parts.takes i)
    at_none h e (inside i w) = not_none (sym e ∙ parts.takes i)
    at_none h e (unfinished k l) = absurd (h k)

    -- what is wrong with an item is wrong before the item ends
    near : {c : C} {q r : Text} {t : T} {k n : ℕ} → Item q t r → Ill c q k n → k + length r < length q
    near i a = let l = parts.shorter i in elim (at_item i a) [ inl x ↦ let e = x.0 in omega (arith, e, l) | inr y ↦ parts.within i y ]

    -- the judgement is of what stands here
    at_start : (P : ℕ → Type 0) (o : Option ℕ) → Lowest P o → First (λ k n. (k ≡ 0) × P n) (at_once item after check inner lacks o)
    at_start P None h = λ k n z. h n z.1
    at_start P (Some n) h = ((refl, h.0), λ k m z. (omega arith, λ _. h.1 m z.1))

    not_nil : (x : ℕ) (q : Text) → x ∷ q ≡ [] → ⊥
    not_nil x q e = let h = ap length e in omega arith

    misplaced_here : (c : C) (q r : Text) (t : T) → Item q t r → (k n : ℕ) → (k ≡ 0) × Wrong c t n → Ill c q k n
    misplaced_here c q r t i k n z = subst (λ j. Ill c q j n) (sym z.0) (misplaced i z.1)

    unfinished_here : (c : C) (k n : ℕ) → (k ≡ 0) × Lacks c n → Ill c [] k n
    unfinished_here c k n z = subst (λ j. Ill c [] j n) (sym z.0) (unfinished refl z.1)

    judges : (c : C) (q : Text) → First (Ill c q) (judge item after check inner lacks c q)
    judges c [] = through (λ k n. (k ≡ 0) × Lacks c n) (Ill c []) (unfinished_here c) (λ k n a. at_end_lem refl a) _ (at_start (Lacks c) (lacks c) (parts.ends c))
    judges c (x ∷ q) = pick (item (x ∷ q)) refl
      where
        pick : (o : Option (T × Text)) → item (x ∷ q) ≡ o → First (Ill c (x ∷ q)) (judged item after check inner lacks c o)
        pick None e =
            (ill_formed (not_nil x q) (λ t r i. not_none (sym e ∙ parts.takes i)), λ k m a. let h = at_none (not_nil x q) e a in (omega arith, λ _. omega (arith, h.1)))
        pick (Some y) e =
            let i = parts.sound (x ∷ q) y e in
            both (misplaced_here c (x ∷ q) y.1 y.0 i) (λ k n z. inside i z) (λ k n a. at_item i a) _ (inner y.0)
            (at_start (Wrong c y.0) (check c y.0) (parts.checks c y.0)) (parts.inners y.0)

    -- the walk is clean, and ends where something is wrong or where nothing is left
    record Walked (p : ℕ) (c : C) (s : Text) (w : Halt C) : Type 0 where
      clean : Way p c s w.place w.context w.rest
      wrong : First (Ill w.context w.rest) w.wrong
      all : w.wrong ≡ None → w.rest ≡ []

    gone : (c : C) (q : Text) → judge item after check inner lacks c q ≡ None → item q ≡ None → q ≡ []
    gone c [] h e = refl
    gone c (x ∷ q) h e = not_none (sym h ∙ ap (judged item after check inner lacks c) e)

    walked : (k p : ℕ) (c : C) (s : Text) → length s ≤ k → Walked p c s (walk item after check inner lacks k p c s)
    unfolding walk
    walked zero p c [] h = record { clean = stay; wrong = judges c []; all = λ e. refl }
    walked zero p c (x ∷ s) h = absurd (omega arith)
    walked (suc k) p c s h =
        pick (judge item after check inner lacks c s) refl (item s) refl
        (λ t r i. walked k (p + (length s - length r)) (after p c t) r (let l = parts.shorter i in omega arith))
      where
        step : T → Text → Halt C
        step t r = walk item after check inner lacks k (p + (length s - length r)) (after p c t) r

        pick : (o : Option (ℕ × ℕ)) → judge item after check inner lacks c s ≡ o → (i : Option (T × Text)) → item s ≡ i
            → ((t : T) (r : Text) → Item s t r → Walked (p + (length s - length r)) (after p c t) r (step t r))
            → Walked p c s (carry item after check inner lacks (halt item after check inner lacks p c s) o i step)
        pick (Some n) e i f rec = record { clean = stay; wrong = judges c s; all = λ z. not_none (sym z ∙ e) }
        pick None e None f rec = record { clean = stay; wrong = judges c s; all = λ z. gone c s e f }
        pick None e (Some x) f rec =
            let i = parts.sound s x f in
            let w = rec x.0 x.1 i in
            record { clean = go (subst (First (Ill c s)) e (judges c s)) i w.clean; wrong = w.wrong; all = w.all }

    -- the theorem
    module _ (Forbidden : ℕ → Type 0) (bad : ℕ → Bool) (says : (x : ℕ) → bad x ≡ true → Forbidden x) (tells : (x : ℕ) → bad x ≡ false → Forbidden x → ⊥) (c : C) (s : Text) where
      abbrev F : ℕ → ℕ → Type 0
      F = Fault Item after Wrong Inner Lacks Forbidden c s

      abbrev Told : Answer C → Type 0
      Told (taken d) = ((p n : ℕ) → F p n → ⊥) × (e : ℕ) × Way 0 c s e d []
      Told (refused p n) = Least F p n

      -- every fault stands in the text, or at its end
      within-rest : {d : C} {q : Text} {k n : ℕ} → Ill d q k n → k ≤ length q
      within-rest (ill_formed h k) = omega arith
      within-rest (misplaced i w) = omega arith
      within-rest (inside i w) = let l = parts.within i w in omega arith
      within-rest (unfinished h l) = omega arith

      pub fault_place : (p n : ℕ) → F p n → p ≤ length s
      fault_place p n (forbidden i h k) = omega arith
      fault_place p n (stands f a) = let l = front_place Item after Wrong Inner Lacks clear f in let k = within-rest a in omega arith

      left : (p n : ℕ) → Stands c s p n → F p n
      left p n (place f a) = stands f a

      right : (p n : ℕ) → Bads Forbidden 0 s p n → F p n
      right p n (bads i h k) = subst (λ j. F j 5) (omega arith) (forbidden i h k)

      split : (p n : ℕ) → F p n → Stands c s p n ⊎ Bads Forbidden 0 s p n
      split p n (forbidden i h k) = inr (subst (λ j. Bads Forbidden 0 s j 5) (omega arith) (bads i h k))
      split p n (stands f a) = inl (place f a)

      stood : {e : ℕ} {d : C} {q : Text} (o : Option (ℕ × ℕ)) → Way 0 c s e d q → First (Ill d q) o → (o ≡ None → q ≡ [])
          → First (Stands c s) (placed item after check inner lacks e o)
      stood None k h z = none_stands
        where
          none_stands : (p n : ℕ) → Stands c s p n → ⊥
          none_stands p n (place f a) = elim (beyond Item after Wrong Inner Lacks clear k f a) [ inl x ↦ h _ _ x.0 | inr y ↦ no_item clear y.2 (z refl) ]
      stood {e} {d} {q} (Some x) k h z = (place (clean_front Item after Wrong Inner Lacks k) h.0, behind)
        where
          behind : (p m : ℕ) → Stands c s p m → (e + x.0 ≤ p) × (p ≤ e + x.0 → x.1 ≤ m)
          behind p m (place {k = j} f a) =
              elim (beyond Item after Wrong Inner Lacks clear k f a) [
                | inl y ↦ let b = h.1 j m y.0 in let u = y.1 in (omega (arith, b.0, u), λ l. b.1 (omega (arith, u, l)))
                | inr y ↦ let n = near y.2 h.0 in let u = y.3 in (omega (arith, n, u), λ l. absurd (omega (arith, n, u, l)))
              ]

      merged : (p : ℕ) (o b : Option (ℕ × ℕ)) → merge (placed item after check inner lacks p o) b ≡ None → o ≡ None
      merged p None b e = refl
      merged p (Some x) None e = not_none (sym e)
      merged p (Some x) (Some y) e = one_of (p + x.0, x.1) y (is_lesser (p + x.0, x.1) y) e

      whole : {e : ℕ} {d : C} {q : Text} (x : Option (ℕ × ℕ)) → (x ≡ None → q ≡ []) → Way 0 c s e d q → First F x
          → Told (answer item after check inner lacks d x)
      whole {e} {d} None z k h = (h, e, subst (Way 0 c s e d) (z refl) k)
      whole (Some x) z k h = h

      told : Told (read item after check inner lacks bad c s)
      told =
          let w = walk item after check inner lacks (length s) 0 c s in
          let k = walked (length s) 0 c s (omega arith) in
          whole (merge (placed item after check inner lacks w.place w.wrong) (first_bad bad 0 s)) (λ e. k.all (merged _ w.wrong (first_bad bad 0 s) e)) k.clean
          (both left right split _ _ (stood w.wrong k.clean k.wrong k.all) (bad_least Forbidden bad says tells 0 s))

      -- it answers a refusal exactly when that is the least fault
      refusing : (r : Answer C) → Told r → (p n : ℕ) → (r ≡ refused p n) ↔ Least F p n
      refusing (taken d) h p n = (λ e. subst Told e h, λ k. absurd (h.0 p n k.0))
      refusing (refused q m) h p n = (λ e. subst Told e h, λ k. let o = least_once h k in cc)

      pub refuses : (p n : ℕ) → (read item after check inner lacks bad c s ≡ refused p n) ↔ Least F p n
      refuses = refusing (read item after check inner lacks bad c s) told

      -- what it takes has no fault, and was read whole; and it takes what has no fault
      pub takes : (d : C) → read item after check inner lacks bad c s ≡ taken d → ((p n : ℕ) → F p n → ⊥) × (e : ℕ) × Way 0 c s e d []
      takes d e = subst Told e told

      taking : (r : Answer C) → Told r → ((p n : ℕ) → F p n → ⊥) → (d : C) × (r ≡ taken d)
      taking (taken d) h k = (d, refl)
      taking (refused p n) h k = absurd (k p n h.0)

      pub faultless : ((p n : ℕ) → F p n → ⊥) → (d : C) × (read item after check inner lacks bad c s ≡ taken d)
      faultless = taking (read item after check inner lacks bad c s) told
