-- At most one header and one trailer stand at a place, and how long a trailer is.
use Rattle.std.proofs.Common.{◌≡◌, ℕ, ◌+◌, ◌-◌, ◌*◌, ◌<◌, ◌≤◌, ◌==◌, nat_le, Bool, true, false, eqb, List, [], ◌∷◌, ◌++◌, length, Some, None, Option, MatchOption, codes, sym, refl, ap, ◌∙◌, subst, ap₂, inl, inr, arith, length-append}
use Rattle.std.specs.Prelude.{max}
use Rattle.std.specs.Bool.{then_some}
use Rattle.std.proofs.lemmas.Bool.{eqb-true, eqb-false, leb-true, leb-false}
use Rattle.medium.specs.Cells.{Cell}
use Rattle.code.specs.Codes.{Laws}
use Rattle.text.specs.Stands.{Scalars, Stands, bytes_of}
use Rattle.text.proofs.Standing as standing
use Rattle.packet.specs.Texts.{Header, Quote, Trailer, packet_id}
use Rattle.packet.specs.Parts.{Closing, Ends, Marked, Named, Naming, Quoting, Then}
use Rattle.packet.specs.Finds.{TrailerAt, mode_of}
use Rattle.packet.specs.Examines.{EndsAt, HeaderBy, TrailerEnding}
use Rattle.packet.specs.declared.trailer.Ending.{Ending}
use Rattle.packet.proofs.Bodies.{first, long}
use Rattle.packet.proofs.Headings.{header-to}

module _ (enc : ℕ → List ℕ) (unit : ℕ) (laws : Laws enc unit) (cs : List Cell) where
  -- at most one text that P is true of stands at a place
  abbrev Unique : (List ℕ → Type 0) → Type 0
  Unique P = (k : ℕ) (t t' : List ℕ) → P t → P t' → Stands enc cs k t → Stands enc cs k t' → t ≡ t'

  unique_then : (w : List ℕ) (P : List ℕ → Type 0) → Unique P → Unique (Then w P)
  unique_then w P u k t t' x x' s s' =
      let b = standing.stands_back enc unit laws cs k w x.0 (subst (Stands enc cs k) x.2 s) in
      let b' = standing.stands_back enc unit laws cs k w x'.0 (subst (Stands enc cs k) x'.2 s') in
      x.2 ∙ ap (λ z. w ++ z) (u (k + length (bytes_of enc w)) x.0 x'.0 x.1 x'.1 b b') ∙ sym x'.2

  -- the first characters of two texts that stand at one place, and what is behind them
  heads : (k c c' : ℕ) (t t' : List ℕ) → Stands enc cs k (c ∷ t) → Stands enc cs k (c' ∷ t') → c ≡ c'
  heads k c c' t t' s s' =
      standing.only enc unit laws cs k c c' s.0.0 s'.0.0 (standing.stands_head enc unit laws cs k c t s) (standing.stands_head enc unit laws cs k c' t' s')

  behind : (k c c' : ℕ) (t' : List ℕ) → c ≡ c' → Stands enc cs k (c' ∷ t') → Stands enc cs (k + length (enc c)) t'
  behind k c c' t' e s =
      subst (λ (z : ℕ). Stands enc cs (k + length (enc z)) t') (sym e) (standing.stands_tail enc unit laws cs k c' t' s)

  unique_quoting : (P : ℕ → List ℕ → Type 0) → ((q : ℕ) → Quote q → Unique (P q)) → Unique (Quoting P)
  unique_quoting P u k t t' x x' s s' =
      let q = x.0 in
      let st = subst (Stands enc cs k) x.4 s in
      let st' = subst (Stands enc cs k) x'.4 s' in
      let e = heads k q x'.0 x.1 x'.1 st st' in
      let p' = subst (λ (z : ℕ). P z x'.1) (sym e) x'.3 in
      let r = u q x.2 (k + length (enc q)) x.1 x'.1 x.3 p' (standing.stands_tail enc unit laws cs k q x.1 st) (behind k q x'.0 x'.1 e st') in
      x.4 ∙ ap₂ ◌∷◌ e r ∙ sym x'.4

  unique_closing : (n : ℕ) (p : Bool) → Unique (Closing n p)
  unique_closing n p k [] t' x x' s s' = absurd x
  unique_closing n p k (c ∷ t) [] x x' s s' = absurd x'
  unique_closing n p k (c ∷ t) (c' ∷ t') (inl x) (inl x') s s' = ap₂ ◌∷◌ (x.1 ∙ sym x'.1) (x.2 ∙ sym x'.2)
  unique_closing n p k (c ∷ t) (c' ∷ t') (inl x) (inr x') s s' = absurd (x'.0 x.0 (sym (heads k c c' t t' s s') ∙ x.1))
  unique_closing n p k (c ∷ t) (c' ∷ t') (inr x) (inl x') s s' = absurd (x.0 x'.0 (heads k c c' t t' s s' ∙ x'.1))
  unique_closing n p k (c ∷ t) (c' ∷ t') (inr x) (inr x') s s' =
      let e = heads k c c' t t' s s' in
      let y = subst (λ (z : ℕ). Closing (n - 1) (eqb z 63) t') (sym e) x'.3 in
      ap₂ ◌∷◌ e (unique_closing (n - 1) (eqb c 63) (k + length (enc c)) t t' x.3 y (standing.stands_tail enc unit laws cs k c t s) (behind k c c' t' e s'))

  unique_naming : Unique Naming
  unique_naming =
      unique_then (codes " id=") (Quoting Named) (unique_quoting Named
      (λ q isq. unique_then packet_id (Then (q ∷ []) (Closing 129 false)) (unique_then (q ∷ []) (Closing 129 false) (unique_closing 129 false))))

  -- where the mark stands, no quote does
  clash : (k q : ℕ) (t t' u u' : List ℕ) → Quote q → t ≡ 65279 ∷ u → t' ≡ q ∷ u' → Stands enc cs k t → Stands enc cs k t' → ⊥
  clash k q t t' u u' isq e e' s s' =
      let same : 65279 ≡ q = heads k 65279 q u u' (subst (Stands enc cs k) e s) (subst (Stands enc cs k) e' s') in
      omega arith

  unique_marked : (q : ℕ) → Quote q → Unique (Marked unit q)
  unique_marked q isq k t t' (inl x) (inl x') s s' = unique_then (65279 ∷ q ∷ []) Naming unique_naming k t t' x x' s s'
  unique_marked q isq k t t' (inl x) (inr x') s s' = absurd (clash k q t t' _ _ isq x.2 x'.1.2 s s')
  unique_marked q isq k t t' (inr x) (inl x') s s' = absurd (clash k q t' t _ _ isq x'.2 x.1.2 s' s)
  unique_marked q isq k t t' (inr x) (inr x') s s' = unique_then (q ∷ []) Naming unique_naming k t t' x.1 x'.1 s s'

  unique_header : Unique (Header unit)
  unique_header k t t' x x' s s' =
      unique_then (codes "<?xpacket begin=") (Quoting (Marked unit)) (unique_quoting (Marked unit) unique_marked) k t t' (header-to unit t x) (header-to unit t' x') s s'

  -- so the ends of two that stand at one place are equal
  pub header-ends : (k e f : ℕ) → Ends enc cs (Header unit) k (Some e) → Ends enc cs (Header unit) k (Some f) → e ≡ f
  header-ends k e f x y =
      x.3 ∙ ap (λ t. k + length (bytes_of enc t)) (unique_header k x.0 y.0 x.1 y.1 x.2 y.2) ∙ sym y.3

  pub trailer-ends : (k e f : ℕ) (v w : Bool) → Ends enc cs (Trailer (mode_of v)) k (Some e) → Ends enc cs (Trailer (mode_of w)) k (Some f) → e ≡ f
  trailer-ends k e f v w x y =
      let l = long enc unit laws cs (mode_of v) x.0 x.1 ∙ sym (long enc unit laws cs (mode_of w) y.0 y.1) in
      x.3 ∙ ap (λ t. k + length (bytes_of enc t)) (standing.same_text enc unit laws cs k x.0 y.0 l x.2 y.2) ∙ sym y.3

  -- the header at k, taken if it ends by the limit
  pub header-by : (k limit : ℕ) (a r : Option ℕ) → Ends enc cs (Header unit) k a → MatchOption a (r ≡ None) (λ e. r ≡ then_some (nat_le e limit) e) → HeaderBy enc cs unit limit k r
  header-by k limit None r n e = rw e (λ f x l. n x.0 x.1 x.2)
  header-by k limit (Some x) r t e = rw e (by (nat_le x limit) refl)
    where
      by : (b : Bool) → nat_le x limit ≡ b → HeaderBy enc cs unit limit k (then_some b x)
      by true q = (t, leb-true x limit q)
      by false q = λ f y l. let same = header-ends k x f t y in let h = leb-false x limit q in omega arith

  -- the trailer at k, taken if it ends at the place
  pub ends-at : (k end : ℕ) (x : Ending) (r : Option Bool) → TrailerAt enc cs k (Some x) → r ≡ then_some (x.end == end) x.writable → EndsAt enc cs end k r
  ends-at k end x r t e = rw e (by (x.end == end) refl)
    where
      by : (b : Bool) → (x.end == end) ≡ b → EndsAt enc cs end k (then_some b x.writable)
      by true q = subst (λ (n : ℕ). Ends enc cs (Trailer (mode_of x.writable)) k (Some n)) (eqb-true x.end end q) t
      by false q = λ w y. eqb-false x.end end q (trailer-ends k x.end end x.writable w t y)

  -- a text takes at most four cells a character
  bytes_few : (t : List ℕ) → Scalars t → length (bytes_of enc t) ≤ 4 * length t
  bytes_few [] s = omega arith
  bytes_few (v ∷ t) s =
      let a = length-append (enc v) (bytes_of enc t) in
      let i = bytes_few t s.1 in
      let f = laws.few v s.0 in
      omega arith

  -- so a trailer takes one to seventy-six
  pub trailer-size : (w : Bool) (k e : ℕ) → Ends enc cs (Trailer (mode_of w)) k (Some e) → (k < e) × (e ≤ k + 76)
  trailer-size w k e x =
      let f = first enc unit laws cs (mode_of w) x.0 x.1 in
      let st = subst (Stands enc cs k) f.1 x.2 in
      let some = laws.some 60 st.0.0 in
      let m = ap (λ u. length (bytes_of enc u)) f.1 ∙ length-append (enc 60) (bytes_of enc f.0) in
      let b = bytes_few x.0 x.2.0 in
      let n = long enc unit laws cs (mode_of w) x.0 x.1 in
      let l = x.3 in
      (omega arith, omega arith)

  -- the trailer that ends at the place, from a search through the places from which one can reach it
  pub trailer-ending : (start low end : ℕ) (r : Option Bool) → low ≡ max (end - 76) start → MatchOption r ((q : ℕ) → low ≤ q → q < end → EndsAt enc cs end q None) (λ w. (q : ℕ) × (low ≤ q) × (q < end) × EndsAt enc cs end q (Some w)) → TrailerEnding enc cs start end r
  trailer-ending start low end (Some w) e (q, l, h, x) = (q, omega arith, x)
  trailer-ending start low end None e n = λ w q l x. let s = trailer-size w q end x in n q (omega arith) (omega arith) w x
