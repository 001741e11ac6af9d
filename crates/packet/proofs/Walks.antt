-- The way from a header to the first trailer is one way only: at every character of it at most one thing can be found.
use Rattle.std.proofs.Common.{◌≡◌, ℕ, zero, suc, ◌+◌, ◌<◌, ◌≤◌, Bool, true, false, List, length, get_or, Some, Ok, Err, Result, sym, refl, ap, ◌∙◌, subst, ap₂, ⊎_elim, arith}
use Rattle.std.proofs.lemmas.Bool.{cases_order}
use Rattle.medium.specs.Cells.{Cell}
use Rattle.medium.specs.declared.failure.MediumFault.TheVariants.{OutOfRange, Lost}
use Rattle.code.specs.Codes.{Laws}
use Rattle.code.specs.declared.failure.CodeFault.{CodeFault}
use Rattle.code.specs.declared.failure.CodeFault.TheVariants.{Unread, NoCharacter}
use Rattle.text.specs.Stands.{CharAt, Cut, NoChar, bytes_of}
use Rattle.text.proofs.Standing as standing
use Rattle.packet.specs.Texts.{Trailer}
use Rattle.packet.specs.Parts.{Ends}
use Rattle.packet.specs.Finds.{FirstTrailer, NoTrailerBy, OneOn, Over, Passed, begun, mode_of, more}
use Rattle.packet.specs.declared.trailer.Ending.{Ending}
use Rattle.packet.specs.declared.failure.PacketFault.{PacketFault}
use Rattle.packet.specs.declared.failure.PacketFault.TheVariants.{Unreadable, NoHeader, NoTrailer}
use Rattle.packet.proofs.Bodies as body

-- of two first lost cells one is the other
cut_once : (cs : List Cell) (k p q : ℕ) → Cut cs k p → Cut cs k q → p ≡ q
cut_once cs k p q x y =
    ⊎_elim (λ e. e) (λ o. ⊎_elim (λ h. absurd (y.4 p x.0 h x.3)) (λ h. absurd (x.4 q y.0 h y.3)) o) (cases_order p q)

module _ (enc : ℕ → List ℕ) (unit : ℕ) (laws : Laws enc unit) (cs : List Cell) where
  -- a place has at most one fault
  pub fault_once : (k : ℕ) (f g : CodeFault) → CharAt enc cs k (Err f) → CharAt enc cs k (Err g) → f ≡ g
  fault_once k (Unread (OutOfRange p)) g x y = absurd x
  fault_once k (Unread (Lost p)) (Unread (OutOfRange q)) x y = absurd y
  fault_once k (Unread (Lost p)) (Unread (Lost q)) x y = ap (λ n. Unread (Lost n)) (cut_once cs k p q x.1 y.1)
  fault_once k (Unread (Lost p)) (NoCharacter q) x y = absurd (y.2 p x.1)
  fault_once k (NoCharacter p) (Unread (OutOfRange q)) x y = absurd y
  fault_once k (NoCharacter p) (Unread (Lost q)) x y = absurd (x.2 q y.1)
  fault_once k (NoCharacter p) (NoCharacter q) x y = ap (λ n. NoCharacter n) (x.1 ∙ sym y.1)

  pub none_here : (k : ℕ) (f : CodeFault) → CharAt enc cs k (Err f) → NoChar enc cs k
  none_here k (Unread (OutOfRange p)) x = absurd x
  none_here k (Unread (Lost p)) x = x.0
  none_here k (NoCharacter p) x = x.0

  one_way : (limit k e d : ℕ) → OneOn enc cs limit k e → OneOn enc cs limit k d → e ≡ d
  one_way limit k e d x y =
      let same : x.0 ≡ y.0 = standing.only enc unit laws cs k x.0 y.0 x.1 y.1 x.2 y.2 in
      x.3 ∙ ap (λ v. k + length (enc v)) same ∙ sym y.3

  some_on : (limit k e : ℕ) → OneOn enc cs limit k e → k < e
  some_on limit k e x = let l = laws.some x.0 x.1 in let m = x.3 in omega arith

  abbrev Ahead : ℕ → ℕ → ℕ → Type 0
  Ahead limit p q = (e : ℕ) × NoTrailerBy enc cs limit p × OneOn enc cs limit p e × (e ≤ q)

  -- who has come to p and to a place behind it went on from p
  ahead : (n start limit p q : ℕ) → p + q < n → Passed enc cs start limit q → Passed enc cs start limit p → p < q → Ahead limit p q
  ahead zero start limit p q h x y l = absurd (omega arith)
  ahead (suc n) start limit p q h begun y l = let b = body.passed_on enc unit laws cs start limit p y in absurd (omega arith)
  ahead (suc n) start limit p q h (more r e x t o) y l =
      let s = some_on limit r q o in
      ⊎_elim
      (λ (i : p ≡ r). (q, subst (NoTrailerBy enc cs limit) (sym i) t, subst (λ m. OneOn enc cs limit m q) (sym i) o, omega arith))
      (λ c. ⊎_elim
      (λ (i : p < r). let z = ahead n start limit p r (omega arith) x y i in (z.0, z.1, z.2, (let b = z.3 in omega arith)))
      (λ (i : r < p). let z = ahead n start limit r p (omega arith) y x i in let w = one_way limit r z.0 q z.2 o in let b = z.3 in absurd (omega arith)) c)
      (cases_order p r)

  -- no character of a walk follows q
  abbrev Stop : ℕ → ℕ → Type 0
  Stop limit q = (e : ℕ) → NoTrailerBy enc cs limit q → OneOn enc cs limit q e → ⊥

  meet : (start limit p q : ℕ) → Passed enc cs start limit p → Passed enc cs start limit q → Stop limit p → Stop limit q → p ≡ q
  meet start limit p q x y s t =
      ⊎_elim (λ e. e)
      (λ c. ⊎_elim
      (λ (i : p < q). let z = ahead (suc (p + q)) start limit p q (omega arith) y x i in absurd (s z.0 z.1 z.2))
      (λ (i : q < p). let z = ahead (suc (q + p)) start limit q p (omega arith) x y i in absurd (t z.0 z.1 z.2)) c)
      (cases_order p q)

  stop_trailer : (limit q e : ℕ) (w : Bool) → Ends enc cs (Trailer (mode_of w)) q (Some e) → e ≤ limit → Stop limit q
  stop_trailer limit q e w x h = λ d n o. n w x.0 x.1 x.2 (let l = x.3 in omega arith)

  stop_unread : (limit q : ℕ) (f : CodeFault) → CharAt enc cs q (Err f) → Stop limit q
  stop_unread limit q f x = λ d n o. none_here q f x o.0 o.1 o.2

  stop_over : (limit q : ℕ) → Over enc cs limit q → Stop limit q
  stop_over limit q x = λ d n o.
      let r = standing.reach cs q (enc o.0) (laws.some o.0 o.1) o.2 in
      let l = laws.some o.0 o.1 in
      let m = o.3 in
      let b = o.4 in
      ⊎_elim (λ a. omega arith)
      (λ y. ⊎_elim (λ a. omega arith)
      (λ v. let same : v.0 ≡ o.0 = standing.only enc unit laws cs q v.0 o.0 v.1 o.1 v.2 o.2 in
      let c = v.3 in let k = ap (λ z. length (enc z)) same in omega arith) y) x

  letter : (w v : Bool) → mode_of w ≡ mode_of v → w ≡ v
  letter true true e = refl
  letter true false e = absurd (omega arith)
  letter false true e = absurd (omega arith)
  letter false false e = refl

  -- two trailers at one place
  trailers : (k d e : ℕ) (w v : Bool) → Ends enc cs (Trailer (mode_of w)) k (Some d) → Ends enc cs (Trailer (mode_of v)) k (Some e) → (w ≡ v) × (d ≡ e)
  trailers k d e w v x y =
      let same : x.0 ≡ y.0 = standing.same_text enc unit laws cs k x.0 y.0 (ap length x.1.spelt ∙ sym (ap length y.1.spelt)) x.2 y.2 in
      (letter w v (sym (ap (λ t. get_or t 15 0) x.1.spelt) ∙ ap (λ t. get_or t 15 0) same ∙ ap (λ t. get_or t 15 0) y.1.spelt), x.3 ∙ ap (λ t. k + length (bytes_of enc t)) same ∙ sym y.3)

  over_or_read : (limit q : ℕ) (f : CodeFault) → Over enc cs limit q → q < length cs → q < limit → CharAt enc cs q (Err f) → ⊥
  over_or_read limit q f x h l c = ⊎_elim (λ a. omega arith) (λ y. ⊎_elim (λ a. omega arith) (λ v. none_here q f c v.0 v.1 v.2) y) x

  -- no two answers of different kinds
  found_unread : (place start : ℕ) (x : Ending) (f : CodeFault) → FirstTrailer enc cs place start (Ok x) → FirstTrailer enc cs place start (Err (Unreadable f)) → ⊥
  found_unread place start x f a b =
      let lim = place + 16384 in
      let q : a.0 ≡ b.0 = meet start lim a.0 b.0 a.1 b.1 (stop_trailer lim a.0 x.end x.writable a.2 a.3) (stop_unread lim b.0 f b.5) in
      subst (NoTrailerBy enc cs lim) (sym q) b.2 x.writable a.2.0 a.2.1 a.2.2 (let l = a.2.3 in let h = a.3 in omega arith)

  found_over : (place start : ℕ) (x : Ending) (p : ℕ) → FirstTrailer enc cs place start (Ok x) → FirstTrailer enc cs place start (Err (NoTrailer p)) → ⊥
  found_over place start x p a b =
      let lim = place + 16384 in
      let q : a.0 ≡ b.1 = meet start lim a.0 b.1 a.1 b.2 (stop_trailer lim a.0 x.end x.writable a.2 a.3) (stop_over lim b.1 b.4) in
      subst (NoTrailerBy enc cs lim) (sym q) b.3 x.writable a.2.0 a.2.1 a.2.2 (let l = a.2.3 in let h = a.3 in omega arith)

  unread_over : (place start : ℕ) (f : CodeFault) (p : ℕ) → FirstTrailer enc cs place start (Err (Unreadable f)) → FirstTrailer enc cs place start (Err (NoTrailer p)) → ⊥
  unread_over place start f p a b =
      let lim = place + 16384 in
      let q : a.0 ≡ b.1 = meet start lim a.0 b.1 a.1 b.2 (stop_unread lim a.0 f a.5) (stop_over lim b.1 b.4) in
      over_or_read lim a.0 f (subst (Over enc cs lim) (sym q) b.4) a.3 a.4 a.5

  -- so there is one answer
  pub trailer-once : (place start : ℕ) (r s : Result Ending PacketFault) → FirstTrailer enc cs place start r → FirstTrailer enc cs place start s → r ≡ s
  trailer-once place start (Ok x) (Ok y) a b =
      let lim = place + 16384 in
      let q : a.0 ≡ b.0 = meet start lim a.0 b.0 a.1 b.1 (stop_trailer lim a.0 x.end x.writable a.2 a.3) (stop_trailer lim b.0 y.end y.writable b.2 b.3) in
      let t = trailers b.0 x.end y.end x.writable y.writable (subst (λ n. Ends enc cs (Trailer (mode_of x.writable)) n (Some x.end)) q a.2) b.2 in
      ap₂ (λ m n. Ok (record { writable = m; end = n })) t.0 t.1
  trailer-once place start (Ok x) (Err (Unreadable f)) a b = absurd (found_unread place start x f a b)
  trailer-once place start (Ok x) (Err (NoHeader p)) a b = absurd b
  trailer-once place start (Ok x) (Err (NoTrailer p)) a b = absurd (found_over place start x p a b)
  trailer-once place start (Err (Unreadable f)) (Ok y) a b = absurd (found_unread place start y f b a)
  trailer-once place start (Err (Unreadable f)) (Err (Unreadable g)) a b =
      let lim = place + 16384 in
      let q : a.0 ≡ b.0 = meet start lim a.0 b.0 a.1 b.1 (stop_unread lim a.0 f a.5) (stop_unread lim b.0 g b.5) in
      ap (λ h. Err (Unreadable h)) (fault_once b.0 f g (subst (λ n. CharAt enc cs n (Err f)) q a.5) b.5)
  trailer-once place start (Err (Unreadable f)) (Err (NoHeader p)) a b = absurd b
  trailer-once place start (Err (Unreadable f)) (Err (NoTrailer p)) a b = absurd (unread_over place start f p a b)
  trailer-once place start (Err (NoHeader p)) s a b = absurd a
  trailer-once place start (Err (NoTrailer p)) (Ok y) a b = absurd (found_over place start y p b a)
  trailer-once place start (Err (NoTrailer p)) (Err (Unreadable f)) a b = absurd (unread_over place start f p b a)
  trailer-once place start (Err (NoTrailer p)) (Err (NoHeader q)) a b = absurd b
  trailer-once place start (Err (NoTrailer p)) (Err (NoTrailer q)) a b = ap (λ n. Err (NoTrailer n)) (a.0 ∙ sym b.0)
