-- Finding a packet has one answer.
use Rattle.std.proofs.Common.{◌≡◌, ℕ, ◌+◌, ◌<◌, Bool, List, Some, None, Ok, Err, Result, sym, ap, ◌∙◌, subst, ⊎_elim, arith}
use Rattle.std.proofs.lemmas.Bool.{cases_order}
use Rattle.medium.specs.Cells.{Cell}
use Rattle.code.specs.Codes.{Laws}
use Rattle.packet.specs.Finds.{Finds, FirstHeader, FirstTrailer, OneAnswer}
use Rattle.packet.specs.declared.trailer.Ending.{Ending}
use Rattle.packet.specs.declared.failure.PacketFault.{PacketFault}
use Rattle.packet.specs.declared.failure.PacketFault.TheVariants.{Unreadable, NoHeader, NoTrailer}
use Rattle.packet.proofs.Again.{header-ends}
use Rattle.packet.proofs.Walks.{trailer-once}

module _ (enc : ℕ → List ℕ) (unit : ℕ) (laws : Laws enc unit) (cs : List Cell) where
  first-once : (p s q t : ℕ) → FirstHeader enc cs unit (Some (p, s)) → FirstHeader enc cs unit (Some (q, t)) → (p ≡ q) × (s ≡ t)
  first-once p s q t x y =
      let e : p ≡ q =
      ⊎_elim (λ i. i) (λ c. ⊎_elim (λ (i : p < q). absurd (y.1 p i x.0.0 x.0.1 x.0.2)) (λ (i : q < p). absurd (x.1 q i y.0.0 y.0.1 y.0.2)) c)
      (cases_order p q) in
      (e, header-ends enc unit laws cs q s t (subst (λ n. FirstHeader enc cs unit (Some (n, s))) e x).0 y.0)

  -- one header, and then one answer
  via : (p s q t : ℕ) (a b : Result Ending PacketFault) → FirstHeader enc cs unit (Some (p, s)) → FirstTrailer enc cs p s a → FirstHeader enc cs unit (Some (q, t)) → FirstTrailer enc cs q t b → (p ≡ q) × (a ≡ b)
  via p s q t a b x u y v =
      let o = first-once p s q t x y in
      (o.0, trailer-once enc unit laws cs q t a b (subst (λ m. FirstTrailer enc cs q m a) o.1 (subst (λ n. FirstTrailer enc cs n s a) o.0 u)) v)

  nowhere : (p s : ℕ) → FirstHeader enc cs unit (Some (p, s)) → FirstHeader enc cs unit None → ⊥
  nowhere p s x n = n p x.0.0 x.0.1 x.0.2

  differ : (x : Ending) (f : PacketFault) → ◌≡◌ {A = Result Ending PacketFault} (Ok x) (Err f) → ⊥
  differ x f e = let z : ◌≡◌ {A = ℕ} 0 1 = cc in omega arith

  same_ok : (p q m n : ℕ) (w v : Bool) → p ≡ q → ◌≡◌ {A = Result Ending PacketFault} (Ok (record { writable = w; end = p + m })) (Ok (record { writable = v; end = q + n })) → ◌≡◌ {A = Result (ℕ × ℕ × Bool) PacketFault} (Ok (p, m, w)) (Ok (q, n, v))
  same_ok p q m n w v e f =
      let g : ◌≡◌ {A = Ending} (record { writable = w; end = p + m }) (record { writable = v; end = q + n }) = cc in
      let a : p + m ≡ q + n = ap (λ (z : Ending). z.end) g in
      let b : w ≡ v = ap (λ (z : Ending). z.writable) g in
      let c : m ≡ n = omega arith in
      cc

  same-err : (f g : PacketFault) → ◌≡◌ {A = Result Ending PacketFault} (Err f) (Err g) → ◌≡◌ {A = Result (ℕ × ℕ × Bool) PacketFault} (Err f) (Err g)
  same-err f g e = let a : f ≡ g = cc in ap (λ h. Err h) a

  abbrev ending : ℕ × ℕ × Bool → Ending
  ending x = record { writable = x.2; end = x.0 + x.1 }

  once : (r s : Result (ℕ × ℕ × Bool) PacketFault) → Finds enc cs unit r → Finds enc cs unit s → r ≡ s
  once (Ok x) (Ok y) a b =
      let o = via x.0 a.0 y.0 b.0 (Ok (ending x)) (Ok (ending y)) a.1 a.2 b.1 b.2 in
      same_ok x.0 y.0 x.1 y.1 x.2 y.2 o.0 o.1
  once (Ok x) (Err (NoHeader p)) a b = absurd (nowhere x.0 a.0 a.1 b.1)
  once (Ok x) (Err (Unreadable f)) a b = absurd (differ _ _ (via _ _ _ _ (Ok (ending x)) (Err (Unreadable f)) a.1 a.2 b.2 b.3).1)
  once (Ok x) (Err (NoTrailer p)) a b = absurd (differ _ _ (via _ _ _ _ (Ok (ending x)) (Err (NoTrailer p)) a.1 a.2 b.2 b.3).1)
  once (Err (NoHeader p)) (Ok y) a b = absurd (nowhere y.0 b.0 b.1 a.1)
  once (Err (NoHeader p)) (Err (NoHeader q)) a b = ap (λ n. Err (NoHeader n)) (a.0 ∙ sym b.0)
  once (Err (NoHeader p)) (Err (Unreadable f)) a b = absurd (nowhere b.0 b.1 b.2 a.1)
  once (Err (NoHeader p)) (Err (NoTrailer q)) a b = absurd (nowhere b.0 b.1 b.2 a.1)
  once (Err (Unreadable f)) (Ok y) a b = absurd (differ _ _ (via _ _ _ _ (Ok (ending y)) (Err (Unreadable f)) b.1 b.2 a.2 a.3).1)
  once (Err (Unreadable f)) (Err (NoHeader q)) a b = absurd (nowhere a.0 a.1 a.2 b.1)
  once (Err (Unreadable f)) (Err (Unreadable g)) a b = same-err _ _ (via _ _ _ _ (Err (Unreadable f)) (Err (Unreadable g)) a.2 a.3 b.2 b.3).1
  once (Err (Unreadable f)) (Err (NoTrailer q)) a b = same-err _ _ (via _ _ _ _ (Err (Unreadable f)) (Err (NoTrailer q)) a.2 a.3 b.2 b.3).1
  once (Err (NoTrailer p)) (Ok y) a b = absurd (differ _ _ (via _ _ _ _ (Ok (ending y)) (Err (NoTrailer p)) b.1 b.2 a.2 a.3).1)
  once (Err (NoTrailer p)) (Err (NoHeader q)) a b = absurd (nowhere a.0 a.1 a.2 b.1)
  once (Err (NoTrailer p)) (Err (Unreadable g)) a b = same-err _ _ (via _ _ _ _ (Err (NoTrailer p)) (Err (Unreadable g)) a.2 a.3 b.2 b.3).1
  once (Err (NoTrailer p)) (Err (NoTrailer q)) a b = same-err _ _ (via _ _ _ _ (Err (NoTrailer p)) (Err (NoTrailer q)) a.2 a.3 b.2 b.3).1

pub one_answer : OneAnswer
one_answer enc unit laws cs r s a b = once enc unit laws cs r s a b
