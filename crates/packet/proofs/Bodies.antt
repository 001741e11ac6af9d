-- From a header on to the first trailer.
use Rattle.std.proofs.Common.{◌≡◌, ℕ, ◌+◌, ◌<◌, ◌≤◌, nat_le, Bool, true, false, ◌⊎◌, List, ◌∷◌, length, Some, None, Option, MatchOption, Ok, Err, sym, refl, ap, ◌∙◌, subst, arith, length-append}
use Rattle.std.specs.Bool.{then_some}
use Rattle.std.proofs.lemmas.Bool.{leb-true, leb-false}
use Rattle.medium.specs.Cells.{Cell}
use Rattle.code.specs.Codes.{Laws}
use Rattle.text.specs.Stands.{Stands, bytes_of}
use Rattle.text.proofs.Standing as standing
use Rattle.packet.specs.Texts.{Header, Trailer}
use Rattle.packet.specs.Parts.{Ends}
use Rattle.packet.specs.Finds.{FirstHeader, FirstTrailer, NoPacket, NoTrailerBy, Passed, TrailerAt, TrailerBy, begun, mode_of, more}
use Rattle.packet.specs.declared.trailer.Ending.{Ending}
use Rattle.packet.specs.declared.failure.PacketFault.{PacketFault}
use Rattle.packet.specs.declared.failure.PacketFault.TheVariants.{Unreadable, NoHeader, NoTrailer}

module _ (enc : ℕ → List ℕ) (unit : ℕ) (laws : Laws enc unit) (cs : List Cell) where
  pub long : (mode : ℕ) (t : List ℕ) → Trailer mode t → length t ≡ 19
  long mode t x = ap length x.spelt

  -- where a trailer stands that passes the limit, none ends by it
  pub too_far : (limit k e : ℕ) (w : Bool) → Ends enc cs (Trailer (mode_of w)) k (Some e) → limit < e → NoTrailerBy enc cs limit k
  too_far limit k e w x h = λ v t tr st l.
      let same : x.0 ≡ t = standing.same_text enc unit laws cs k x.0 t (long _ x.0 x.1 ∙ sym (long _ t tr)) x.2 st in
      let m = x.3 ∙ ap (λ u. k + length (bytes_of enc u)) same in
      omega arith

  -- the trailer at k, taken if it ends by the limit
  pub trailer-by : (k limit : ℕ) (a r : Option Ending) → TrailerAt enc cs k a → MatchOption a (r ≡ None) (λ x. r ≡ then_some (nat_le x.end limit) x) → TrailerBy enc cs limit k r
  trailer-by k limit None r n e = rw e (λ w t tr st l. n w t tr st)
  trailer-by k limit (Some x) r t e = rw e (by (nat_le x.end limit) refl)
    where
      by : (b : Bool) → nat_le x.end limit ≡ b → TrailerBy enc cs limit k (then_some b x)
      by true q = (t, leb-true x.end limit q)
      by false q = let h = leb-false x.end limit q in too_far limit k x.end x.writable t (omega arith)

  -- a trailer takes at least one cell
  pub first : (mode : ℕ) (t : List ℕ) → Trailer mode t → (u : List ℕ) × (t ≡ 60 ∷ u)
  first mode t x = (_, x.spelt)

  pub no_room : (limit k : ℕ) → (length cs ≤ k) ⊎ (limit ≤ k) → NoTrailerBy enc cs limit k
  no_room limit k h = λ w t tr st l.
      let f = first (mode_of w) t tr in
      let st' = subst (Stands enc cs k) f.1 st in
      let some = laws.some 60 st'.0.0 in
      let r = standing.reach cs k (enc 60) some (standing.stands_head enc unit laws cs k 60 f.0 st') in
      let m = ap (λ u. length (bytes_of enc u)) f.1 ∙ length-append (enc 60) (bytes_of enc f.0) in
      omega arith

  pub passed_on : (start limit q : ℕ) → Passed enc cs start limit q → start ≤ q
  passed_on start limit q begun = omega arith
  passed_on start limit q (more p e x n o) = let i = passed_on start limit p x in let l = o.3 in omega arith

  -- a header takes at least one cell
  header-first : (u : ℕ) (t : List ℕ) → Header u t → (v : List ℕ) × (t ≡ 60 ∷ v)
  header-first u t x = (_, x.spelt)

  pub header-inside : (u k e : ℕ) → Ends enc cs (Header u) k (Some e) → (k < length cs) × (k ≤ e)
  header-inside u k e x =
      let f = header-first u x.0 x.1 in
      let st = subst (Stands enc cs k) f.1 x.2 in
      let some = laws.some 60 st.0.0 in
      let r = standing.reach cs k (enc 60) some (standing.stands_head enc unit laws cs k 60 f.0 st) in
      let l = x.3 in
      (omega arith, omega arith)

  pub trailer-inside : (w : Bool) (k e : ℕ) → Ends enc cs (Trailer (mode_of w)) k (Some e) → (k ≤ e) × (e ≤ length cs)
  trailer-inside w k e x =
      let f = first (mode_of w) x.0 x.1 in
      let st = subst (Stands enc cs k) f.1 x.2 in
      let some = laws.some 60 st.0.0 in
      let m = ap (λ u. length (bytes_of enc u)) f.1 ∙ length-append (enc 60) (bytes_of enc f.0) in
      let l = x.3 in
      let r = standing.reach cs k (bytes_of enc x.0) (omega arith) x.2.1 in
      (omega arith, omega arith)

  -- the header that was looked for first, by its place
  pub the_first : (u place start : ℕ) (r : Option (ℕ × ℕ)) → FirstHeader enc cs u r → r ≡ Some (place, start) → FirstHeader enc cs u (Some (place, start))
  the_first u place start r h e = subst (FirstHeader enc cs u) e h

  -- a header with no trailer behind it is no packet
  pub refused : (u place start : ℕ) (f : PacketFault) → FirstHeader enc cs u (Some (place, start)) → FirstTrailer enc cs place start (Err f) → NoPacket enc cs u f
  refused u place start (Unreadable f) h t = (place, start, h, t)
  refused u place start (NoHeader p) h t = absurd t
  refused u place start (NoTrailer p) h t = (place, start, h, t)

  -- and with one it lies within the medium
  pub spans : (u place start : ℕ) (w : Bool) (e : ℕ) → FirstHeader enc cs u (Some (place, start)) → FirstTrailer enc cs place start (Ok (record { writable = w; end = e })) → (place ≤ e) × (e ≤ length cs)
  spans u place start w e h t =
      let a = header-inside u place start h.0 in
      let b = passed_on start (place + 16384) t.0 t.1 in
      let c = trailer-inside w t.0 e t.2 in
      (omega arith, omega arith)
