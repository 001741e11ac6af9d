-- The lowest header among the codes.
use Rattle.std.proofs.Common.{◌≡◌, ℕ, Bool, List, ◌⊎◌, Some, None, Option, Ok, Err, Result, MatchResult, subst, inl, inr, ⊎_elim, arith}
use Rattle.std.proofs.lemmas.Bool.{cases_lt}
use Rattle.medium.specs.Cells.{Cell}
use Rattle.code.specs.Utf8.{enc8}
use Rattle.code.specs.Utf16.{big_pair, enc16, little_pair}
use Rattle.packet.specs.Texts.{Header}
use Rattle.packet.specs.Parts.{Ends}
use Rattle.packet.specs.Finds.{FirstHeader, NoPacket, PacketAt}
use Rattle.packet.specs.Any.{Code, NoneBelow, NoneInAny, NotAbove, enc_of, unit_of, utf8, utf16be, utf16le}
use Rattle.packet.specs.declared.any.AnyFound.{AnyFound}
use Rattle.packet.specs.declared.failure.PacketFault.{PacketFault}
use Rattle.packet.specs.declared.failure.PacketFault.TheVariants.{Unreadable, NoHeader, NoTrailer}

-- what stands for each code
abbrev pub each : Option (ℕ × ℕ) → Option (ℕ × ℕ) → Option (ℕ × ℕ) → Code → Option (ℕ × ℕ)
each a b c utf8 = a
each a b c utf16be = b
each a b c utf16le = c

pub firsts : (cs s t u : List Cell) (a b c : Option (ℕ × ℕ)) → s ≡ cs → t ≡ cs → u ≡ cs → FirstHeader enc8 s 1 a → FirstHeader (enc16 big_pair) t 2 b → FirstHeader (enc16 little_pair) u 2 c → (d : Code) → FirstHeader (enc_of d) cs (unit_of d) (each a b c d)
firsts cs s t u a b c p q r x y z utf8 = subst (λ l. FirstHeader enc8 l 1 a) p x
firsts cs s t u a b c p q r x y z utf16be = subst (λ l. FirstHeader (enc16 big_pair) l 2 b) q y
firsts cs s t u a b c p q r x y z utf16le = subst (λ l. FirstHeader (enc16 little_pair) l 2 c) r z

pub leasts : (a b c n : Option (ℕ × ℕ)) → NotAbove n a → NotAbove n b → NotAbove n c → (d : Code) → NotAbove n (each a b c d)
leasts a b c n x y z utf8 = x
leasts a b c n x y z utf16be = y
leasts a b c n x y z utf16le = z

-- the order is total, and none is above itself
pub same : (a : Option (ℕ × ℕ)) → NotAbove a a
same (Some x) = omega arith
same None = tt

pub turned : (a b : Option (ℕ × ℕ)) → (NotAbove a b → ⊥) → NotAbove b a
turned (Some x) (Some y) n = ⊎_elim (λ h. omega arith) (λ h. absurd (n h)) (cases_lt y.0 x.0)
turned (Some x) None n = absurd (n tt)
turned None (Some y) n = tt
turned None None n = tt

onward : (a b c : Option (ℕ × ℕ)) → NotAbove a b → NotAbove b c → NotAbove a c
onward (Some x) (Some y) (Some z) h l = omega arith
onward (Some x) (Some y) None h l = tt
onward (Some x) None (Some z) h l = absurd l
onward (Some x) None None h l = tt
onward None (Some y) c h l = absurd h
onward None None (Some z) h l = absurd l
onward None None None h l = tt

-- what is above neither of two is not above a third that one of them is not above
pub below_third : (x a b c : Option (ℕ × ℕ)) → NotAbove x b → NotAbove x c → (NotAbove a b → ⊥) ⊎ (NotAbove a c → ⊥) → NotAbove x a
below_third x a b c h l (inl n) = onward x b a h (turned a b n)
below_third x a b c h l (inr n) = onward x c a l (turned a c n)

-- what find answered, handed on as a packet of any code
pub handed_on : {F : Type 0} (found : Result F PacketFault) (r : Result AnyFound PacketFault) (wrap : F → AnyFound) (P : F → Type 0) (N : PacketFault → Type 0) (Q : AnyFound → Type 0) (M : PacketFault → Type 0) → MatchResult found P N → MatchResult found (λ x. r ≡ Ok (wrap x)) (λ e. r ≡ Err e) → ((x : F) → P x → Q (wrap x)) → ((e : PacketFault) → N e → M e) → MatchResult r Q M
handed_on (Ok x) r wrap P N Q M p e f g = rw e (f x p)
handed_on (Err x) r wrap P N Q M p e f g = rw e (g x p)

module _ (cs : List Cell) (at : Code → Option (ℕ × ℕ)) (first : (d : Code) → FirstHeader (enc_of d) cs (unit_of d) (at d)) (c : Code) (least : (d : Code) → NotAbove (at c) (at d)) where
  -- no header of any code stands below the first in the code c
  below : (q s : ℕ) → FirstHeader (enc_of c) cs (unit_of c) (Some (q, s)) → NoneBelow cs q
  below q s f d j h = by (at c) (at d) (first c) (first d) (least d)
    where
      by : (x y : Option (ℕ × ℕ)) → FirstHeader (enc_of c) cs (unit_of c) x → FirstHeader (enc_of d) cs (unit_of d) y → NotAbove x y → Ends (enc_of d) cs (Header (unit_of d)) j None
      by x None a b l = b j
      by None (Some y) a b l = absurd l
      by (Some x) (Some y) a b l =
          ⊎_elim (λ k. absurd (f.1 x.0 k a.0.0 a.0.1 a.0.2)) (λ k. b.1 j (omega arith))
          (cases_lt x.0 q)

  pub found : (q n : ℕ) (w : Bool) → PacketAt (enc_of c) cs (unit_of c) q n w → PacketAt (enc_of c) cs (unit_of c) q n w × NoneBelow cs q
  found q n w p = (p, below q p.0 p.1)

  pub none : (f : PacketFault) → NoPacket (enc_of c) cs (unit_of c) f → NoneInAny cs f
  none (Unreadable f) x = (c, x.0, x.1, x.2, below x.0 x.1 x.2, x.3)
  none (NoTrailer p) x = (c, x.0, x.1, x.2, below x.0 x.1 x.2, x.3)
  none (NoHeader p) n = (n.0, λ d. by d (at c) (at d) (first c) (first d) (least d))
    where
      by : (d : Code) (x y : Option (ℕ × ℕ)) → FirstHeader (enc_of c) cs (unit_of c) x → FirstHeader (enc_of d) cs (unit_of d) y → NotAbove x y → FirstHeader (enc_of d) cs (unit_of d) None
      by d (Some x) y a b l = absurd (n.1 x.0 a.0.0 a.0.1 a.0.2)
      by d None (Some y) a b l = absurd l
      by d None None a b l = b
