-- What the scanner makes of a text that is put together.
use Rattle.std.proofs.Common.{◌≡◌, ℕ, ◌+◌, true, List, [], ◌∷◌, ◌++◌, length, Some, Option, sym, refl, ap, ◌∙◌, append_assoc, append-nil, arith}
use Rattle.std.specs.List.{AllByRecursion}
use Rattle.characters.specs.Classes.{is_white}
use Rattle.names.specs.Order.{Text}
use Rattle.items.specs.Tokens.{Token}
use Rattle.items.specs.Grammar.{White, Each, no_more, next}
use Rattle.items.specs.Scan.{Mode, on, ends, move, moved, scan}

-- over the text `a`, whatever comes behind it, the scanner goes from the mode `m` to the answers of `f`
pub record Leads (m : Mode) (a : Text) (f : Text → Option (Token × Text)) : Type 0 where
  pub to : (s : Text) → scan m (a ++ s) ≡ f s

-- it goes on to a mode, or it finds the whole item
abbrev pub Goes : Mode → Text → Mode → Type 0
Goes m a k = Leads m a (scan k)

abbrev pub Finds : Mode → Text → Token → Type 0
Finds m a t = Leads m a (λ s. Some (t, s))

pub stop : {m : Mode} → Goes m [] m
stop = record { to = λ s. refl }

pub one : {m k : Mode} {c : ℕ} {a : Text} {f : Text → Option (Token × Text)} → move m c ≡ on k → Leads k a f → Leads m (c ∷ a) f
unfolding scan
one {c = c} {a = a} e g = record { to = λ s. ap (λ v. moved v c (a ++ s) (λ k. scan k (a ++ s))) e ∙ g.to s }

pub last : {m : Mode} {c : ℕ} {t : Token} → move m c ≡ ends t → Finds m (c ∷ []) t
unfolding scan
last {c = c} e = record { to = λ s. ap (λ v. moved v c s (λ k. scan k s)) e }

infixr 40 ◌▸◌
pub ◌▸◌ : {m k : Mode} {a b : Text} {f : Text → Option (Token × Text)} → Goes m a k → Leads k b f → Leads m (a ++ b) f
◌▸◌ {m} {a = a} {b = b} g h = record { to = λ s. ap (scan m) (append_assoc a b s) ∙ g.to (b ++ s) ∙ h.to s }

pub comes_to : {m k l : Mode} {a : Text} → Goes m a k → k ≡ l → Goes m a l
comes_to g e = record { to = λ s. g.to s ∙ ap (λ k. scan k s) e }

-- a mode that moves like another at the first character
pub like : {m k : Mode} {c : ℕ} {a : Text} {f : Text → Option (Token × Text)} → move m c ≡ move k c → Leads k (c ∷ a) f → Leads m (c ∷ a) f
unfolding scan
like {c = c} {a = a} e g = record { to = λ s. ap (λ v. moved v c (a ++ s) (λ k. scan k (a ++ s))) e ∙ g.to s }

-- a mode that gathers the characters of a kind
abbrev pub Gathers : (ℕ → Type 0) → (Text → Mode) → Type 0
Gathers P hold = (t : Text) (c : ℕ) → P c → move (hold t) c ≡ on (hold (t ++ (c ∷ [])))

pub absorb_all : {P : ℕ → Type 0} (hold : Text → Mode) → Gathers P hold → (t u : Text) → AllByRecursion P u → Goes (hold t) u (hold (t ++ u))
absorb_all hold each t [] h = comes_to stop (ap hold (sym (append-nil t)))
absorb_all hold each t (c ∷ u) h =
    one (each t c h.0) (comes_to (absorb_all hold each (t ++ (c ∷ [])) u h.1) (ap hold (append_assoc t (c ∷ []) u)))

-- one that counts white space
abbrev pub Counts : (ℕ → Mode) → Type 0
Counts hold = (k c : ℕ) → is_white c ≡ true → move (hold k) c ≡ on (hold (k + 1))

pub absorb_white : (hold : ℕ → Mode) → Counts hold → (k : ℕ) (z : Text) → White z → Goes (hold k) z (hold (k + length z))
absorb_white hold each k [] h = comes_to stop (ap hold (omega arith))
absorb_white hold each k (c ∷ z) h = one (each k c h.0) (comes_to (absorb_white hold each (k + 1) z h.1) (ap hold (omega arith)))

-- one that gathers things spelt one after the other
pub absorb_each : {A : Type 0} {R : Text → A → Type 0} (hold : List A → Mode)
    → ((t : List A) (a : Text) (x : A) → R a x → Goes (hold t) a (hold (t ++ (x ∷ []))))
    → (t : List A) {s : Text} {u : List A} → Each R s u → Goes (hold t) s (hold (t ++ u))
absorb_each hold each t no_more = comes_to stop (ap hold (sym (append-nil t)))
absorb_each hold each t (next {a = a} {x = x} {xs = xs} r e) =
    each t a x r ▸ comes_to (absorb_each hold each (t ++ (x ∷ [])) e) (ap hold (append_assoc t (x ∷ []) xs))
