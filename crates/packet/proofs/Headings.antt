-- A header as one text, and in parts.
use Rattle.std.proofs.Common.{◌≡◌, ℕ, ◌≤◌, List, [], ◌∷◌, ◌++◌, length, codes, refl, ap, ◌∙◌, inl, inr}
use Rattle.packet.specs.Texts.{Header, Mark, Plain, Quote, packet_id}
use Rattle.packet.specs.Parts.{Heading, Marked, Named, Naming}
use Rattle.packet.proofs.Closings.{closing_from, closing_to}

-- all behind the quoted mark
abbrev tail : ℕ → List ℕ → List ℕ
tail r f = codes " id=" ++ (r ∷ (packet_id ++ (r ∷ (f ++ codes "?>"))))

abbrev Tail : List ℕ → Type 0
Tail u = (r : ℕ) × (f : List ℕ) × Quote r × (length f ≤ 128) × Plain f × (u ≡ tail r f)

named_from : (r : ℕ) (u : List ℕ) → Named r u → (f : List ℕ) × (length f ≤ 128) × Plain f × (u ≡ packet_id ++ (r ∷ (f ++ codes "?>")))
named_from r u x =
    let y = closing_from x.1.0 x.1.1 in
    (y.0, y.1, y.2, x.2 ∙ ap (λ s. packet_id ++ s) (x.1.2 ∙ ap (λ s. r ∷ s) y.3))

naming_from : (u : List ℕ) → Naming u → Tail u
naming_from u x =
    let q = x.1 in
    let y = named_from q.0 q.1 q.3 in
    (q.0, y.0, q.2, y.1, y.2, x.2 ∙ ap (λ s. codes " id=" ++ s) (q.4 ∙ ap (λ s. q.0 ∷ s) y.3))

naming_to : (r : ℕ) (f : List ℕ) → Quote r → length f ≤ 128 → Plain f → Naming (tail r f)
naming_to r f q h l = (_, (r, _, q, (_, (_, closing_to f h l, refl), refl), refl), refl)

-- the mark, and what is behind its quote
marked_from : (unit q : ℕ) (t : List ℕ) → Marked unit q t → (m : List ℕ) × (u : List ℕ) × Mark unit m × Naming u × (t ≡ m ++ (q ∷ u))
marked_from unit q t (inl x) = (65279 ∷ [], x.0, inl refl, x.1, x.2)
marked_from unit q t (inr x) = ([], x.1.0, inr (refl, x.0), x.1.1, x.1.2)

marked_to : (unit q : ℕ) (m u : List ℕ) → Mark unit m → Naming u → Marked unit q (m ++ (q ∷ u))
marked_to unit q m u (inl e) x = inl (u, x, ap (λ s. s ++ (q ∷ u)) e)
marked_to unit q m u (inr e) x = inr (e.1, (u, x, ap (λ s. s ++ (q ∷ u)) e.0))

pub header-from : (unit : ℕ) (t : List ℕ) → Heading unit t → Header unit t
header-from unit t x =
    let q = x.1 in
    let m = marked_from unit q.0 q.1 q.3 in
    let y = naming_from m.1 m.3 in
    record {
      quote = q.0;
      mark = m.0;
      id_quote = y.0;
      further = y.1;
      quotes = (q.2, y.2);
      marked = m.2;
      few = y.3;
      plain = y.4;
      spelt = x.2 ∙ ap (λ s. codes "<?xpacket begin=" ++ s) (q.4 ∙ ap (λ s. q.0 ∷ s) (m.4 ∙ ap (λ s. m.0 ++ (q.0 ∷ s)) y.5));
    }

pub header-to : (unit : ℕ) (t : List ℕ) → Header unit t → Heading unit t
header-to unit t h =
    let n = naming_to h.id_quote h.further h.quotes.1 h.few h.plain in
    (_, (h.quote, _, h.quotes.0, marked_to unit h.quote h.mark (tail h.id_quote h.further) h.marked n, refl), h.spelt)
