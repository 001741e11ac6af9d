-- Header and trailer in parts, each with all that follows it, as it is looked for in cells.
use Rattle.std.specs.Prelude.{◌≡◌, ℕ, ◌+◌, ◌-◌, ◌≤◌, Bool, true, false, ◌≢◌, ◌⊎◌, List, [], ◌∷◌, ◌++◌, length, Some, None, codes, Option, ◌==◌}
use Rattle.medium.specs.Cells.{Cell}
use Rattle.code.specs.Codes.{Scalar}
use Rattle.text.specs.Stands.{Expected, Holds, Stands, bytes_of}
use Rattle.packet.specs.Texts.{Quote, packet_id}

-- the word w, and behind it a text that P is true of
abbrev pub Then : List ℕ → (List ℕ → Type 0) → List ℕ → Type 0
Then w P t = (u : List ℕ) × P u × (t ≡ w ++ u)

-- a quote, and behind it a text that P is true of with that quote
abbrev pub Quoting : (ℕ → List ℕ → Type 0) → List ℕ → Type 0
Quoting P t = (q : ℕ) × (u : List ℕ) × Quote q × P q u × (t ≡ q ∷ u)

-- at most n characters, none of them `<`, up to the first `?>`, and its `>`. Where p is true a `?` stands just before
abbrev pub Closing : ℕ → Bool → List ℕ → Type 0
Closing n p [] = ⊥
Closing n p (c ∷ t) =
    ((p ≡ true) × (c ≡ 62) × (t ≡ [])) ⊎ ((p ≡ true → c ≢ 62) × (1 ≤ n) × (c ≢ 60) × Closing (n - 1) (c == 63) t)

-- the id, the quote, and the end
abbrev pub Named : ℕ → List ℕ → Type 0
Named q = Then packet_id (Then (q ∷ []) (Closing 129 false))

abbrev pub Naming : List ℕ → Type 0
Naming = Then (codes " id=") (Quoting Named)

-- the mark and the quote
abbrev pub Marked : ℕ → ℕ → List ℕ → Type 0
Marked unit q t = Then (65279 ∷ q ∷ []) Naming t ⊎ ((unit ≡ 1) × Then (q ∷ []) Naming t)

abbrev pub Heading : ℕ → List ℕ → Type 0
Heading unit = Then (codes "<?xpacket begin=") (Quoting (Marked unit))

-- the letter, the quote, and the end of a trailer
abbrev pub Moded : ℕ → ℕ → List ℕ → Type 0
Moded mode q = Then (mode ∷ []) (Then (q ∷ []) (λ t. t ≡ codes "?>"))

abbrev pub Trailing : ℕ → List ℕ → Type 0
Trailing mode = Then (codes "<?xpacket end=") (Quoting (Moded mode))

module _ (enc : ℕ → List ℕ) (cs : List Cell) where
  -- the end of a text that P is true of and that stands at k, or none stands there
  abbrev pub Ends : (List ℕ → Type 0) → ℕ → Option ℕ → Type 0
  Ends P k (Some e) = (t : List ℕ) × P t × Stands enc cs k t × (e ≡ k + length (bytes_of enc t))
  Ends P k None = (t : List ℕ) → P t → Stands enc cs k t → ⊥

  -- the quote at k and the place behind it, or no quote stands there
  abbrev pub QuoteAt : ℕ → Option (ℕ × ℕ) → Type 0
  QuoteAt k (Some c) = Quote c.0 × Scalar c.0 × Holds cs k (enc c.0) × (c.1 ≡ k + length (enc c.0))
  QuoteAt k None = (q : ℕ) → Quote q → Holds cs k (enc q) → ⊥

  -- the place behind the mark at k: U+FEFF, or nothing where none stands and the unit is one byte
  abbrev pub MarkAt : ℕ → ℕ → Option ℕ → Type 0
  MarkAt unit k (Some e) = Expected enc cs k 65279 (Some e) ⊎ (Expected enc cs k 65279 None × (unit ≡ 1) × (e ≡ k))
  MarkAt unit k None = Expected enc cs k 65279 None × (unit ≢ 1)
