-- What the header and the trailer of a packet are, as texts.
use Rattle.std.specs.Prelude.{◌≡◌, ℕ, ◌<◌, ◌≤◌, ◌≢◌, ◌⊎◌, List, [], ◌∷◌, ◌++◌, length, codes, slice_index}

-- `"` or `'`
abbrev pub Quote : ℕ → Type 0
Quote q = (q ≡ 34) ⊎ (q ≡ 39)

-- U+FEFF, or nothing in a code whose unit is one byte
abbrev pub Mark : ℕ → List ℕ → Type 0
Mark unit m = (m ≡ 65279 ∷ []) ⊎ ((m ≡ []) × (unit ≡ 1))

-- neither `<` nor `?>` is in it
abbrev pub Plain : List ℕ → Type 0
Plain xs = ((i : ℕ) → i < length xs → slice_index xs i ≢ 60) × ((ys zs : List ℕ) → xs ≢ ys ++ (63 ∷ 62 ∷ zs))

-- the id by which a packet is known
abbrev pub packet_id : List ℕ
packet_id = codes "W5M0MpCehiHzreSzNTczkc9d"

-- `<?xpacket begin=`, the quoted mark, ` id=`, the quoted id, up to 128 further characters and `?>`
pub record Header (unit : ℕ) (h : List ℕ) : Type 0 where
  pub quote : ℕ
  pub mark : List ℕ
  pub id_quote : ℕ
  pub further : List ℕ
  pub quotes : Quote quote × Quote id_quote
  pub marked : Mark unit mark
  pub few : length further ≤ 128
  pub plain : Plain further
  pub spelt : h ≡ codes "<?xpacket begin=" ++ (quote ∷ (mark ++ (quote ∷ (codes " id=" ++ (id_quote ∷ (packet_id ++ (id_quote ∷ (further ++ codes "?>"))))))))

-- `<?xpacket end=`, a quoted `w` (the packet may be written) or `r` (it is only to be read), and `?>`
pub record Trailer (mode : ℕ) (t : List ℕ) : Type 0 where
  pub quote : ℕ
  pub quoted : Quote quote
  pub known : (mode ≡ 119) ⊎ (mode ≡ 114)
  pub spelt : t ≡ codes "<?xpacket end=" ++ (quote ∷ (mode ∷ (quote ∷ codes "?>")))
