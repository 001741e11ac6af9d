-- Reading marked-up text: line ends first, then the items.
use Rattle.std.specs.Prelude.{◌≡◌, ℕ, ◌+◌, Bool, true, false, cond, not, ◌&&◌, ◌↔◌, List, [], ◌∷◌, length, ◌==◌, slice_index}
use Rattle.characters.specs.Classes.{is_xml}
use Rattle.names.specs.Order.{Text}
use Rattle.items.specs.Grammar.{Item}
use Rattle.items.specs.Scan.{item}
use Rattle.xml.specs.Faults.{Fault, Least, Answer, taken, refused}
use Rattle.xml.specs.Reader.{read}
use Rattle.xml.specs.Document.{Document, IsDocument}
use Rattle.xml.specs.Rules.{Context, building, finished, outside, after, Wrong, Lacks, Inner, Forbidden, check, lacks, inner}

-- Line ends: U+000D with U+000A behind it, and U+000D alone, become one U+000A. Where b is true a U+000D stands just before.
abbrev pub unix_from : Bool → Text → Text
unix_from b [] = []
unix_from b (c ∷ s) = cond (c == 13) (10 ∷ unix_from true s) (cond (b && c == 10) (unix_from false s) (c ∷ unix_from false s))

unfoldable pub unixed : Text → Text
unixed s = unix_from false s

-- where the characters of the new text stood in the old one, counted from k, and where the old one ended
abbrev pub origins_from : Bool → ℕ → Text → List ℕ
origins_from b k [] = k ∷ []
origins_from b k (c ∷ s) = cond (c == 13) (k ∷ origins_from true (k + 1) s) (cond (b && c == 10) (origins_from false (k + 1) s) (k ∷ origins_from false (k + 1) s))

unfoldable pub origin : Text → ℕ → ℕ
origin s i = slice_index (origins_from false 0 s) i

-- The faults of a text with its line ends as they are.
abbrev pub UnixFault : Text → ℕ → ℕ → Type 0
UnixFault s = Fault Item after Wrong Inner Lacks Forbidden outside s

pub data MarkupFault (s : Text) : ℕ → ℕ → Type 0 where
  of : {i n : ℕ} → UnixFault (unixed s) i n → MarkupFault s (origin s i) n

-- The reader.
unfoldable pub unix_reads : Text → Answer Context
unix_reads s = read item after check inner lacks (λ c. not (is_xml c)) outside s

-- the document, or the refusal at its place in the text as it is
abbrev pub markup_answer : Text → Answer Context → Answer Document
markup_answer s (taken (finished d)) = taken d
markup_answer s (taken (building gs)) = refused (origin s (length (unixed s))) 6
markup_answer s (refused p n) = refused (origin s p) n

unfoldable pub reads : Text → Answer Document
reads s = markup_answer s (unix_reads (unixed s))

-- What is proved: the reader refuses with the least fault, and otherwise answers the one document that the text is. The places in
-- the document are those of the text with its line ends made one.
pub record Right : Type 0 where
  pub refuses : (s : Text) (p n : ℕ) → (reads s ≡ refused p n) ↔ Least (MarkupFault s) p n
  pub takes : (s : Text) (d : Document) → (reads s ≡ taken d) ↔ (((p n : ℕ) → MarkupFault s p n → ⊥) × IsDocument (unixed s) d)
