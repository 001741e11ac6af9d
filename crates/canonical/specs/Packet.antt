-- The canonical text of a tree, and a packet filled with it.
use Rattle.std.specs.Prelude.{ℕ, ◌-◌, ◌/◌, ◌%◌, cond, List, ◌∷◌, ◌++◌, map, length, Ok, Err, codes, Result, ◌==◌, nat_le}
use Rattle.std.specs.List.{range_with_len}
use Rattle.text.specs.Stands.{bytes_of}
use Rattle.packet.specs.Texts.{packet_id}
use Rattle.names.specs.Order.{Text}
use Rattle.tree.specs.Tree.{Tree}
use Rattle.markup.specs.Elements.{markup_text}
use Rattle.canonical.specs.declared.failure.TooLong.{TooLong}
use Rattle.canonical.specs.Document.{document}

-- the header with `"`, U+FEFF and no further characters
unfoldable pub header : Text
header = codes "<?xpacket begin=" ++ (34 ∷ 65279 ∷ 34 ∷ (codes " id=" ++ (34 ∷ (packet_id ++ (34 ∷ codes "?>")))))

-- the trailer with `"` that lets the packet be written
unfoldable pub trailer : Text
trailer = codes "<?xpacket end=" ++ (34 ∷ 119 ∷ 34 ∷ codes "?>")

unfoldable pub body : Tree → Text
body t = markup_text (document t)

-- the i-th character of padding, counted from 1: a space, but every hundredth a line feed
abbrev pub padding_at : ℕ → ℕ
padding_at i = cond (i % 100 == 0) 10 32

unfoldable pub padding : ℕ → Text
padding n = map padding_at (range_with_len 1 n)

-- a packet that holds the tree, with n characters of padding
abbrev pub text_of_packet : Tree → ℕ → Text
text_of_packet t n = header ++ (body t ++ (padding n ++ trailer))

module _ (enc : ℕ → List ℕ) where
  -- how many bytes the canonical text takes
  abbrev pub canonical_length : Tree → ℕ
  canonical_length t = length (bytes_of enc (text_of_packet t 0))

  -- the padding that fills a packet of that length, or the canonical text is longer than the packet
  abbrev pub filling : ℕ → ℕ → ℕ → Tree → Result ℕ TooLong
  filling unit place len t =
      cond (nat_le (canonical_length t) len) (Ok ((len - canonical_length t) / unit)) (Err (record { place = place }))
