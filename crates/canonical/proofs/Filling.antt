-- How many bytes a packet takes that holds a tree, in any code.
use Rattle.std.proofs.Common.{◌≡◌, ℕ, zero, suc, ◌+◌, ◌-◌, ◌*◌, ◌/◌, ◌%◌, ◌≤◌, Bool, true, false, cond, eqb, leb, List, [], ◌∷◌, ◌++◌, map, length, Ok, Err, sym, refl, ap, ◌∙◌, ap₂, suc-mul, add-mul, zero-mul, le_of_mul-le-mul_right, arith, length-append}
use native.Mathlib.Nat.{div-eq_of_eq-mul_left}
use Rattle.std.specs.List.{range_with_len}
use Rattle.std.proofs.ByRecursion.{All-append}
use Rattle.std.proofs.lemmas.Bool.{cond_both, cond-false, leb-true, leb-false, lt-leb}
use Rattle.characters.specs.Classes.{is_xml}
use Rattle.characters.proofs.Members.{xml_scalar}
use Rattle.code.specs.Codes.{Scalar, Laws}
use Rattle.text.specs.Stands.{bytes_of}
use Rattle.text.proofs.Standing.{bytes_append}
use Rattle.names.specs.Order.{Text}
use Rattle.names.specs.Xml.{XmlText, all_xml}
use Rattle.tree.specs.Tree.{Tree}
use Rattle.tree.specs.Lawful.{Lawful}
use Rattle.names.proofs.Deciding.{xml_decides}
use Rattle.canonical.specs.declared.failure.TooLong.{TooLong}
use Rattle.canonical.specs.Packet.{header, trailer, body, padding_at, padding, text_of_packet, canonical_length, filling}
use Rattle.canonical.specs.Promises.{Fills}
use Rattle.canonical.proofs.Padding.{body-xml, padding-xml}

-- where a and b are whole units, as many units as fit behind a reach to b
room : (unit c m a b n : ℕ) → 1 ≤ unit → a ≡ c * unit → b ≡ m * unit → a ≤ b → (b - a) / unit ≡ n → a + n * unit ≡ b
room unit c m a b n u p q h e =
    let l : c * unit ≤ m * unit = omega arith in
    let d : c ≤ m = le_of_mul-le-mul_right l u in
    let f : (m - c) * unit + c * unit ≡ m * unit = sym (add-mul (m - c) c unit) ∙ ap (λ k. k * unit) (omega arith) in
    let g : (b - a) / unit ≡ m - c = div-eq_of_eq-mul_left u (omega arith) in
    let i : n * unit ≡ (m - c) * unit = ap (λ k. k * unit) (omega arith) in
    omega arith

-- what the two answers tell
answered : (b : Bool) (a n : ℕ) (f : TooLong) → cond b (Ok a) (Err f) ≡ Ok n → (b ≡ true) × (a ≡ n)
answered true a n f e = (refl, cc)
answered false a n f e = let z : ◌≡◌ {A = ℕ} 0 1 = cc in absurd (omega arith)

turned_away : (b : Bool) (a : ℕ) (f g : TooLong) → cond b (Ok a) (Err f) ≡ Err g → b ≡ false
turned_away true a f g e = let z : ◌≡◌ {A = ℕ} 0 1 = cc in absurd (omega arith)
turned_away false a f g e = refl

-- canonical text is of XML's characters
header-xml : XmlText header
unfolding header all_xml is_xml
header-xml = (xml_decides header).0 refl

trailer-xml : XmlText trailer
unfolding trailer all_xml is_xml
trailer-xml = (xml_decides trailer).0 refl

packet_xml : (t : Tree) → Lawful t → (n : ℕ) → XmlText (text_of_packet t n)
packet_xml t l n =
    All-append _ header _ header-xml (All-append _ (body t) _ (body-xml t l) (All-append _ (padding n) trailer (padding-xml n) trailer-xml))

module _ (enc : ℕ → List ℕ) (unit : ℕ) (laws : Laws enc unit) where
  -- the bytes that a text takes
  abbrev size : Text → ℕ
  size s = length (bytes_of enc s)

  size-append : (s t : Text) → size (s ++ t) ≡ size s + size t
  size-append s t = ap length (bytes_append enc unit laws s t) ∙ length-append (bytes_of enc s) (bytes_of enc t)

  -- a text of XML's characters takes whole units
  whole : (s : Text) → XmlText s → (k : ℕ) × (size s ≡ k * unit)
  whole [] h = (0, sym (zero-mul unit))
  whole (c ∷ s) h =
      let a = laws.whole c (xml_scalar c h.0) in
      let b = whole s h.1 in
      (a.0 + b.0, length-append (enc c) (bytes_of enc s) ∙ ap₂ ◌+◌ a.1 b.1 ∙ sym (add-mul a.0 b.0 unit))

  -- n characters of padding take n units
  padded_size : (k n : ℕ) → size (map padding_at (range_with_len k n)) ≡ n * unit
  padded_size k zero = sym (zero-mul unit)
  padded_size k (suc n) =
      let a : length (enc (padding_at k)) ≡ unit = cond_both (eqb (k % 100) 0) 10 32 (λ c. length (enc c) ≡ unit) (λ _. laws.newline) (λ _. laws.space) in
      omega (arith, length-append (enc (padding_at k)) (bytes_of enc (map padding_at (range_with_len (k + 1) n))), padded_size (k + 1) n, suc-mul n unit)

  padding-size : (n : ℕ) → size (padding n) ≡ n * unit
  unfolding padding
  padding-size n = padded_size 1 n

  parts_size : (a b c d : Text) → size (a ++ (b ++ (c ++ d))) ≡ size a + (size b + (size c + size d))
  parts_size a b c d = omega (arith, size-append a (b ++ (c ++ d)), size-append b (c ++ d), size-append c d)

  packet_size : (t : Tree) (n : ℕ) → size (text_of_packet t n) ≡ canonical_length enc t + n * unit
  packet_size t n =
      omega (arith, parts_size header (body t) (padding n) trailer, parts_size header (body t) (padding 0) trailer, padding-size n, padding-size 0, zero-mul unit)

  -- the padding fills the packet
  full : (t : Tree) → Lawful t → (place len n m : ℕ) → len ≡ m * unit → filling enc unit place len t ≡ Ok n → size (text_of_packet t n) ≡ len
  full t l place len n m p e =
      let a = answered (leb (canonical_length enc t) len) ((len - canonical_length enc t) / unit) n (record { place = place }) e in
      let w = whole (text_of_packet t 0) (packet_xml t l 0) in
      let s : Scalar 32 = omega arith in
      let u : 1 ≤ unit = omega (arith, laws.some 32 s, laws.space) in
      packet_size t n ∙ room unit w.0 m (canonical_length enc t) len n u w.1 p (leb-true (canonical_length enc t) len a.0) a.1

  pub fills : (t : Tree) → Lawful t → Fills enc unit t
  fills t l = record {
    full = full t l;
    refused = λ place len h. cond-false (leb (canonical_length enc t) len) _ _ (lt-leb (canonical_length enc t) len h);
    taken = λ place len f e. leb-false (canonical_length enc t) len (turned_away (leb (canonical_length enc t) len) ((len - canonical_length enc t) / unit) (record { place = place }) f e);
  }
