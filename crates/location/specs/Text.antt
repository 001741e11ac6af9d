-- What is said of the packet of a file.
use Rattle.std.specs.Prelude.{◌≡◌, ℕ, Bool, true, false, ◌⊎◌, List, [], ◌∷◌, ◌++◌, codes, decimal}
use Rattle.fault.specs.Text.{text_of_refusal}
use Rattle.medium.specs.Cells.{Cell}
use Rattle.packet.specs.Any.{FoundAny, NoneInAny}
use Rattle.packet.specs.Faults.{told_packet}
use Rattle.packet.specs.declared.any.AnyFound.{AnyFound}
use Rattle.packet.specs.declared.any.AnyFound.TheVariants.{InUtf8, InUtf16Be, InUtf16Le}
use Rattle.packet.specs.declared.failure.PacketFault.{PacketFault}

abbrev pub yes_no : Bool → List ℕ
yes_no true = codes "yes"
yes_no false = codes "no"

-- four lines: code, place, length, and whether the packet may be written
abbrev pub four_lines : List ℕ → ℕ → ℕ → List ℕ → List ℕ
four_lines code place len may =
    codes "code: " ++ (code ++ (10 ∷ (codes "place: " ++ (decimal place ++ (10 ∷ (codes "length: " ++ (decimal len ++ (10 ∷ (codes "writable: " ++ (may ++ (10 ∷ [])))))))))))

abbrev pub text_of_packet : List ℕ → ℕ → ℕ → Bool → List ℕ
text_of_packet code place len w = four_lines code place len (yes_no w)

abbrev pub text_of_found : AnyFound → List ℕ
text_of_found (InUtf8 f) = text_of_packet (codes "UTF-8") f.extent.place f.extent.len f.writable
text_of_found (InUtf16Be f) = text_of_packet (codes "UTF-16BE") f.extent.place f.extent.len f.writable
text_of_found (InUtf16Le f) = text_of_packet (codes "UTF-16LE") f.extent.place f.extent.len f.writable

-- the text of the packet that finding answers, or of its refusal
abbrev pub Located : List Cell → List ℕ → Type 0
Located cs text =
    ((f : AnyFound) × FoundAny cs f × (text ≡ text_of_found f)) ⊎ ((e : PacketFault) × NoneInAny cs e × (text ≡ text_of_refusal (told_packet e)))
