-- The byte that every header begins with.
use Rattle.std.proofs.Common.{◌≡◌, ℕ, ◌<◌, ◌≤◌, ◌≢◌, List, length, get_or, drop, None, codes, sym, ap, ◌∙◌, subst, ⊎_elim, arith}
use Rattle.std.proofs.lemmas.Bool.{cases_lt}
use native.Mathlib.Numerals.{unary_clauses}
use Rattle.std.proofs.lemmas.List.{get_or-drop, get_or-map, get_or_past, get_or-take}
use Rattle.medium.specs.Access.{Refuses}
use Rattle.medium.specs.Cells.{Cell, byte, lost}
use Rattle.medium.specs.declared.failure.MediumFault.{MediumFault}
use Rattle.medium.specs.declared.failure.MediumFault.TheVariants.{OutOfRange, Lost}
use Rattle.code.specs.Codes.{Laws, Scalar}
use Rattle.text.specs.Stands.{Holds}
use Rattle.text.proofs.Standing.{stands_head}
use Rattle.packet.specs.Texts.{Header}
use Rattle.packet.specs.Parts.{Ends, Heading, Marked, Quoting}
use Rattle.packet.proofs.Headings.{header-from, header-to}
use Rattle.packet.proofs.Parsing as parse

-- the cell of the first of some bytes that stand
cell_at : (cs : List Cell) (k : ℕ) (bs : List ℕ) → 1 ≤ length bs → Holds cs k bs → get_or cs k lost ≡ byte (get_or bs 0 0)
cell_at cs k bs h e =
    let d : get_or (drop k cs) 0 lost ≡ get_or cs k lost = simp unary_clauses at (get_or-drop k cs 0 lost) in
    sym d ∙ sym (get_or-take (length bs) (drop k cs) 0 lost h) ∙ ap (λ l. get_or l 0 lost) e ∙ get_or-map byte bs 0 0 lost h

lost_no_byte : (c : Cell) (b : ℕ) → c ≡ lost → c ≢ byte b
lost_no_byte c b p q = let z : ◌≡◌ {A = ℕ} 0 1 = cc in omega arith

-- where fetch refuses, no byte stands
pub refused : (cs : List Cell) (k b : ℕ) (e : MediumFault) → Refuses cs k e → get_or cs k lost ≢ byte b
refused cs k b (OutOfRange p) x = lost_no_byte (get_or cs k lost) b (get_or_past cs k lost x.1)
refused cs k b (Lost p) x = lost_no_byte (get_or cs k lost) b x.2

module _ (enc : ℕ → List ℕ) (unit : ℕ) (laws : Laws enc unit) (cs : List Cell) where
  -- a header stands only where the first byte of `<` does
  pub elsewhere : (k : ℕ) → get_or cs k lost ≢ byte (get_or (enc 60) 0 0) → Ends enc cs (Header unit) k None
  elsewhere k n =
      let less : Scalar 60 = (omega arith, λ h. omega arith) in
      let read = parse.reading enc unit laws cs in
      parse.renamed read (Heading unit) (Header unit) k None (header-from unit) (header-to unit)
      (parse.without read (codes "<?xpacket begin=") (Quoting (Marked unit)) k
      (λ st. n (cell_at cs k (enc 60) (laws.some 60 less) (stands_head enc unit laws cs k 60 (codes "?xpacket begin=") st))))

  -- a search goes from `from` to the next place that holds that byte, and no header stands before that place
  pub skipped : (ds : List Cell) (b from n : ℕ) → ds ≡ cs → b ≡ get_or (enc 60) 0 0 → ((j : ℕ) → j < from → Ends enc cs (Header unit) j None) → ((j : ℕ) → from ≤ j → j < n → get_or ds j lost ≢ byte b) → (j : ℕ) → j < n → Ends enc cs (Header unit) j None
  skipped ds b from n same lead before gap j h =
      ⊎_elim (λ l. before j l)
      (λ l. elsewhere j (subst (λ (es : List Cell). get_or es j lost ≢ byte (get_or (enc 60) 0 0)) same (subst (λ (x : ℕ). get_or ds j lost ≢ byte x) lead (gap j l h))))
      (cases_lt j from)
