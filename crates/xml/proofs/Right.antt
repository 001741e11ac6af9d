-- The reader of marked-up text refuses it with its least fault, and otherwise answers the document that it is.
use Rattle.std.proofs.Common.{◌≡◌, ℕ, suc, ◌≤◌, Bool, true, false, not, ◌⊎◌, ◌↔◌, List, [], length, Decides, sym, refl, ap, ◌∙◌, subst, subst₂, inl, inr}
use Rattle.std.proofs.lemmas.Bool.{not-true, not-false, both_ways}
use Rattle.std.proofs.lemmas.Bool.Decides.{not_from_Decides}
use Rattle.characters.specs.Classes.{is_xml}
use Rattle.names.specs.Order.{Text}
use Rattle.names.proofs.Never.{never}
use Rattle.items.specs.Grammar.{Item}
use Rattle.items.specs.Scan.{item}
use Rattle.items.proofs.Takes.{complete}
use Rattle.items.proofs.Sound.{sound}
use Rattle.items.proofs.Widths.{shorter}
use Rattle.xml.specs.Faults.{At, misplaced, stands, Least, Answer, taken, refused}
use Rattle.xml.specs.Document.{Document, IsDocument}
use Rattle.xml.specs.Rules.{Frame, Context, building, finished, outside, after, Wrong, Lacks, Inner, Forbidden, same_written, all_white, check, lacks, inner}
use Rattle.xml.specs.Reading.{unixed, origin, UnixFault, MarkupFault, unix_reads, markup_answer, reads, Right}
use Rattle.xml.proofs.Least.{Clean, stay, go, clean_front, front_same}
use Rattle.xml.proofs.Whole.{Parts, clear, fault_place, refuses as least-refused, takes as taken-clean, faultless}
use Rattle.xml.proofs.Deciding.{same_written-decides, white_decides}
use Rattle.xml.proofs.Checks.{checks, ends}
use Rattle.xml.proofs.Inside.{inners, within}
use Rattle.xml.proofs.LineEnds.{least_onto, least_back, none_onto, none_back}
use Rattle.xml.proofs.Documents.{document-front, Fine, stop, more, fine_document}

pub parts : Parts Item after Wrong Inner Lacks item check inner lacks
parts =
    record {
      takes = complete _ _ _;
      sound = λ s x e. sound s x.1 x.0 e;
      shorter = shorter _ _ _;
      checks = checks;
      inners = inners;
      within = within;
      ends = ends;
    }

-- the characters that are refused
says : (c : ℕ) → not (is_xml c) ≡ true → Forbidden c
says c e = not-true (is_xml c) e

tells : (c : ℕ) → not (is_xml c) ≡ false → Forbidden c → ⊥
tells c e f = both_ways (is_xml c) f (not-false (is_xml c) e)

-- a clean walk from before the first item to the end of the text
abbrev pub Walk : Text → Context → Type 0
Walk s d = (e : ℕ) × Clean Item after Wrong Inner Lacks 0 outside s e d []

-- a text whose line ends are one
module _ (s : Text) where
  unix_place : (i n : ℕ) → UnixFault s i n → i ≤ length s
  unix_place = fault_place Item after Wrong Inner Lacks parts Forbidden (λ c. not (is_xml c)) says tells outside s

  unix_refuses : (p n : ℕ) → (unix_reads s ≡ refused p n) ↔ Least (UnixFault s) p n
  unfolding unix_reads
  unix_refuses = least-refused Item after Wrong Inner Lacks parts Forbidden (λ c. not (is_xml c)) says tells outside s

  unix_takes : (d : Context) → unix_reads s ≡ taken d → ((p n : ℕ) → UnixFault s p n → ⊥) × (e : ℕ) × Clean Item after Wrong Inner Lacks 0 outside s e d []
  unfolding unix_reads
  unix_takes = taken-clean Item after Wrong Inner Lacks parts Forbidden (λ c. not (is_xml c)) says tells outside s

  unix_faultless : ((p n : ℕ) → UnixFault s p n → ⊥) → (d : Context) × (unix_reads s ≡ taken d)
  unfolding unix_reads
  unix_faultless = faultless Item after Wrong Inner Lacks parts Forbidden (λ c. not (is_xml c)) says tells outside s

  -- with elements open at the end, or no root, there is a fault
  none_open : (gs : List Frame) → unix_reads s ≡ taken (building gs) → ⊥
  none_open gs e =
      let t = unix_takes (building gs) e in
      t.0 _ 6 (stands (clean_front Item after Wrong Inner Lacks t.2) (At.unfinished refl Lacks.unfinished))

module _ (s : Text) where
  -- refusals
  refuses_least : (r : Answer Context) → unix_reads (unixed s) ≡ r → (p n : ℕ) → markup_answer s r ≡ refused p n → Least (MarkupFault s) p n
  refuses_least (taken (finished d)) e p n h = never cc
  refuses_least (taken (building gs)) e p n h = absurd (none_open (unixed s) gs e)
  refuses_least (refused q m) e p n h =
      let i : origin s q ≡ p = cc in
      let j : m ≡ n = cc in
      subst₂ (Least (MarkupFault s)) i j (least_onto s (unix_place (unixed s)) ((unix_refuses (unixed s) q m).0 e))

  least_refuses : (p n : ℕ) → Least (MarkupFault s) p n → markup_answer s (unix_reads (unixed s)) ≡ refused p n
  least_refuses p n h =
      let b = least_back s (unix_place (unixed s)) h in
      ap (markup_answer s) ((unix_refuses (unixed s) b.0 n).1 b.2) ∙ ap (λ x. refused x n) (sym b.1)

  pub markup_refuses : (p n : ℕ) → (reads s ≡ refused p n) ↔ Least (MarkupFault s) p n
  unfolding reads
  markup_refuses p n = (refuses_least (unix_reads (unixed s)) refl p n, least_refuses p n)

  -- what is taken has no fault, and was walked to its end
  takes_walk : (r : Answer Context) → unix_reads (unixed s) ≡ r → (d : Document) → markup_answer s r ≡ taken d
      → ((p n : ℕ) → MarkupFault s p n → ⊥) × Walk (unixed s) (finished d)
  takes_walk (taken (finished b)) e d h =
      let t = unix_takes (unixed s) (finished b) e in
      let i : b ≡ d = cc in
      (none_onto s t.0, (t.1, subst (λ x. Clean Item after Wrong Inner Lacks 0 outside (unixed s) t.1 (finished x) []) i t.2))
  takes_walk (taken (building gs)) e d h = absurd (none_open (unixed s) gs e)
  takes_walk (refused p n) e d h = never cc

  pub markup_takes : (d : Document) → reads s ≡ taken d → ((p n : ℕ) → MarkupFault s p n → ⊥) × Walk (unixed s) (finished d)
  unfolding reads
  markup_takes = takes_walk (unix_reads (unixed s)) refl

  -- and what has no fault is taken
  taken_whole : (c : Context) → unix_reads (unixed s) ≡ taken c → (d : Document) × (markup_answer s (unix_reads (unixed s)) ≡ taken d)
  taken_whole (finished d) e = (d, ap (markup_answer s) e)
  taken_whole (building gs) e = absurd (none_open (unixed s) gs e)

  pub markup_faultless : ((p n : ℕ) → MarkupFault s p n → ⊥) → (d : Document) × (reads s ≡ taken d)
  unfolding reads
  markup_faultless h = let t = unix_faultless (unixed s) (none_back s h) in taken_whole t.0 t.1

-- a clean walk has nothing wrong where it stands
fine : {p e : ℕ} {c d : Context} {s q : Text} → Clean Item after Wrong Inner Lacks p c s e d q → (n : ℕ) × Fine n p c s e d q
fine stay = (0, stop)
fine (go h i w) = let f = fine w in (suc f.0, more i (λ k z. h 0 k (misplaced i z)) f.1)

settled : {P : Type 0} (b : Bool) → Decides b P → P ⊎ (P → ⊥)
settled true d = inl (d.0 refl)
settled false d = inr (not_from_Decides false d refl)

walk-document : (s : Text) (d : Document) → Walk s (finished d) → IsDocument s d
walk-document s d w =
    let f = fine w.1 in
    fine_document (λ m n. settled (same_written m n) (same_written-decides m n)) (λ ps. settled (all_white ps) (white_decides ps)) f.0 w.0 s d f.1

-- one text is one document at most
document-taken : (s : Text) (d : Document) → ((p n : ℕ) → MarkupFault s p n → ⊥) → IsDocument (unixed s) d → reads s ≡ taken d
document-taken s d h i =
    let t = markup_faultless s h in
    let w = (markup_takes s t.0 t.1).1 in
    let k = clear Item after Wrong Inner Lacks parts in
    let e = front_same Item after Wrong Inner Lacks k (clean_front Item after Wrong Inner Lacks w.1) (document-front (unixed s) d i) in
    let j : t.0 ≡ d = cc in
    t.1 ∙ ap taken j

pub right : Right
right =
    record {
      refuses = markup_refuses;
      takes = λ s d. (λ e. let t = markup_takes s d e in (t.0, walk-document (unixed s) d t.1), λ h. document-taken s d h.0 h.1);
    }
