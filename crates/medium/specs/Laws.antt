-- That each medium of this crate has not too many cells, and that what it leaves alone is kept over calls in a row, as it is by
-- whatever has such parts. Ghost members cite these proofs, and may cite nothing of proofs/.
use Rattle.std.proofs.Common.{◌≡◌, ℕ, ◌+◌, ◌≤◌, List, length, take, drop, refl, ap₂, ◌∙◌, arith, length-take, length-drop}
use Rattle.std.proofs.lemmas.List.{length-map}
use Rattle.medium.specs.Cells.{Cell, flat_cells, window}
use Rattle.medium.specs.Frames.{Frame, FlatKept, FlatPartsKept, LentKept, LentPartsKept, WindowKept, WindowPartsKept}

pub flat_parts_frame : {S : Type 0} (loan : S → ℕ) (bytes : S → List ℕ) → Frame (λ s t. FlatPartsKept (loan s) (bytes s) (loan t) (bytes t))
flat_parts_frame loan bytes =
    record {
      same = λ s. record { lent = refl; beyond = refl };
      onward = λ s t u p q. record { lent = q.lent ∙ p.lent; beyond = q.beyond ∙ p.beyond };
    }

pub flat_frame : Frame FlatKept
flat_frame = flat_parts_frame (λ f. f.bytes.ghost_name) (λ f. f.bytes.now)

pub flat_bounded : (bs : List ℕ) → length (flat_cells bs) ≤ 1048576
flat_bounded bs = simp (length-map, length-take) (omega arith)

pub lent_parts_frame : {S R : Type 0} {kept : S → S → Type 0} (loan : R → ℕ) (val : R → S) → Frame kept → Frame (λ r s. LentPartsKept kept (loan r) (val r) (loan s) (val s))
lent_parts_frame loan val frame =
    record {
      same = λ r. record { lent = refl; inner = frame.same (val r) };
      onward = λ r s t p q. record { lent = q.lent ∙ p.lent; inner = frame.onward (val r) (val s) (val t) p.inner q.inner };
    }

pub lent_frame : {S : Type 0} {kept : S → S → Type 0} → Frame kept → Frame (LentKept kept)
lent_frame frame = lent_parts_frame (λ r. r.ghost_name) (λ r. r.now) frame

-- what two calls in a row leave of a part of the cells
part : (f : ℕ → List Cell → List Cell) (n m : ℕ) (xs ys zs : List Cell) → m ≡ n → f n ys ≡ f n xs → f m zs ≡ f m ys → f n zs ≡ f n xs
part f n m xs ys zs e p q = cc

pub window_parts_frame : {S W : Type 0} {kept : S → S → Type 0} (from len : W → ℕ) (inner : W → S) (cells : S → List Cell) → Frame kept → Frame (λ w x. WindowPartsKept cells kept (from w) (len w) (inner w) (from x) (len x) (inner x))
window_parts_frame from len inner cells frame =
    record {
      same = λ w. record { from = refl; len = refl; inner = frame.same (inner w); before = refl; behind = refl };
      onward = λ w x y p q. record {
        from = q.from ∙ p.from;
        len = q.len ∙ p.len;
        inner = frame.onward (inner w) (inner x) (inner y) p.inner q.inner;
        before = part take (from w) (from x) (cells (inner w)) (cells (inner x)) (cells (inner y)) p.from p.before q.before;
        behind = part drop (from w + len w) (from x + len x) (cells (inner w)) (cells (inner x)) (cells (inner y)) (ap₂ (λ a b. a + b) p.from p.len) p.behind q.behind;
      };
    }

pub window_frame : {S : Type 0} {kept : S → S → Type 0} (cells : S → List Cell) → Frame kept → Frame (WindowKept cells kept)
window_frame cells frame = window_parts_frame (λ w. w.from) (λ w. w.len) (λ w. w.inner) cells frame

pub window-bounded : (from len : ℕ) (cs : List Cell) → length cs ≤ 1048576 → length (window from len cs) ≤ 1048576
window-bounded from len cs h = simp (length-take, length-drop) (omega arith)
