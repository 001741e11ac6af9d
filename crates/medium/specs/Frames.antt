-- What each medium of this crate leaves alone besides its cells. It is said of the parts that matter, whatever has them, and so of the
-- medium, which has them too.
use Rattle.std.specs.Prelude.{◌≡◌, ℕ, ◌+◌, List, take, drop}
use Rattle.std.specs.Borrow.{MutBor}
use Rattle.medium.specs.Cells.{Cell, window}
use Rattle.medium.specs.declared.flat.Flat.{Flat}
use Rattle.medium.specs.declared.window.Window.{Window}

-- a relation that calls in a row keep if each keeps it
pub record Frame {S : Type 0} (kept : S → S → Type 0) : Type 0 where
  pub same : (s : S) → kept s s
  pub onward : (s t u : S) → kept s t → kept t u → kept s u

-- flat: the loan (by the name that the logic gives it) and the bytes past the last cell
pub record FlatPartsKept (loan : ℕ) (bs : List ℕ) (loan' : ℕ) (bs' : List ℕ) : Type 0 where
  pub lent : loan' ≡ loan
  pub beyond : drop 1048576 bs' ≡ drop 1048576 bs

abbrev pub FlatKept : Flat → Flat → Type 0
FlatKept f g = FlatPartsKept f.bytes.ghost_name f.bytes.now g.bytes.ghost_name g.bytes.now

-- lent: the loan, and what the medium itself leaves alone
pub record LentPartsKept {S : Type 0} (kept : S → S → Type 0) (loan : ℕ) (s : S) (loan' : ℕ) (s' : S) : Type 0 where
  pub lent : loan' ≡ loan
  pub inner : kept s s'

abbrev pub LentKept : {S : Type 0} → (S → S → Type 0) → MutBor S → MutBor S → Type 0
LentKept kept r s = LentPartsKept kept r.ghost_name r.now s.ghost_name s.now

-- the cells of a window, `cells` being those of the medium underneath
abbrev pub window_cells : {S : Type 0} → (S → List Cell) → Window S → List Cell
window_cells cells w = window w.from w.len (cells w.inner)

-- window: its two numbers, what the medium underneath leaves alone, and that medium's cells before and behind the window
pub record WindowPartsKept {S : Type 0} (cells : S → List Cell) (kept : S → S → Type 0) (start count : ℕ) (s : S) (start' count' : ℕ) (s' : S) : Type 0 where
  pub from : start' ≡ start
  pub len : count' ≡ count
  pub inner : kept s s'
  pub before : take start (cells s') ≡ take start (cells s)
  pub behind : drop (start + count) (cells s') ≡ drop (start + count) (cells s)

abbrev pub WindowKept : {S : Type 0} → (S → List Cell) → (S → S → Type 0) → Window S → Window S → Type 0
WindowKept cells kept w x = WindowPartsKept cells kept w.from w.len w.inner x.from x.len x.inner
