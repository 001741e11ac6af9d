-- Names as they are written in markup, and the names that the scanner reads them as.
use Rattle.std.proofs.Common.{◌≡◌, sym, ap, subst}
use Rattle.names.specs.Order.{Text}
use Rattle.items.specs.Tokens.{QName, written, IsQName}
use Rattle.items.proofs.Names.{name-reads}
use Rattle.readback.specs.Meaning.{or_bare, name_of}

-- a name that the scanner reads as it is written
pub record Named (n : Text) : Type 0 where
  pub proper : IsQName (name_of n)
  pub same : written (name_of n) ≡ n

-- every name is read as what it spells
pub name-of : (q : QName) → IsQName q → name_of (written q) ≡ q
name-of q h = ap (or_bare (written q)) (name-reads q h)

pub named : (q : QName) → IsQName q → Named (written q)
named q h = record { proper = subst IsQName (sym (name-of q h)) h; same = ap written (name-of q h) }
