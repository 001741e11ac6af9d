-- What is proved of the scanner.
use Rattle.std.specs.Prelude.{◌≡◌, ◌<◌, length, Some}
use Rattle.names.specs.Order.{Text}
use Rattle.items.specs.Tokens.{Token}
use Rattle.items.specs.Grammar.{Item}
use Rattle.items.specs.Scan.{item}

-- the scanner finds an item exactly where the grammar has one; so at most one item begins a text
pub record Exact : Type 0 where
  pub sound : (s r : Text) (t : Token) → item s ≡ Some (t, r) → Item s t r
  pub complete : (s r : Text) (t : Token) → Item s t r → item s ≡ Some (t, r)
  -- an item is never empty
  pub shorter : (s r : Text) (t : Token) → Item s t r → length r < length s
