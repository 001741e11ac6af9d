-- What a character of a name or a language tag is.
use Rattle.std.specs.Prelude.{◌≡◌, ℕ, true, false, ◌≢◌}
use Rattle.characters.specs.Classes.{is_xml, is_white}

-- a character that XML allows, that is no white space, and that no markup is made of
pub record Plain (c : ℕ) : Type 0 where
  pub xml : is_xml c ≡ true
  pub white : is_white c ≡ false
  pub quote : c ≢ 34
  pub ampersand : c ≢ 38
  pub slash : c ≢ 47
  pub colon : c ≢ 58
  pub less : c ≢ 60
  pub greater : c ≢ 62
  pub question : c ≢ 63
