-- What the crate promises above its single functions.
use Rattle.std.specs.Prelude.{◌≡◌, ℕ, ◌<◌, ◌≤◌, Bool, true, List, length, Decides}
use Rattle.std.specs.List.{AllByRecursion}
use Rattle.characters.specs.declared.escapes.Where.{Where}
use Rattle.characters.specs.Classes.{Ranges, In, within, xml_ranges, white_ranges, tag_ranges, local_at, name_at, is_xml, is_white, is_tag, is_local, is_name}
use Rattle.characters.specs.Members.{Plain}
use Rattle.characters.specs.Safe.{Quiet}
use Rattle.characters.specs.Spelling.{spelling, spellings}

-- a test answers true exactly of the characters that lie in the ranges of its class
pub record ClassesDecided : Type 0 where
  pub ranges : (rs : Ranges) (c : ℕ) → Decides (within rs c) (In rs c)
  pub xml : (c : ℕ) → Decides (is_xml c) (In xml_ranges c)
  pub white : (c : ℕ) → Decides (is_white c) (In white_ranges c)
  pub local : (first : Bool) (c : ℕ) → Decides (is_local first c) (In (local_at first) c)
  pub tag : (c : ℕ) → Decides (is_tag c) (In tag_ranges c)
  pub name : (first : Bool) (c : ℕ) → Decides (is_name first c) (In (name_at first) c)

-- a character that XML allows is a scalar value, white space is allowed, and no character of a name or a language tag is markup
pub record NamesPlain : Type 0 where
  pub scalar : (c : ℕ) → is_xml c ≡ true → (c < 1114112) × (55296 ≤ c → 57344 ≤ c)
  pub white : (c : ℕ) → is_white c ≡ true → is_xml c ≡ true
  pub local : (first : Bool) (c : ℕ) → is_local first c ≡ true → Plain c
  pub tag : (c : ℕ) → is_tag c ≡ true → Plain c
  pub name : (first : Bool) (c : ℕ) → is_name first c ≡ true → Plain c

-- no spelling has what would end the text where it stands, or what a reader of XML would change, or what XML forbids; each has a
-- character, and names are spelt by themselves
pub record SpellingSafe : Type 0 where
  pub quiet : (w : Where) (c : ℕ) → AllByRecursion (Quiet w) (spelling w c)
  pub quiet_text : (w : Where) (cs : List ℕ) → AllByRecursion (Quiet w) (spellings w cs)
  pub allowed : (w : Where) (c : ℕ) → is_xml c ≡ true → AllByRecursion (λ d. is_xml d ≡ true) (spelling w c)
  pub allowed_text : (w : Where) (cs : List ℕ) → AllByRecursion (λ c. is_xml c ≡ true) cs → AllByRecursion (λ d. is_xml d ≡ true) (spellings w cs)
  pub size : (w : Where) (c : ℕ) → (1 ≤ length (spelling w c)) × (length (spelling w c) ≤ 6)
  pub size_text : (w : Where) (cs : List ℕ) → length cs ≤ length (spellings w cs)
  pub plain_text : (w : Where) (cs : List ℕ) → AllByRecursion Plain cs → spellings w cs ≡ cs
