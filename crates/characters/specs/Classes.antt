-- Classes of characters: what XML 1.0 allows, and what names and language tags are made of.
use Rattle.std.specs.Prelude.{ℕ, ◌≤◌, Bool, false, cond, ◌&&◌, ◌||◌, ◌⊎◌, List, [], ◌∷◌, ◌++◌, nat_le}

-- ranges of character numbers, each from its first to its last
abbrev pub Ranges : Type 0
Ranges = List (ℕ × ℕ)

-- the number lies in one of the ranges, and the test of it
abbrev pub In : Ranges → ℕ → Type 0
In [] c = ⊥
In (r ∷ rs) c = ((r.0 ≤ c) × (c ≤ r.1)) ⊎ In rs c

abbrev pub within : Ranges → ℕ → Bool
within [] c = false
within (r ∷ rs) c = (nat_le r.0 c && nat_le c r.1) || within rs c

-- the characters of XML 1.0
abbrev pub xml_ranges : Ranges
xml_ranges = (0x9, 0xA) ∷ (0xD, 0xD) ∷ (0x20, 0xD7FF) ∷ (0xE000, 0xFFFD) ∷ (0x10000, 0x10FFFF) ∷ []

-- white space: tab, line feed, carriage return and space
abbrev pub white_ranges : Ranges
white_ranges = (0x9, 0xA) ∷ (0xD, 0xD) ∷ (0x20, 0x20) ∷ []

-- a local name begins with A to Z, a to z or `_`, and goes on with these, digits, `.` and `-`
abbrev pub local_first : Ranges
local_first = (0x41, 0x5A) ∷ (0x5F, 0x5F) ∷ (0x61, 0x7A) ∷ []

abbrev pub local_next : Ranges
local_next = local_first ++ ((0x2D, 0x2E) ∷ (0x30, 0x39) ∷ [])

-- a language tag holds A to Z, a to z, digits and hyphens
abbrev pub tag_ranges : Ranges
tag_ranges = (0x2D, 0x2D) ∷ (0x30, 0x39) ∷ (0x41, 0x5A) ∷ (0x61, 0x7A) ∷ []

-- a name of XML 1.0 (fifth edition) that has no colon: what it begins with and what it goes on with
abbrev pub name_first : Ranges
name_first =
    (0x41, 0x5A) ∷ (0x5F, 0x5F) ∷ (0x61, 0x7A) ∷ (0xC0, 0xD6) ∷ (0xD8, 0xF6) ∷ (0xF8, 0x2FF) ∷ (0x370, 0x37D) ∷ (0x37F, 0x1FFF) ∷
    (0x200C, 0x200D) ∷ (0x2070, 0x218F) ∷ (0x2C00, 0x2FEF) ∷ (0x3001, 0xD7FF) ∷ (0xF900, 0xFDCF) ∷ (0xFDF0, 0xFFFD) ∷
    (0x10000, 0xEFFFF) ∷ []

abbrev pub name_more : Ranges
name_more = (0x2D, 0x2E) ∷ (0x30, 0x39) ∷ (0xB7, 0xB7) ∷ (0x300, 0x36F) ∷ (0x203F, 0x2040) ∷ []

abbrev pub name_next : Ranges
name_next = name_first ++ name_more

-- a character of a name, at its first place or at a later one
abbrev pub local_at : Bool → Ranges
local_at first = cond first local_first local_next

abbrev pub name_at : Bool → Ranges
name_at first = cond first name_first name_next

-- the tests
unfoldable pub is_xml : ℕ → Bool
is_xml c = within xml_ranges c

unfoldable pub is_white : ℕ → Bool
is_white c = within white_ranges c

unfoldable pub is_local : Bool → ℕ → Bool
is_local first c = within (local_at first) c

unfoldable pub is_tag : ℕ → Bool
is_tag c = within tag_ranges c

unfoldable pub is_name : Bool → ℕ → Bool
is_name first c = within (name_at first) c
