-- What is known of a character by its class.
use Rattle.std.proofs.Common.{◌≡◌, ℕ, ◌<◌, ◌≤◌, Bool, true, false, ◌≢◌, inl, inr, ⊎_elim, arith}
use Rattle.std.proofs.lemmas.Bool.{cases_lt}
use Rattle.characters.specs.Classes.{In, xml_ranges, white_ranges, tag_ranges, local_at, name_at, name_first, name_more, is_xml, is_white, is_tag, is_local, is_name}
use Rattle.characters.specs.Members.{Plain}
use Rattle.characters.proofs.Deciding.{within_none, in_append, xml_decides, white_decides, tag_decides, local_decides, name-decides}

-- a character of XML is a scalar value
pub xml_scalar : (c : ℕ) → is_xml c ≡ true → (c < 1114112) × (55296 ≤ c → 57344 ≤ c)
xml_scalar c e = let h : In xml_ranges c = (xml_decides c).0 e in (omega arith, omega arith)

-- plain, in numbers alone
abbrev Clear : ℕ → Type 0
Clear c =
    (45 ≤ c) × (c ≢ 47) × (c ≢ 58) × (c ≢ 60) × (c ≢ 62) × (c ≢ 63) × (55296 ≤ c → 57344 ≤ c) × (65534 ≤ c → 65536 ≤ c) × (c < 1114112)

clear_xml : (c : ℕ) → Clear c → In xml_ranges c
clear_xml c h =
    ⊎_elim (λ (a : c < 55296). inr (inr (inl (omega arith, omega arith))))
    (λ (a : 55296 ≤ c). ⊎_elim
    (λ (b : c < 65534). inr (inr (inr (inl (h.6 a, omega arith)))))
    (λ (b : 65534 ≤ c). inr (inr (inr (inr (inl (h.7 b, omega arith))))))
    (cases_lt c 65534))
    (cases_lt c 55296)

clear_white : (c : ℕ) → Clear c → is_white c ≡ false
unfolding is_white
clear_white c h = within_none white_ranges c (λ i. omega arith)

clear_plain : (c : ℕ) → Clear c → Plain c
clear_plain c h = record {
  xml = (xml_decides c).1 (clear_xml c h);
  white = clear_white c h;
  quote = omega arith;
  ampersand = omega arith;
  slash = omega arith;
  colon = omega arith;
  less = omega arith;
  greater = omega arith;
  question = omega arith;
}

pub local_plain : (first : Bool) (c : ℕ) → is_local first c ≡ true → Plain c
local_plain true c e = let h : In (local_at true) c = (local_decides true c).0 e in clear_plain c (omega arith)
local_plain false c e = let h : In (local_at false) c = (local_decides false c).0 e in clear_plain c (omega arith)

pub tag_plain : (c : ℕ) → is_tag c ≡ true → Plain c
tag_plain c e = let h : In tag_ranges c = (tag_decides c).0 e in clear_plain c (omega arith)

pub name-plain : (first : Bool) (c : ℕ) → is_name first c ≡ true → Plain c
name-plain true c e = let h : In (name_at true) c = (name-decides true c).0 e in clear_plain c (omega arith)
name-plain false c e =
    ⊎_elim (λ (h : In name_first c). clear_plain c (omega arith)) (λ (h : In name_more c). clear_plain c (omega arith))
    (in_append name_first name_more c ((name-decides false c).0 e))

-- white space is allowed
pub white_xml : (c : ℕ) → is_white c ≡ true → is_xml c ≡ true
white_xml c e =
    (xml_decides c).1
    (⊎_elim inl (⊎_elim (λ h. inr (inl h)) (⊎_elim (λ (h : (32 ≤ c) × (c ≤ 32)). inr (inr (inl (h.0, omega arith)))) (λ h. absurd h))) ((white_decides c).0 e))
