-- That each test of a class decides its ranges.
use Rattle.std.specs.Prelude.{◌≡◌, ℕ, ◌≤◌, Bool, false, ◌⊎◌, [], ◌∷◌, ◌++◌, Decides, nat_le}
use Rattle.std.proofs.Common.{inl, inr, ⊎_elim}
use Rattle.std.proofs.lemmas.Bool.{false≢true, leb-true, le-leb, cases_Bool}
use Rattle.std.proofs.lemmas.Bool.Decides.{Decides-and, Decides-or}
use Rattle.characters.specs.Classes.{Ranges, In, within, xml_ranges, white_ranges, tag_ranges, local_at, name_at, is_xml, is_white, is_tag, is_local, is_name}

decides_leb : (a b : ℕ) → Decides (nat_le a b) (a ≤ b)
decides_leb a b = (leb-true a b, le-leb a b)

-- the test of any ranges says whether a number lies in one of them
pub within-decides : (rs : Ranges) (c : ℕ) → Decides (within rs c) (In rs c)
within-decides [] c = (λ e. absurd (false≢true e), λ h. absurd h)
within-decides (r ∷ rs) c =
    Decides-or _ _ (Decides-and _ _ (decides_leb r.0 c) (decides_leb c r.1)) (within-decides rs c)

-- a number that lies in none of them fails the test
pub within_none : (rs : Ranges) (c : ℕ) → (In rs c → ⊥) → within rs c ≡ false
within_none rs c h = ⊎_elim (λ e. absurd (h ((within-decides rs c).0 e))) (λ e. e) (cases_Bool (within rs c))

-- ranges one behind the other
pub in_append : (rs qs : Ranges) (c : ℕ) → In (rs ++ qs) c → In rs c ⊎ In qs c
in_append [] qs c h = inr h
in_append (r ∷ rs) qs c h = ⊎_elim (λ i. inl (inl i)) (λ i. ⊎_elim (λ j. inl (inr j)) inr (in_append rs qs c i)) h

pub xml_decides : (c : ℕ) → Decides (is_xml c) (In xml_ranges c)
unfolding is_xml
xml_decides c = within-decides xml_ranges c

pub white_decides : (c : ℕ) → Decides (is_white c) (In white_ranges c)
unfolding is_white
white_decides c = within-decides white_ranges c

pub tag_decides : (c : ℕ) → Decides (is_tag c) (In tag_ranges c)
unfolding is_tag
tag_decides c = within-decides tag_ranges c

pub local_decides : (first : Bool) (c : ℕ) → Decides (is_local first c) (In (local_at first) c)
unfolding is_local
local_decides first c = within-decides (local_at first) c

pub name-decides : (first : Bool) (c : ℕ) → Decides (is_name first c) (In (name_at first) c)
unfolding is_name
name-decides first c = within-decides (name_at first) c
