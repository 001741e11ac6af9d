-- Local names and prefixes are names of XML without a colon.
use Rattle.std.proofs.Common.{◌≡◌, ℕ, ◌+◌, ◌/◌, ◌%◌, ◌<◌, ◌≤◌, true, false, ltb, List, [], ◌∷◌, ◌++◌, length, refl, inl, inr, ⊎_elim, arith}
use Rattle.std.specs.List.{AllByRecursion}
use Rattle.std.proofs.ByRecursion.{All-weaker}
use Rattle.std.proofs.lemmas.Bool.{cond_both, ltb-true}
use Rattle.characters.specs.Classes.{Ranges, In, local_first, name_first, name_more, is_local, is_name}
use Rattle.characters.proofs.Deciding.{in_append, local_decides, name-decides}
use Rattle.names.specs.Order.{Text, same}
use Rattle.tree.specs.Names.{LocalName}
use Rattle.items.specs.Tokens.{NcName}
use Rattle.items.proofs.Names.{in_front}
use Rattle.canonical.specs.Prefixes.{dc_uri, xmp_uri, tiff_uri, decimal, prefix_as, number_after, prefix_from, prefix}
use Rattle.tree.specs.Rules.{Among}
use Rattle.names.proofs.Deciding.{same_false}
use Rattle.canonical.proofs.Names.{number-after}

in_back : (rs qs : Ranges) (c : ℕ) → In qs c → In (rs ++ qs) c
in_back [] qs c h = h
in_back (r ∷ rs) qs c h = inr (in_back rs qs c h)

-- characters of local names are characters of names
first_in : (c : ℕ) → In local_first c → In name_first c
first_in c h = ⊎_elim inl (⊎_elim (λ i. inr (inl i)) (⊎_elim (λ i. inr (inr (inl i))) (λ i. absurd i))) h

more_in : (c : ℕ) → In ((0x2D, 0x2E) ∷ (0x30, 0x39) ∷ []) c → In name_more c
more_in c h = ⊎_elim inl (⊎_elim (λ i. inr (inl i)) (λ i. absurd i)) h

first_name : (c : ℕ) → is_local true c ≡ true → is_name true c ≡ true
first_name c e = (name-decides true c).1 (first_in c ((local_decides true c).0 e))

next_name : (c : ℕ) → is_local false c ≡ true → is_name false c ≡ true
next_name c e =
    (name-decides false c).1
    (⊎_elim (λ h. in_front name_first name_more c (first_in c h)) (λ h. in_back name_first name_more c (more_in c h))
    (in_append local_first ((0x2D, 0x2E) ∷ (0x30, 0x39) ∷ []) c ((local_decides false c).0 e)))

pub local_nc : (t : Text) → LocalName t → NcName t
local_nc [] h = absurd h
local_nc (c ∷ t) h = (first_name c h.0, All-weaker (λ d. is_local false d ≡ true) (λ d. is_name false d ≡ true) next_name t h.1)

-- prefixes
digit_local : (c : ℕ) → 48 ≤ c → c ≤ 57 → is_local false c ≡ true
digit_local c h k = (local_decides false c).1 (inr (inr (inr (inr (inl (h, k))))))

abbrev Digits : Text → Type 0
Digits t = AllByRecursion (λ d. is_local false d ≡ true) t

decimal-local : (k : ℕ) → k < 100 → Digits (decimal k)
decimal-local k h =
    cond_both (ltb k 10) _ _ Digits (λ e. let l = ltb-true k 10 e in (digit_local (48 + k) (omega arith) (omega arith), tt))
    (λ _. (digit_local (48 + k / 10) (omega arith) (omega arith), (digit_local (48 + k % 10) (omega arith) (omega arith), tt)))

prefix-local : (k : ℕ) (u : Text) → k < 100 → LocalName (prefix_as k u)
unfolding is_local
prefix-local k u h =
    cond_both (same u dc_uri) _ _ LocalName (λ _. (refl, (refl, tt)))
    (λ _. cond_both (same u xmp_uri) _ _ LocalName (λ _. (refl, (refl, (refl, tt))))
    (λ _. cond_both (same u tiff_uri) _ _ LocalName (λ _. (refl, (refl, (refl, (refl, tt))))) (λ _. (refl, decimal-local k h))))

prefixes-local : (k : ℕ) (us : List Text) (u : Text) → k + length us < 100 → Among u us → LocalName (prefix_from k us u)
prefixes-local k [] u h a = absurd a
prefixes-local k (v ∷ us) u h a =
    let l = number-after k v in
    cond_both (same u v) _ _ LocalName (λ _. prefix-local k v (omega arith))
    (λ e. prefixes-local (number_after k v) us u (omega arith) (⊎_elim (λ d. absurd (same_false u v e d)) (λ b. b) a))

pub prefix_nc : (us : List Text) (u : Text) → length us ≤ 24 → Among u us → NcName (prefix us u)
unfolding prefix
prefix_nc us u h a = local_nc (prefix_from 1 us u) (prefixes-local 1 us u (omega arith) a)
