-- Names: what the scanner takes for a name, and where a name ends.
use Rattle.std.proofs.Common.{◌≡◌, ℕ, Bool, true, false, cond, ◌&&◌, eqb, [], ◌∷◌, ◌++◌, Some, None, Decides, Option, refl, ap, subst, inl, inr, ⊎_elim, arith}
use Rattle.std.specs.List.{AllByRecursion}
use Rattle.std.proofs.lemmas.Bool.{eqb-true, ne_eqb, both_ways, cases_Bool, or_left, or_right, or_from, and_from}
use Rattle.std.proofs.lemmas.Bool.Decides.{Decides-and}
use Rattle.std.proofs.ByRecursion.{Decides-by_and, All-append, All-weaker}
use Rattle.characters.specs.Classes.{Ranges, In, name_first, name_more, is_name, is_white, white_ranges}
use Rattle.characters.proofs.Deciding.{name-decides, white_decides}
use Rattle.characters.proofs.Members.{name-plain}
use Rattle.names.specs.Order.{Text}
use Rattle.items.specs.Tokens.{QName, bare, prefixed, written, NcName, IsQName}
use Rattle.items.specs.Scan.{all_name, is_nc_name, onto, split, as_name, q_name, is_char_of_name}
use Rattle.items.proofs.Options.{none_some, same-inside}

-- Characters of names.
pub in_front : (rs qs : Ranges) (c : ℕ) → In rs c → In (rs ++ qs) c
in_front [] qs c h = absurd h
in_front (r ∷ rs) qs c h = ⊎_elim inl (λ i. inr (in_front rs qs c i)) h

-- a name goes on with what it may begin with
pub first_next : (c : ℕ) → is_name true c ≡ true → is_name false c ≡ true
first_next c e = (name-decides false c).1 (in_front name_first name_more c ((name-decides true c).0 e))

pub next_char : (c : ℕ) → is_name false c ≡ true → is_char_of_name c ≡ true
next_char c e = or_left (is_name false c) (eqb c 58) e

-- white space ends a name and begins none
pub white_ends : (c : ℕ) → is_white c ≡ true → is_char_of_name c ≡ false
white_ends c w =
    or_from (is_name false c) (eqb c 58)
    (⊎_elim (λ e. absurd (both_ways (is_white c) (name-plain false c e).white w)) (λ e. e) (cases_Bool (is_name false c)))
    (ne_eqb c 58 (let h : In white_ranges c = (white_decides c).0 w in omega arith))

-- The tests of names.
decides_itself : (b : Bool) → Decides b (b ≡ true)
decides_itself b = (λ e. e, λ e. e)

pub decides_nc_name : (t : Text) → Decides (is_nc_name t) (NcName t)
decides_nc_name [] = (λ e. absurd (both_ways false refl e), λ h. absurd h)
decides_nc_name (c ∷ t) =
    Decides-and _ _ (decides_itself (is_name true c))
    (Decides-by_and (is_name false) (λ d. is_name false d ≡ true) all_name (λ d. decides_itself (is_name false d)) refl (λ _ _. refl) t)

-- every character of a name without a colon goes on with a name
nc_all : (t : Text) → NcName t → AllByRecursion (λ d. is_name false d ≡ true) t
nc_all [] h = absurd h
nc_all (c ∷ t) h = (first_next c h.0, h.1)

-- The split at the first colon.
not_colon : (c : ℕ) → is_name false c ≡ true → eqb c 58 ≡ false
not_colon c e = ne_eqb c 58 (name-plain false c e).colon

split-none : (t : Text) → AllByRecursion (λ d. is_name false d ≡ true) t → split t ≡ None
split-none [] h = refl
split-none (c ∷ t) h = rw (not_colon c h.0, split-none t h.1)

split-some : (p l : Text) → AllByRecursion (λ d. is_name false d ≡ true) p → split (p ++ (58 ∷ l)) ≡ Some (p, l)
split-some [] l h = refl
split-some (c ∷ p) l h = rw (not_colon c h.0, split-some p l h.1)

split-back : (t : Text) (x : Text × Text) → split t ≡ Some x → t ≡ x.0 ++ (58 ∷ x.1)
split-back [] x e = none_some e
split-back (c ∷ t) x e = go (eqb c 58) refl (split t) (split-back t) e
  where
    go : (b : Bool) → eqb c 58 ≡ b → (o : Option (Text × Text)) → ((y : Text × Text) → o ≡ Some y → t ≡ y.0 ++ (58 ∷ y.1))
        → cond b (Some ([], t)) (onto c o) ≡ Some x → c ∷ t ≡ x.0 ++ (58 ∷ x.1)
    go true f o rec g = subst (λ y. c ∷ t ≡ y.0 ++ (58 ∷ y.1)) (same-inside g) (ap (λ d. d ∷ t) (eqb-true c 58 f))
    go false f None rec g = none_some g
    go false f (Some y) rec g = subst (λ z. c ∷ t ≡ z.0 ++ (58 ∷ z.1)) (same-inside g) (ap (λ u. c ∷ u) (rec y refl))

-- the scanner reads every name as it is written
pub name-reads : (q : QName) → IsQName q → q_name (written q) ≡ Some q
unfolding q_name
name-reads (bare l) h = rw (split-none l (nc_all l h), (decides_nc_name l).1 h)
name-reads (prefixed p l) h =
    rw (split-some p l (nc_all p h.0), and_from (is_nc_name p) (is_nc_name l) ((decides_nc_name p).1 h.0) ((decides_nc_name l).1 h.1))

-- and what it takes for a name is one, as it is written
pub reads-name : (a : Text) (q : QName) → q_name a ≡ Some q → IsQName q × (a ≡ written q)
unfolding q_name
reads-name a q e = go (split a) refl e
  where
    by : (b : Bool) (n : QName) → (b ≡ true → IsQName n × (a ≡ written n)) → cond b (Some n) None ≡ Some q → IsQName q × (a ≡ written q)
    by true n f g = subst (λ m. IsQName m × (a ≡ written m)) (same-inside g) (f refl)
    by false n f g = none_some g

    go : (o : Option (Text × Text)) → split a ≡ o → as_name a o ≡ Some q → IsQName q × (a ≡ written q)
    go None s g = by (is_nc_name a) (bare a) (λ k. ((decides_nc_name a).0 k, refl)) g
    go (Some x) s g =
        by (is_nc_name x.0 && is_nc_name x.1) (prefixed x.0 x.1)
        (λ k. ((Decides-and _ _ (decides_nc_name x.0) (decides_nc_name x.1)).0 k, split-back a x s)) g

-- a text that begins as a name does and goes on so
abbrev pub NameText : Text → Type 0
NameText [] = ⊥
NameText (c ∷ t) = (is_name true c ≡ true) × AllByRecursion (λ d. is_char_of_name d ≡ true) t

pub name-text : (q : QName) → IsQName q → NameText (written q)
name-text (bare []) h = absurd h
name-text (bare (c ∷ l)) h = (h.0, All-weaker _ _ next_char l h.1)
name-text (prefixed [] l) h = absurd h.0
name-text (prefixed (c ∷ p) l) h =
    (h.0.0, All-append _ p (58 ∷ l) (All-weaker _ _ next_char p h.0.1) (or_right (is_name false 58) true refl, All-weaker _ _ next_char l (nc_all l h.1)))
