-- Namespaces have prefixes that differ.
use Rattle.std.proofs.Common.{◌≡◌, ℕ, ◌+◌, ◌-◌, ◌*◌, ◌≤◌, Bool, true, false, cond, eqb, ltb, ◌≢◌, ◌⊎◌, List, [], ◌∷◌, get_or, codes, sym, refl, ap, ◌∙◌, subst, inl, inr, ⊎_elim, arith}
use Rattle.std.proofs.lemmas.Bool.{cond_both, cond-false, or_from}
use Rattle.names.specs.Order.{Text, same}
use Rattle.tree.specs.Rules.{Among}
use Rattle.names.proofs.Deciding.{same_true, same_false}
use Rattle.canonical.specs.Prefixes.{dc_uri, xmp_uri, tiff_uri, is_known, decimal, prefix_as, number_after, prefix_from, prefix}
use Rattle.canonical.specs.Promises.{Foreign}
use Rattle.canonical.proofs.Names.{number-after}

-- a number from its decimal digits
abbrev value : Text → ℕ
value [] = 0
value (c ∷ []) = c - 48
value (c ∷ d ∷ t) = (c - 48) * 10 + (d - 48)

value-decimal : (k : ℕ) → value (decimal k) ≡ k
value-decimal k = cond_both (ltb k 10) _ _ (λ t. value t ≡ k) (λ _. omega arith) (λ _. omega arith)

abbrev first : Text → ℕ
first [] = 0
first (c ∷ t) = c

abbrev tail : Text → Text
tail [] = []
tail (c ∷ t) = t

-- the namespace with a prefix of its own, by the first character of that
abbrev origin : ℕ → Text
origin c = cond (eqb c 100) dc_uri (cond (eqb c 120) xmp_uri tiff_uri)

-- what p tells of the namespace u: it is the one with that prefix, or it has no prefix of its own and has the number k
abbrev Tells : ℕ → Text → Text → Type 0
Tells k u p = ((u ≡ origin (first p)) × (first p ≢ 110)) ⊎ ((is_known u ≡ false) × (p ≡ 110 ∷ decimal k))

prefix-tells : (k : ℕ) (u : Text) → Tells k u (prefix_as k u)
prefix-tells k u =
    cond_both (same u dc_uri) _ _ (Tells k u) (λ a. inl (same_true u dc_uri a, omega arith))
    (λ a. cond_both (same u xmp_uri) _ _ (Tells k u) (λ b. inl (same_true u xmp_uri b, omega arith))
    (λ b. cond_both (same u tiff_uri) _ _ (Tells k u) (λ c. inl (same_true u tiff_uri c, omega arith))
    (λ c. inr (or_from _ _ a (or_from _ _ b c), refl))))

told_same : (j k : ℕ) (u v p : Text) → Tells j u p → Tells k v p → (u ≡ v) ⊎ ((is_known u ≡ false) × (j ≡ k))
told_same j k u v p (inl a) (inl b) = inl (a.0 ∙ sym b.0)
told_same j k u v p (inl a) (inr b) = absurd (a.1 (ap first b.1))
told_same j k u v p (inr a) (inl b) = absurd (b.1 (ap first a.1))
told_same j k u v p (inr a) (inr b) =
    inr (a.0, sym (value-decimal j) ∙ ap (λ t. value (tail t)) (sym a.1 ∙ b.1) ∙ value-decimal k)

-- a namespace that is not the first of a list is among the others
beyond : (u v : Text) (us : List Text) → same u v ≡ false → Among u (v ∷ us) → Among u us
beyond u v us e = ⊎_elim (λ h. absurd (same_false u v e h)) (λ a. a)

-- a namespace of a list has its prefix by a number from k on
found : (k : ℕ) (us : List Text) (u : Text) → Among u us → (j : ℕ) × (k ≤ j) × (prefix_from k us u ≡ prefix_as j u)
found k [] u a = absurd a
found k (v ∷ us) u a =
    cond_both (same u v) _ _ (λ p. (j : ℕ) × (k ≤ j) × (p ≡ prefix_as j u))
    (λ e. (k, omega arith, ap (prefix_as k) (sym (same_true u v e))))
    (λ e. let f = found (number_after k v) us u (beyond u v us e a) in (f.0, omega (arith, number-after k v, f.1), f.2))

-- a namespace further on has the prefix of w only if it is w
later : (k : ℕ) (w : Text) (us : List Text) (v : Text) → Among v us → prefix_as k w ≡ prefix_from (number_after k w) us v → w ≡ v
later k w us v a e =
    let f = found (number_after k w) us v a in
    ⊎_elim (λ h. h) (λ h. absurd (omega (arith, cond-false (is_known w) k (k + 1) h.0, f.1, h.1)))
    (told_same k f.0 w v (prefix_as k w) (prefix-tells k w) (subst (Tells f.0 v) (sym (e ∙ f.2)) (prefix-tells f.0 v)))

-- two namespaces of a list: each is the first one, or stands further on
either : {x p q : Text} (a b : Bool) (u v w : Text) → (a ≡ true → u ≡ w) → (b ≡ true → v ≡ w) → (b ≡ false → x ≡ q → w ≡ v) → (a ≡ false → x ≡ p → w ≡ u) → (a ≡ false → b ≡ false → p ≡ q → u ≡ v) → cond a x p ≡ cond b x q → u ≡ v
either true true u v w f g l r i e = f refl ∙ sym (g refl)
either true false u v w f g l r i e = f refl ∙ l refl e
either false true u v w f g l r i e = sym (g refl ∙ r refl (sym e))
either false false u v w f g l r i e = i refl refl e

prefixes-differ : (k : ℕ) (us : List Text) (u v : Text) → Among u us → Among v us → prefix_from k us u ≡ prefix_from k us v → u ≡ v
prefixes-differ k [] u v a b e = absurd a
prefixes-differ k (w ∷ us) u v a b e =
    either (same u w) (same v w) u v w (same_true u w) (same_true v w)
    (λ h. later k w us v (beyond v w us h b)) (λ h. later k w us u (beyond u w us h a))
    (λ h i. prefixes-differ (number_after k w) us u v (beyond u w us h a) (beyond v w us i b)) e

pub distinct : (us : List Text) (u v : Text) → Among u us → Among v us → prefix us u ≡ prefix us v → u ≡ v
unfolding prefix
distinct us u v a b e = prefixes-differ 1 us u v a b e

-- and none is taken for another
foreign_as : (k : ℕ) (u : Text) → Foreign (prefix_as k u)
foreign_as k u =
    cond_both (same u dc_uri) _ _ Foreign (λ _. by_first (codes "dc") (omega arith) (omega arith) (omega arith))
    (λ _. cond_both (same u xmp_uri) _ _ Foreign (λ _. xmp)
    (λ _. cond_both (same u tiff_uri) _ _ Foreign (λ _. by_first (codes "tiff") (omega arith) (omega arith) (omega arith))
    (λ _. by_first (110 ∷ decimal k) (omega arith) (omega arith) (omega arith))))
  where
    by_first : (p : Text) → first p ≢ 0 → first p ≢ 114 → first p ≢ 120 → Foreign p
    by_first p a b c =
        record { some = λ e. a (ap first e); not_rdf = λ e. b (ap first e); not_xml = λ e. c (ap first e); not_xmlns = λ e. c (ap first e) }

    third : Text → ℕ
    third t = get_or t 2 0

    xmp : Foreign (codes "xmp")
    xmp =
        record {
          some = λ e. let z : 120 ≡ 0 = ap first e in omega arith;
          not_rdf = λ e. let z : 120 ≡ 114 = ap first e in omega arith;
          not_xml = λ e. let z : 112 ≡ 108 = ap third e in omega arith;
          not_xmlns = λ e. let z : 112 ≡ 108 = ap third e in omega arith;
        }

pub foreign : (us : List Text) (u : Text) → Among u us → Foreign (prefix us u)
unfolding prefix
foreign us u a = let f = found 1 us u a in subst Foreign (sym f.2) (foreign_as f.0 u)
