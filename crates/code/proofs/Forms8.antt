-- Which bytes UTF-8 reads as a character, and which it does not.
use Rattle.std.proofs.Common.{◌≡◌, ℕ, zero, suc, ◌+◌, ◌-◌, ◌*◌, ◌/◌, ◌%◌, ◌<◌, ◌≤◌, List, [], ◌∷◌, length, Some, None, Option, Bor, Ok, get_or, drop, slice_range, sym, refl, ap, ◌∙◌, subst, ⊎_elim, arith}
use Rattle.std.specs.List.{PartBy}
use Rattle.std.proofs.lemmas.List.{get_or-take, get_or-drop}
use Rattle.std.proofs.lemmas.Nat.{div-mul-add, mod-mul-add}
use Rattle.code.specs.Codes.{Scalar, Begins, Decoded}
use Rattle.code.specs.Tails.{Lead, Longer}
use Rattle.code.specs.Utf8.{two, three, four, enc8}
use Rattle.code.specs.Utf8Laws.{enc8-one, enc8-two, enc8-three, enc8-four, IsTwo, IsThree, IsFour, Starts, begins8}
use Rattle.code.proofs.Fronts.{front1, front2, front3, front4}

-- the bytes of v come first, and are n
abbrev pub Found : List ℕ → ℕ → ℕ → Type 0
Found bs v n = Begins enc8 v bs × (n ≡ length (enc8 v))

-- no character's bytes come first
abbrev pub NoneFirst : List ℕ → Type 0
NoneFirst bs = (v : ℕ) → Scalar v → Begins enc8 v bs → ⊥

from_two : (bs : List ℕ) (v : ℕ) → IsTwo bs v → Found bs v 2
from_two bs v r =
    let P : List ℕ → Type 0 = λ l. Starts bs l × (2 ≡ length l) in
    let e0 = r.3 in
    let e1 = r.4 in
    let f : get_or bs 0 0 ∷ get_or bs 1 0 ∷ [] ≡ two v = cc in
    subst P (sym (enc8-two v r.0 r.1)) (front2 bs r.2 ∙ f, refl)

from_three : (bs : List ℕ) (v : ℕ) → IsThree bs v → Found bs v 3
from_three bs v r =
    let P : List ℕ → Type 0 = λ l. Starts bs l × (3 ≡ length l) in
    let e0 = r.3 in
    let e1 = r.4 in
    let e2 = r.5 in
    let f : get_or bs 0 0 ∷ get_or bs 1 0 ∷ get_or bs 2 0 ∷ [] ≡ three v = cc in
    subst P (sym (enc8-three v r.0 r.1)) (front3 bs r.2 ∙ f, refl)

from_four : (bs : List ℕ) (v : ℕ) → IsFour bs v → Found bs v 4
from_four bs v r =
    let P : List ℕ → Type 0 = λ l. Starts bs l × (4 ≡ length l) in
    let e0 = r.2 in
    let e1 = r.3 in
    let e2 = r.4 in
    let e3 = r.5 in
    let f : get_or bs 0 0 ∷ get_or bs 1 0 ∷ get_or bs 2 0 ∷ get_or bs 3 0 ∷ [] ≡ four v = cc in
    subst P (sym (enc8-four v r.0)) (front4 bs r.1 ∙ f, refl)

-- no lead byte at all
pub no_lead : (bs : List ℕ) → (1 ≤ length bs → 128 ≤ get_or bs 0 0) → (1 ≤ length bs → get_or bs 0 0 < 192) → NoneFirst bs
no_lead bs h k v s b = let x = begins8 bs v b in omega arith

-- a byte alone
pub one_found : (bs : List ℕ) (v : ℕ) → 1 ≤ length bs → v ≡ get_or bs 0 0 → v < 128 → Decoded enc8 bs (Ok (v, 1))
one_found bs v h e k =
    let P : List ℕ → Type 0 = λ l. Starts bs l × (1 ≡ length l) in
    let f = subst P (sym (enc8-one v k)) (front1 bs h ∙ ap (λ (x : ℕ). x ∷ []) (sym e), refl) in
    ((omega arith, λ l. omega arith), f.0, f.1)

-- at k stands the tail byte of the six bits x
abbrev pub Tail : List ℕ → ℕ → ℕ → Type 0
Tail bs k x = (k < length bs) × (x < 64) × (get_or bs k 0 ≡ 128 + x)

-- v is the bits x of a lead byte and those of k tail bytes behind it
abbrev pub Bits : List ℕ → ℕ → ℕ → ℕ → Type 0
Bits bs x zero v = v ≡ x
Bits bs x (suc k) v = (u : ℕ) × (a : ℕ) × Bits bs x k u × Tail bs (suc k) a × (v ≡ u * 64 + a)

-- one tail byte more
pub onward : (bs : List ℕ) (x k u a : ℕ) → Bits bs x k u → Tail bs (suc k) a → Bits bs x (k + 1) (u * 64 + a)
onward bs x k u a b t = let e : suc k ≡ k + 1 = omega arith in subst (λ j. Bits bs x j (u * 64 + a)) e (u, a, b, t, refl)

-- only v can come first, and must have no shorter form
abbrev pub Only : List ℕ → ℕ → ℕ → Type 0
Only bs least v = (w : ℕ) → Begins enc8 w bs → (w ≡ v) × (least ≤ v)

-- a lead byte of two
two-found : (bs : List ℕ) (x v : ℕ) → Lead bs 192 32 x → Bits bs x 1 v → 128 ≤ v → Found bs v 2
two-found bs x v l b h = from_two bs v (h, omega arith, omega arith, omega arith, omega arith)

two-only : (bs : List ℕ) (x v : ℕ) → Lead bs 192 32 x → Bits bs x 1 v → Only bs 128 v
two-only bs x v l b w h = let f = begins8 bs w h in (omega arith, omega arith)

-- a lead byte of three
three-found : (bs : List ℕ) (x v : ℕ) → Lead bs 224 16 x → Bits bs x 2 v → 2048 ≤ v → Found bs v 3
three-found bs x v l b h = from_three bs v (h, omega arith, omega arith, omega arith, omega arith, omega arith)

three-only : (bs : List ℕ) (x v : ℕ) → Lead bs 224 16 x → Bits bs x 2 v → Only bs 2048 v
three-only bs x v l b w h = let f = begins8 bs w h in (omega arith, omega arith)

-- a lead byte of four, or one that there is not
parts : (w x y z v : ℕ) → x < 64 → y < 64 → z < 64 → v ≡ ((w * 64 + x) * 64 + y) * 64 + z → (v / 64 / 64 / 64 ≡ w) × (v / 64 / 64 % 64 ≡ x) × (v / 64 % 64 ≡ y) × (v % 64 ≡ z)
parts w x y z v hx hy hz e =
    let q1 : v / 64 ≡ (w * 64 + x) * 64 + y = rw e (div-mul-add ((w * 64 + x) * 64 + y) 64 z hz) in
    let q2 : v / 64 / 64 ≡ w * 64 + x = rw q1 (div-mul-add (w * 64 + x) 64 y hy) in
    (rw q2 (div-mul-add w 64 x hx), rw q2 (mod-mul-add w 64 x hx), rw q1 (mod-mul-add (w * 64 + x) 64 y hy), rw e (mod-mul-add ((w * 64 + x) * 64 + y) 64 z hz))

four-found : (bs : List ℕ) (x v : ℕ) → Lead bs 240 16 x → Bits bs x 3 v → 65536 ≤ v → Found bs v 4
four-found bs x v l b h =
    let t = parts x b.2.2.1 b.2.1 b.1 v (omega arith) (omega arith) (omega arith) (omega arith) in
    from_four bs v (h, omega arith, omega (arith, t.0), omega (arith, t.1), omega (arith, t.2), omega (arith, t.3))

four-only : (bs : List ℕ) (x v : ℕ) → Lead bs 240 16 x → Bits bs x 3 v → Only bs 65536 v
four-only bs x v l b w h = let f = begins8 bs w h in (omega arith, omega arith)

-- any of these
pub longer_found : (bs : List ℕ) (x n least k v : ℕ) → Longer bs x n least → Bits bs x k v → n ≡ suc k → least ≤ v → Found bs v n
longer_found bs x n least k v l r e h =
    ⊎_elim
    (λ (f : Lead bs 192 32 x × (n ≡ 2) × (least ≡ 128)). let d : k ≡ 1 = omega arith in rw f.1 (two-found bs x v f.0 (rw d at r) (omega arith)))
    (λ m. ⊎_elim
    (λ (f : Lead bs 224 16 x × (n ≡ 3) × (least ≡ 2048)). let d : k ≡ 2 = omega arith in rw f.1 (three-found bs x v f.0 (rw d at r) (omega arith)))
    (λ (f : Lead bs 240 16 x × (n ≡ 4) × (least ≡ 65536)). let d : k ≡ 3 = omega arith in rw f.1 (four-found bs x v f.0 (rw d at r) (omega arith)))
    m)
    l

pub longer_only : (bs : List ℕ) (x n least k v : ℕ) → Longer bs x n least → Bits bs x k v → n ≡ suc k → Only bs least v
longer_only bs x n least k v l r e =
    ⊎_elim
    (λ (f : Lead bs 192 32 x × (n ≡ 2) × (least ≡ 128)). let d : k ≡ 1 = omega arith in rw f.2 (two-only bs x v f.0 (rw d at r)))
    (λ m. ⊎_elim
    (λ (f : Lead bs 224 16 x × (n ≡ 3) × (least ≡ 2048)). let d : k ≡ 2 = omega arith in rw f.2 (three-only bs x v f.0 (rw d at r)))
    (λ (f : Lead bs 240 16 x × (n ≡ 4) × (least ≡ 65536)). let d : k ≡ 3 = omega arith in rw f.2 (four-only bs x v f.0 (rw d at r)))
    m)
    l

-- there are not so many bytes
pub longer_short : (bs : List ℕ) (x n least : ℕ) → Longer bs x n least → length bs < n → NoneFirst bs
longer_short bs x n least l h v s b = let f = begins8 bs v b in omega arith

-- ts are the bytes behind the lead byte, n with it
abbrev pub Behind : List ℕ → ℕ → List ℕ → Type 0
Behind bs n ts = (1 ≤ n) × (n ≤ length bs) × (ts ≡ slice_range bs 1 n) × (length ts + 1 ≡ n)

pub behind : (bs : List ℕ) (n : ℕ) (ts : List ℕ) (i : ℕ) → Behind bs n ts → i < length ts → get_or ts i 0 ≡ get_or bs (suc i) 0
behind bs n ts i h l = ap (λ (l : List ℕ). get_or l i 0) h.2 ∙ get_or-take (n - 1) (drop 1 bs) i 0 (omega arith) ∙ get_or-drop 1 bs i 0 ∙ ap (λ j. get_or bs j 0) (omega arith)

-- one of them is no tail byte
other : (bs : List ℕ) (x n least k : ℕ) → Longer bs x n least → suc k < n → (128 ≤ get_or bs (suc k) 0 → 192 ≤ get_or bs (suc k) 0) → NoneFirst bs
other bs x n least zero l h p v s b = let f = begins8 bs v b in omega arith
other bs x n least (suc zero) l h p v s b = let f = begins8 bs v b in omega arith
other bs x n least (suc (suc zero)) l h p v s b = let f = begins8 bs v b in omega arith
other bs x n least (suc (suc (suc k))) l h p v s b = absurd (omega arith)

pub longer_cut : (bs : List ℕ) (x n least : ℕ) (ts : List ℕ) (i : ℕ) → Longer bs x n least → Behind bs n ts → i < length ts → (128 ≤ get_or ts i 0 → 192 ≤ get_or ts i 0) → NoneFirst bs
longer_cut bs x n least ts i l h k p = let e = behind bs n ts i h k in other bs x n least i l (omega arith) (λ q. omega (arith, p (omega arith)))

-- the bits stay few while there is a tail byte to come
pub few : (bs : List ℕ) (x n least k v : ℕ) → Longer bs x n least → suc k < n → Bits bs x k v → v < 131072
few bs x n least zero v l h b = omega arith
few bs x n least (suc zero) v l h b = omega arith
few bs x n least (suc (suc zero)) v l h b = omega arith
few bs x n least (suc (suc (suc k))) v l h b = absurd (omega arith)

-- what is asked for behind the lead byte: no part of bs, or these bytes
pub part_none : (bs : List ℕ) (n : ℕ) (o : Option (Bor (List ℕ))) → PartBy (λ (x : Bor (List ℕ)). x.now) bs 1 n o → o ≡ None → 1 ≤ n → length bs < n
part_none bs n None g e h = let q = g.0 in omega arith
part_none bs n (Some t) g e h = let z : ◌≡◌ {A = Option (Bor (List ℕ))} (Some t) None = e in absurd cc

pub part_some : (bs : List ℕ) (n : ℕ) (o : Option (Bor (List ℕ))) (t : Bor (List ℕ)) → PartBy (λ (x : Bor (List ℕ)). x.now) bs 1 n o → o ≡ Some t → Behind bs n t.now
part_some bs n None t g e = let z : ◌≡◌ {A = Option (Bor (List ℕ))} None (Some t) = e in absurd cc
part_some bs n (Some u) t g e = let q : u ≡ t = cc in subst (λ (u : Bor (List ℕ)). Behind bs n u.now) q g.0
