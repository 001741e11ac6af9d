-- A data byte is written and the check of its block renewed: what that changes, and what it does not.
use Rattle.std.proofs.Common.{◌≡◌, ℕ, ◌+◌, ◌*◌, ◌/◌, ◌%◌, ◌<◌, ◌≤◌, min, zero, suc, ◌-◌, true, cond, eqb, ◌≢◌, ◌⊎◌, List, [], ◌∷◌, length, get_or, take, drop, set, sym, refl, ap, ◌∙◌, subst, ap₂, inl, inr, ⊎_elim, add_assoc, mod-eq_of_lt, suc-add, w32, arith, length-drop, length-set, length-take}
use Rattle.std.specs.Int.{from_be_bytes}
use borrow.Rule.Slice.PartMut.{put_mid}
use Rattle.std.proofs.lemmas.Nat.{shr-shr}
use Rattle.std.proofs.lemmas.Bool.{eq-eqb, cases_eq, cases_order}
use Rattle.std.proofs.lemmas.List.{get_or-take, get_or-drop, get_or-set_same, get_or-set_other, ext_get_or}
use Rattle.medium.specs.Cells.{byte, lost}
use Rattle.volume.specs.Blocks.{blocks, cell_of, sound_at, stored_at, data_at, check_of, volume_cells}
use Rattle.volume.specs.Renewed.{sealed, checked, renewed}
use Rattle.volume.proofs.Volumes as vol

-- four bytes that are copied are written one by one
copied : (xs : List ℕ) (p a b c d : ℕ) → p + 4 ≤ length xs → put_mid p 4 xs (a ∷ b ∷ c ∷ d ∷ []) ≡ set (set (set (set xs p a) (p + 1) b) (p + 2) c) (p + 3) d
copied (x ∷ y ∷ z ∷ w ∷ xs) zero a b c d h = refl
copied (x ∷ xs) (suc p) a b c d h =
    rw (suc-add p 1, suc-add p 2, suc-add p 3) (ap (λ t. x ∷ t) (copied xs p a b c d (omega arith)))
copied [] p a b c d h = absurd (omega arith)
copied (x ∷ []) zero a b c d h = absurd (omega arith)
copied (x ∷ y ∷ []) zero a b c d h = absurd (omega arith)
copied (x ∷ y ∷ z ∷ []) zero a b c d h = absurd (omega arith)

-- the four bytes of a number, as to_be_bytes gives them
pub checked-as : (bs : List ℕ) (k n m : ℕ) (s : List ℕ) → 512 * k + 512 ≤ length bs → s ≡ (n / 16777216 % 256) ∷ (n / 65536 % 256) ∷ (n / 256 % 256) ∷ (n % 256) ∷ [] → n ≡ m → put_mid (512 * k + 508) (512 * k + 508 + 4 - (512 * k + 508)) bs s ≡ checked bs k m
checked-as bs k n m s h e q =
    let f : 512 * k + 508 + 4 - (512 * k + 508) ≡ 4 = omega arith in
    ap₂ (λ i ys. put_mid (512 * k + 508) i bs ys) f e ∙ copied bs (512 * k + 508) _ _ _ _ (omega arith) ∙ ap (λ (x : ℕ). checked bs k x) q

-- a place outside the four bytes is as it was
beside : (bs : List ℕ) (k n q : ℕ) → (q < 512 * k + 508) ⊎ (512 * k + 512 ≤ q) → get_or (checked bs k n) q 0 ≡ get_or bs q 0
beside bs k n q h =
    let n8 : q ≢ 512 * k + 508 = omega arith in
    let n9 : q ≢ 512 * k + 508 + 1 = omega arith in
    let n10 : q ≢ 512 * k + 508 + 2 = omega arith in
    let n11 : q ≢ 512 * k + 508 + 3 = omega arith in
    get_or-set_other _ (512 * k + 508 + 3) q _ 0 n11 ∙ get_or-set_other _ (512 * k + 508 + 2) q _ 0 n10 ∙ get_or-set_other _ (512 * k + 508 + 1) q _ 0 n9
    ∙ get_or-set_other bs (512 * k + 508) q _ 0 n8

checked-length : (bs : List ℕ) (k n : ℕ) → length (checked bs k n) ≡ length bs
checked-length bs k n = simp length-set

glued : (n a b c r0 r1 r2 r3 : ℕ) → n ≡ a * 256 + r0 → a ≡ b * 256 + r1 → b ≡ c * 256 + r2 → r3 ≡ c → r3 * 16777216 + r2 * 65536 + r1 * 256 + r0 ≡ n
glued n a b c r0 r1 r2 r3 p q r t = omega arith

-- four bytes hold every number of 32 bits
four : (n : ℕ) → n < 4294967296 → n / 16777216 % 256 * 16777216 + n / 65536 % 256 * 65536 + n / 256 % 256 * 256 + n % 256 ≡ n
four n h =
    let e1 : n / 65536 ≡ n / 256 / 256 = sym (shr-shr n 8 8) in
    let e2 : n / 16777216 ≡ n / 65536 / 256 = sym (shr-shr n 16 8) in
    let s : n / 16777216 < 256 = omega arith in
    glued n (n / 256) (n / 65536) (n / 16777216) _ _ _ _ (omega arith) (rw e1 (omega arith)) (rw e2 (omega arith)) (mod-eq_of_lt s)

joined : (a b c d x y z w : ℕ) → a ≡ x → b ≡ y → c ≡ z → d ≡ w → a * 16777216 + b * 65536 + c * 256 + d ≡ x * 16777216 + y * 65536 + z * 256 + w
joined a b c d x y z w p q r t = cc

-- the check that was written is read back
stored_back : (bs : List ℕ) (k n : ℕ) → 512 * k + 512 ≤ length bs → n < 4294967296 → stored_at (checked bs k n) k ≡ n
stored_back bs k n l h =
    let x0 = n / 16777216 % 256 in
    let x1 = n / 65536 % 256 in
    let x2 = n / 256 % 256 in
    let x3 = n % 256 in
    let p8 = 512 * k + 508 in
    let p9 = 512 * k + 508 + 1 in
    let p10 = 512 * k + 508 + 2 in
    let p11 = 512 * k + 508 + 3 in
    let b0 = set bs p8 x0 in
    let b1 = set b0 p9 x1 in
    let b2 = set b1 p10 x2 in
    let l0 : length b0 ≡ length bs = simp length-set in
    let l1 : length b1 ≡ length bs = simp length-set in
    let l2 : length b2 ≡ length bs = simp length-set in
    let g8 : get_or (set b2 p11 x3) p8 0 ≡ x0 =
    get_or-set_other b2 p11 p8 x3 0 (omega arith) ∙ get_or-set_other b1 p10 p8 x2 0 (omega arith) ∙ get_or-set_other b0 p9 p8 x1 0 (omega arith)
    ∙ get_or-set_same bs p8 x0 0 (omega arith) in
    let g9 : get_or (set b2 p11 x3) p9 0 ≡ x1 =
    get_or-set_other b2 p11 p9 x3 0 (omega arith) ∙ get_or-set_other b1 p10 p9 x2 0 (omega arith) ∙ get_or-set_same b0 p9 x1 0 (omega arith) in
    let g10 : get_or (set b2 p11 x3) p10 0 ≡ x2 = get_or-set_other b2 p11 p10 x3 0 (omega arith) ∙ get_or-set_same b1 p10 x2 0 (omega arith) in
    let g11 : get_or (set b2 p11 x3) p11 0 ≡ x3 = get_or-set_same b2 p11 x3 0 (omega arith) in
    joined _ _ _ _ x0 x1 x2 x3 g8 g9 g10 g11 ∙ four n h

-- the check of a block as its last four bytes
pub stored_last : (bs : List ℕ) (k : ℕ) (ys : List ℕ) → ys ≡ drop 508 (take 512 (drop (512 * k) bs)) → from_be_bytes w32 ys ≡ stored_at bs k
stored_last bs k ys e =
    joined _ _ _ _ _ _ _ _ (at 0 _ (omega arith) (omega arith)) (at 1 _ (omega arith) (omega arith)) (at 2 _ (omega arith) (omega arith))
    (at 3 _ (omega arith) (omega arith))
  where
    at : (i j : ℕ) → i < 4 → 512 * k + (508 + i) ≡ j → get_or ys i 0 ≡ get_or bs j 0
    at i j h q =
        ap (λ zs. get_or zs i 0) e ∙ get_or-drop 508 (take 512 (drop (512 * k) bs)) i 0
        ∙ get_or-take 512 (drop (512 * k) bs) (508 + i) 0 (omega arith)
        ∙ get_or-drop (512 * k) bs (508 + i) 0 ∙ ap (λ j. get_or bs j 0) q

-- blocks with the same bytes have the same data and are sound together
data_same : (xs ys : List ℕ) (s : ℕ) → length xs ≡ length ys → ((i : ℕ) → i < 508 → get_or xs (s + i) 0 ≡ get_or ys (s + i) 0) → take 508 (drop s xs) ≡ take 508 (drop s ys)
data_same xs ys s l a =
    ext_get_or 0 (take 508 (drop s xs)) (take 508 (drop s ys)) (simp (length-take, length-drop) (omega arith))
    (λ i h. let b : i < 508 = omega (arith, length-take 508 (drop s xs)) in
    get_or-take 508 (drop s xs) i 0 b ∙ get_or-drop s xs i 0 ∙ a i b ∙ sym (get_or-drop s ys i 0) ∙ sym (get_or-take 508 (drop s ys) i 0 b))

sound_same : (xs ys : List ℕ) (j : ℕ) → length xs ≡ length ys → ((i : ℕ) → i < 512 → get_or xs (512 * j + i) 0 ≡ get_or ys (512 * j + i) 0) → sound_at xs j ≡ sound_at ys j
unfolding sound_at
sound_same xs ys j l a =
    let at : (i : ℕ) → i < 4 → get_or xs (512 * j + 508 + i) 0 ≡ get_or ys (512 * j + 508 + i) 0 = λ i h. rw (add_assoc (512 * j) 508 i) (a (508 + i) (omega arith)) in
    let e : stored_at xs j ≡ stored_at ys j = joined _ _ _ _ _ _ _ _ (a 508 (omega arith)) (at 1 (omega arith)) (at 2 (omega arith)) (at 3 (omega arith)) in
    ap₂ eqb e (ap check_of (data_same xs ys (512 * j) l (λ i h. a i (omega arith))))

pub renewed-length : (bs : List ℕ) (k i b : ℕ) → length (renewed bs k i b) ≡ length bs
unfolding sealed
renewed-length bs k i b = checked-length (set bs (512 * k + i) b) k _ ∙ length-set bs (512 * k + i) b

-- a byte that is neither the one written nor of the block's check is as it was
elsewhere : (bs : List ℕ) (k i b q : ℕ) → q ≢ 512 * k + i → (q < 512 * k + 508) ⊎ (512 * k + 512 ≤ q) → get_or (renewed bs k i b) q 0 ≡ get_or bs q 0
unfolding sealed
elsewhere bs k i b q ne h = beside (set bs (512 * k + i) b) k _ q h ∙ get_or-set_other bs (512 * k + i) q b 0 ne

here : (bs : List ℕ) (k i b : ℕ) → i < 508 → 512 * k + 512 ≤ length bs → get_or (renewed bs k i b) (512 * k + i) 0 ≡ b
unfolding sealed
here bs k i b hi l = beside (set bs (512 * k + i) b) k _ (512 * k + i) (inl (omega arith)) ∙ get_or-set_same bs (512 * k + i) b 0 (omega arith)

-- a block whose check is as it should be is sound
sound_here : (bs : List ℕ) (k : ℕ) → 512 * k + 512 ≤ length bs → check_of (data_at bs k) < 4294967296 → sound_at (sealed bs k) k ≡ true
unfolding sealed sound_at
sound_here bs k l h =
    eq-eqb _ _
    (stored_back bs k (check_of (data_at bs k)) l h
    ∙ ap check_of (sym (data_same (checked bs k (check_of (data_at bs k))) bs (512 * k) (checked-length bs k _) (λ i g. beside bs k _ (512 * k + i) (inl (omega arith))))))

apart : (j k : ℕ) → j ≢ k → (j < k) ⊎ (k < j)
apart j k ne = ⊎_elim (λ e. absurd (ne e)) (λ o. o) (cases_order j k)

-- a byte of another block
other_block : (j k x : ℕ) → j ≢ k → x < 512 → (512 * j + x < 512 * k + 508) ⊎ (512 * k + 512 ≤ 512 * j + x)
other_block j k x ne h = ⊎_elim (λ a. inl (omega arith)) (λ a. inr (omega arith)) (apart j k ne)

sound_elsewhere : (bs : List ℕ) (k i b j : ℕ) → i < 508 → j ≢ k → sound_at (renewed bs k i b) j ≡ sound_at bs j
sound_elsewhere bs k i b j hi ne =
    sound_same (renewed bs k i b) bs j (renewed-length bs k i b) (λ x h. elsewhere bs k i b (512 * j + x) (omega arith) (other_block j k x ne h))

-- every block is as sound as it was
pub sound_after : (bs : List ℕ) (k i b : ℕ) → i < 508 → 512 * k + 512 ≤ length bs → sound_at bs k ≡ true → check_of (data_at (set bs (512 * k + i) b) k) < 4294967296 → (j : ℕ) → sound_at (renewed bs k i b) j ≡ sound_at bs j
sound_after bs k i b hi l t small j =
    ⊎_elim (λ (e : j ≡ k). rw e (sound_here (set bs (512 * k + i) b) k (rw length-set l) small ∙ sym t))
    (λ ne. sound_elsewhere bs k i b j hi ne) (cases_eq j k)

split : (q : ℕ) → 512 * (q / 512) + q % 512 ≡ q
split q = omega arith

-- a byte of another block is as it was
pub another : (bs : List ℕ) (k i b q : ℕ) → i < 508 → q / 512 ≢ k → get_or (renewed bs k i b) q 0 ≡ get_or bs q 0
another bs k i b q hi ne =
    subst (λ (x : ℕ). get_or (renewed bs k i b) x 0 ≡ get_or bs x 0) (split q)
    (elsewhere bs k i b (512 * (q / 512) + q % 512) (omega arith) (other_block (q / 512) k (q % 512) ne (omega arith)))

pub same_blocks : (bs : List ℕ) (k i b : ℕ) → blocks (renewed bs k i b) ≡ blocks bs
same_blocks bs k i b = ap (λ n. min 2048 (n / 512)) (renewed-length bs k i b)

-- every other cell is as it was
cell_elsewhere : (bs : List ℕ) (k i b q : ℕ) → i < 508 → q ≢ 508 * k + i → sound_at (renewed bs k i b) (q / 508) ≡ sound_at bs (q / 508) → cell_of (renewed bs k i b) q ≡ cell_of bs q
cell_elsewhere bs k i b q hi ne t = ap₂ (λ s v. cond s (byte v) lost) t (⊎_elim same far (cases_eq (q / 508) k))
  where
    same : q / 508 ≡ k → get_or (renewed bs k i b) (512 * (q / 508) + q % 508) 0 ≡ get_or bs (512 * (q / 508) + q % 508) 0
    same e = elsewhere bs k i b (512 * (q / 508) + q % 508) (omega arith) (inl (omega arith))

    far : (q / 508 ≡ k → ⊥) → get_or (renewed bs k i b) (512 * (q / 508) + q % 508) 0 ≡ get_or bs (512 * (q / 508) + q % 508) 0
    far n = elsewhere bs k i b (512 * (q / 508) + q % 508) (omega arith) (other_block (q / 508) k (q % 508) n (omega arith))

-- so the cells have the byte, and nothing else has changed
pub put_cells : (bs : List ℕ) (p b : ℕ) → p < 508 * blocks bs → sound_at bs (p / 508) ≡ true → check_of (data_at (set bs (512 * (p / 508) + p % 508) b) (p / 508)) < 4294967296 → volume_cells (renewed bs (p / 508) (p % 508) b) ≡ set (volume_cells bs) p (byte b)
put_cells bs p b h t small =
    ext_get_or lost (volume_cells after) (set (volume_cells bs) p (byte b))
    (vol.size after ∙ ap (λ n. 508 * n) same ∙ sym (vol.size bs) ∙ sym (length-set (volume_cells bs) p (byte b)))
    (λ q g. let hq : q < 508 * blocks bs = rw (← same) (rw (← vol.size after) g) in
    ⊎_elim (λ e. rw e at_p) (λ ne. at_other q hq ne) (cases_eq q p))
  where
    after : List ℕ
    after = renewed bs (p / 508) (p % 508) b

    same : blocks after ≡ blocks bs
    same = same_blocks bs (p / 508) (p % 508) b

    sound : (j : ℕ) → sound_at after j ≡ sound_at bs j
    sound = sound_after bs (p / 508) (p % 508) b (omega arith) (vol.within (length bs) p h).2 t small

    at_p : get_or (volume_cells after) p lost ≡ get_or (set (volume_cells bs) p (byte b)) p lost
    at_p =
        vol.whole after p (p / 508) refl (rw same h) (sound (p / 508) ∙ t) ∙ ap byte (here bs (p / 508) (p % 508) b (omega arith) (vol.within (length bs) p h).2)
        ∙ sym (get_or-set_same (volume_cells bs) p (byte b) lost (rw (vol.size bs) h))

    at_other : (q : ℕ) → q < 508 * blocks bs → q ≢ p → get_or (volume_cells after) q lost ≡ get_or (set (volume_cells bs) p (byte b)) q lost
    at_other q hq ne =
        vol.at after q (rw same hq) ∙ cell_elsewhere bs (p / 508) (p % 508) b q (omega arith) (omega arith) (sound (q / 508)) ∙ sym (vol.at bs q hq)
        ∙ sym (get_or-set_other (volume_cells bs) p q (byte b) lost ne)
