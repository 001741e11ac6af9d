-- A trailer in parts is what the definition says, and how the parts are looked for.
use Rattle.std.proofs.Common.{◌≡◌, ◌≢◌, ℕ, Bool, true, false, ◌⊎◌, List, [], ◌∷◌, ◌++◌, Some, None, Option, codes, refl, ap, ◌∙◌, subst, inl, inr, arith}
use Rattle.text.specs.Stands.{Expected, Stepped, WordAt}
use Rattle.text.proofs.Standing.{only}
use Rattle.packet.specs.Texts.{Trailer}
use Rattle.packet.specs.Parts.{Ends, Moded, QuoteAt, Quoting, Then, Trailing}
use Rattle.packet.specs.Finds.{LetterOf, mode_of}
use Rattle.packet.proofs.Parsing.{Reading}
use Rattle.packet.proofs.Parsing as parse

a_letter : (w : Bool) → (mode_of w ≡ 119) ⊎ (mode_of w ≡ 114)
a_letter true = inl refl
a_letter false = inr refl

pub trailer-from : (w : Bool) (t : List ℕ) → Trailing (mode_of w) t → Trailer (mode_of w) t
trailer-from w t x =
    let q = x.1 in
    let m = q.3 in
    record {
      quote = q.0;
      quoted = q.2;
      known = a_letter w;
      spelt = x.2 ∙ ap (λ u. codes "<?xpacket end=" ++ u) (q.4 ∙ ap (λ u. q.0 ∷ u) (m.2 ∙ ap (λ u. mode_of w ∷ u) (m.1.2 ∙ ap (λ u. q.0 ∷ u) m.1.1)));
    }

pub trailer-to : (mode : ℕ) (t : List ℕ) → Trailer mode t → Trailing mode t
trailer-to mode t x =
    (x.quote ∷ (mode ∷ (x.quote ∷ codes "?>")), (x.quote, mode ∷ (x.quote ∷ codes "?>"), x.quoted, (x.quote ∷ codes "?>", (codes "?>", refl, refl), refl), refl), x.spelt)

-- a trailer of either letter is looked for part by part, and its letter once
module _ (read : Reading) where
  -- a trailer with the letter of w, and the parts of it from a place on
  abbrev Whole : Bool → ℕ → Option ℕ → Type 0
  Whole w k r = Ends read.enc read.cs (Trailer (mode_of w)) k r

  abbrev Last : List ℕ → Type 0
  Last t = t ≡ codes "?>"

  named : (w : Bool) (k : ℕ) (r : Option ℕ) → Ends read.enc read.cs (Trailing (mode_of w)) k r → Whole w k r
  named w k r x = parse.renamed read (Trailing (mode_of w)) (Trailer (mode_of w)) k r (trailer-from w) (trailer-to (mode_of w)) x

  pub without_begin : (k : ℕ) → WordAt read.enc read.cs k (codes "<?xpacket end=") None → (w : Bool) → Whole w k None
  without_begin k n w = named w k None (parse.without read (codes "<?xpacket end=") (Quoting (Moded (mode_of w))) k n)

  module _ (k b : ℕ) (begin : WordAt read.enc read.cs k (codes "<?xpacket end=") (Some b)) where
    begun : (w : Bool) (r : Option ℕ) → Ends read.enc read.cs (Quoting (Moded (mode_of w))) b r → Whole w k r
    begun w r x = named w k r (parse.after read (codes "<?xpacket end=") (Quoting (Moded (mode_of w))) k b r begin x)

    pub without_quote : QuoteAt read.enc read.cs b None → (w : Bool) → Whole w k None
    without_quote n w = begun w None (parse.unquoted read (Moded (mode_of w)) b n)

    module _ (q i : ℕ) (quote : QuoteAt read.enc read.cs b (Some (q, i))) where
      inside : (w : Bool) (r : Option ℕ) → Ends read.enc read.cs (Moded (mode_of w) q) i r → Whole w k r
      inside w r x = begun w r (parse.quoted read (Moded (mode_of w)) b q i r quote x)

      pub without_letter : Stepped read.enc read.cs i None → (w : Bool) → Whole w k None
      without_letter n w = inside w None (parse.without_one read (mode_of w) (Then (q ∷ []) Last) i (n (mode_of w)))

      module _ (c e : ℕ) (letter : Stepped read.enc read.cs i (Some (c, e))) where
        -- another letter stands there
        another : (w : Bool) → c ≢ mode_of w → Whole w k None
        another w n =
            inside w None
            (parse.without_one read (mode_of w) (Then (q ∷ []) Last) i (λ s h. n (only read.enc read.unit read.laws read.cs i c (mode_of w) letter.0 s letter.1 h)))

        pub another_letter : LetterOf c None → (w : Bool) → Whole w k None
        another_letter n w = another w (n w)

        module _ (v : Bool) (known : LetterOf c (Some v)) where
          lettered : (r : Option ℕ) → Ends read.enc read.cs (Then (q ∷ []) Last) e r → Whole v k r
          lettered r x =
              inside v r
              (parse.after_one read (mode_of v) (Then (q ∷ []) Last) i e r
              (subst (λ n. Expected read.enc read.cs i n (Some e)) known letter) x)

          -- where none with this letter stands, none does: the other letter is not there
          none : Whole v k None → (w : Bool) → Whole w k None
          none n w = by v w known n
            where
              by : (v w : Bool) → c ≡ mode_of v → Whole v k None → Whole w k None
              by true true e n = n
              by true false e n = another false (λ d. omega arith)
              by false true e n = another true (λ d. omega arith)
              by false false e n = n

          pub without_closing : Expected read.enc read.cs e q None → (w : Bool) → Whole w k None
          without_closing n = none (lettered None (parse.without_one read q Last e n))

          module _ (d : ℕ) (closed : Expected read.enc read.cs e q (Some d)) where
            ended : (r : Option ℕ) → WordAt read.enc read.cs d (codes "?>") r → Whole v k r
            ended r x = lettered r (parse.after_one read q Last e d r closed (parse.exactly read (codes "?>") d r x))

            pub without_end : WordAt read.enc read.cs d (codes "?>") None → (w : Bool) → Whole w k None
            without_end n = none (ended None n)

            pub whole : (f : ℕ) → WordAt read.enc read.cs d (codes "?>") (Some f) → Whole v k (Some f)
            whole f x = ended (Some f) x
