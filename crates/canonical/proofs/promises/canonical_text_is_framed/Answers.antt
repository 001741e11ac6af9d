use Rattle.std.proofs.Common.{[], ◌∷◌, length, refl, ap, inl, arith, length-append}
use Rattle.packet.specs.Texts.{Plain}
use Rattle.canonical.specs.Packet.{header, trailer}
use Rattle.canonical.proofs.promises.canonical_text_is_framed.Goals as goal

-- no characters are plain
empty-plain : Plain []
empty-plain = (λ i h. omega arith, λ ys zs e. omega (arith, ap length e, length-append ys (63 ∷ 62 ∷ zs)))

pub returns : goal.returns
unfolding header trailer
returns c =
    record {
      header = λ unit. record {
        quote = 34;
        mark = 65279 ∷ [];
        id_quote = 34;
        further = [];
        quotes = (inl refl, inl refl);
        marked = inl refl;
        few = omega arith;
        plain = empty-plain;
        spelt = refl;
      };
      trailer = record { quote = 34; quoted = inl refl; known = inl refl; spelt = refl };
    }
