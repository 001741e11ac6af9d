use Rattle.std.proofs.Common.{◌⊎◌, MatchResult, sym, ◌∙◌, subst, inl, inr, rules}
use Rattle.std.proofs.lemmas.Bool.{false≢true}
use Rattle.code.specs.Utf8.{enc8}
use Rattle.code.specs.Utf16.{big_pair, enc16, little_pair}
use Rattle.packet.specs.Finds.{NoPacket, PacketAt}
use Rattle.packet.specs.Any.{FoundAny, NoneInAny, NotAbove, utf8, utf16be, utf16le}
use Rattle.packet.specs.declared.any.AnyFound.TheVariants.{InUtf8, InUtf16Be, InUtf16Le}
use Rattle.packet.proofs.Anywhere.{below_third, each, firsts, found, handed_on, leasts, none, same, turned}
use Rattle.packet.proofs.any.find_any.Goals.{else-comes_first-via-then-comes_first+else-comes_first-2, else-comes_first-via-else-comes_first}
use Rattle.packet.proofs.any.find_any.Goals as goal

pub returns-then-comes_first-2 : goal.returns-then-comes_first-2
returns-then-comes_first-2 g c =
    let cs = g.M.Medium.cells c.args.m.now in
    let a = c.first_header-utf8.result in
    let b = c.first_header-big.result in
    let l = c.first_header-little.result in
    let first = firsts cs _ _ _ a b l c.new-in_utf8.ensures c.new-in_big.ensures c.new-in_little.ensures c.first_header-utf8.ensures.first c.first_header-big.ensures.first c.first_header-little.ensures.first in
    let low = leasts a b l a (same a) (search rules) (search rules) in
    handed_on c.found_behind.result c.map.result (λ f. InUtf8 f) _ _ (FoundAny cs) (NoneInAny cs)
    (subst (λ s. MatchResult c.found_behind.result (λ f. PacketAt enc8 s 1 f.extent.place f.extent.len f.writable) (NoPacket enc8 s 1)) c.new-in_utf8.ensures c.found_behind.ensures)
    (search rules)
    (λ f p. found cs (each a b l) first utf8 low f.extent.place f.extent.len f.writable p)
    (none cs (each a b l) first utf8 low)

pub returns-then-comes_first-3 : goal.returns-then-comes_first-3
returns-then-comes_first-3 g c =
    let cs = g.M.Medium.cells c.args.m.now in
    let a = c.first_header-utf8.result in
    let b = c.first_header-big.result in
    let l = c.first_header-little.result in
    let first = firsts cs _ _ _ a b l c.new-in_utf8.ensures c.new-in_big.ensures c.new-in_little.ensures c.first_header-utf8.ensures.first c.first_header-big.ensures.first c.first_header-little.ensures.first in
    let beside : NotAbove b l = search rules in
    let other : (NotAbove a b → ⊥) ⊎ (NotAbove a l → ⊥) = elim c.else-comes_first.branch [
      | else-comes_first-via-then-comes_first+else-comes_first-2 w ↦ inr (λ h. false≢true (sym w.if-comes_first-2.false ∙ w.comes_first-then-comes_first.ensures.1 h))
      | else-comes_first-via-else-comes_first w ↦ inl (λ h. false≢true (sym w.if-comes_first.false ∙ c.comes_first.ensures.1 h))
    ] in
    let low = leasts a b l b (below_third b a b l (same b) beside other) (same b) beside in
    handed_on c.found_behind-then-comes_first-3.result c.map-then-comes_first-3.result (λ f. InUtf16Be f) _ _ (FoundAny cs) (NoneInAny cs)
    (subst (λ s. MatchResult c.found_behind-then-comes_first-3.result (λ f. PacketAt (enc16 big_pair) s 2 f.extent.place f.extent.len f.writable) (NoPacket (enc16 big_pair) s 2)) c.new-in_big.ensures c.found_behind-then-comes_first-3.ensures)
    (search rules)
    (λ f p. found cs (each a b l) first utf16be low f.extent.place f.extent.len f.writable p)
    (none cs (each a b l) first utf16be low)

pub returns-else-comes_first-3 : goal.returns-else-comes_first-3
returns-else-comes_first-3 g c =
    let cs = g.M.Medium.cells c.args.m.now in
    let a = c.first_header-utf8.result in
    let b = c.first_header-big.result in
    let l = c.first_header-little.result in
    let first = firsts cs _ _ _ a b l c.new-in_utf8.ensures c.new-in_big.ensures c.new-in_little.ensures c.first_header-utf8.ensures.first c.first_header-big.ensures.first c.first_header-little.ensures.first in
    let beside : NotAbove l b = turned b l (λ h. false≢true (sym c.if-comes_first-3.false ∙ c.comes_first-else-comes_first.ensures.1 h)) in
    let other : (NotAbove a b → ⊥) ⊎ (NotAbove a l → ⊥) = elim c.else-comes_first.branch [
      | else-comes_first-via-then-comes_first+else-comes_first-2 w ↦ inr (λ h. false≢true (sym w.if-comes_first-2.false ∙ w.comes_first-then-comes_first.ensures.1 h))
      | else-comes_first-via-else-comes_first w ↦ inl (λ h. false≢true (sym w.if-comes_first.false ∙ c.comes_first.ensures.1 h))
    ] in
    let low = leasts a b l l (below_third l a b l beside (same l) other) beside (same l) in
    handed_on c.found_behind-else-comes_first-3.result c.map-else-comes_first-3.result (λ f. InUtf16Le f) _ _ (FoundAny cs) (NoneInAny cs)
    (subst (λ s. MatchResult c.found_behind-else-comes_first-3.result (λ f. PacketAt (enc16 little_pair) s 2 f.extent.place f.extent.len f.writable) (NoPacket (enc16 little_pair) s 2)) c.new-in_little.ensures c.found_behind-else-comes_first-3.ensures)
    (search rules)
    (λ f p. found cs (each a b l) first utf16le low f.extent.place f.extent.len f.writable p)
    (none cs (each a b l) first utf16le low)
