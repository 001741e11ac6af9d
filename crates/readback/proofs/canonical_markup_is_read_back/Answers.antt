use Rattle.std.proofs.Common.{◌≡◌, ℕ, ◌≤◌, List, ◌++◌}
use Rattle.names.specs.Order.{Text}
use Rattle.names.specs.Xml.{XmlText}
use Rattle.markup.specs.Elements.{Attribute, Markup, nothing, element, markup_text, opened}
use Rattle.markup.specs.Clean.{XmlMarkup}
use Rattle.canonical.specs.Document.{document}
use Rattle.canonical.specs.Packet.{body, padding}
use Rattle.canonical.proofs.Documents.{document-moderate, document-xml}
use Rattle.canonical.proofs.Padding.{padded_xml}
use Rattle.xml.specs.Faults.{taken}
use Rattle.xml.specs.Namespaces.{base}
use Rattle.xml.specs.Document.{Document}
use Rattle.xml.specs.Reading.{reads}
use Rattle.readback.specs.Meaning.{plain_document, meaning}
use Rattle.readback.proofs.Lines.{calm_unixed}
use Rattle.readback.proofs.Good.{Good}
use Rattle.readback.proofs.Ways.{way_on}
use Rattle.readback.proofs.Walks.{root_walked}
use Rattle.readback.proofs.Calm.{markup_calm, padding_calm, calm_both}
use Rattle.readback.proofs.Taken.{padding_walked, walked_taken}
use Rattle.readback.proofs.Trees.{good_document}
use Rattle.readback.proofs.canonical_markup_is_read_back.Goals as goal

-- one good element with padding behind it is read as what it means
root_read : (n : Text) (as' : List Attribute) (c : Markup) (k : ℕ) → Good base (element n as' c nothing) → XmlMarkup (element n as' c nothing) → opened (element n as' c nothing) ≤ 32 → XmlText (markup_text (element n as' c nothing) ++ padding k)
    → (d : Document) × (reads (markup_text (element n as' c nothing) ++ padding k) ≡ taken d) × (plain_document d ≡ meaning base (element n as' c nothing))
root_read n as' c k h x l y =
    let s : Text = markup_text (element n as' c nothing) in
    let u = calm_unixed (s ++ padding k) (calm_both s (padding k) (markup_calm base (element n as' c nothing) h) (padding_calm k)) in
    let w = root_walked n as' c (padding k) h x l in
    let z = padding_walked w.document w.place k in
    (w.document, walked_taken (s ++ padding k) w.document z.0 y u (way_on w.way z.1), w.says)

pub returns : goal.returns
unfolding document body
returns c t l n = root_read _ _ _ n (good_document t l) (document-xml t l) (document-moderate t l).opened (padded_xml t l n)
