use Rattle.canonical.proofs.Documents.{document-moderate}
use Rattle.canonical.proofs.Padding.{padded_xml, padded_none}
use Rattle.canonical.proofs.promises.canonical_text_is_readable.Goals as goal

pub returns : goal.returns
returns c = record { moderate = document-moderate; xml = padded_xml; no_instruction = padded_none }
