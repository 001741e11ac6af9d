use Rattle.characters.proofs.Safe.{spelling-quiet, spellings-quiet, spelling-xml, spellings-xml, spelling-length, spellings-length, plain-spellings}
use Rattle.characters.proofs.escapes.spelling_is_safe.Goals as goal

pub returns : goal.returns
returns c = record {
  quiet = spelling-quiet;
  quiet_text = spellings-quiet;
  allowed = spelling-xml;
  allowed_text = spellings-xml;
  size = spelling-length;
  size_text = spellings-length;
  plain_text = plain-spellings;
}
