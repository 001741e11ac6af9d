use Rattle.characters.proofs.Members.{xml_scalar, white_xml, local_plain, tag_plain, name-plain}
use Rattle.characters.proofs.classes.names_are_plain.Goals as goal

pub returns : goal.returns
returns c = record {
  scalar = xml_scalar;
  white = white_xml;
  local = local_plain;
  tag = tag_plain;
  name = name-plain;
}
