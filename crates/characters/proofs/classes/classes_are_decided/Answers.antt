use Rattle.characters.proofs.Deciding.{within-decides, xml_decides, white_decides, local_decides, tag_decides, name-decides}
use Rattle.characters.proofs.classes.classes_are_decided.Goals as goal

pub returns : goal.returns
returns c = record {
  ranges = within-decides;
  xml = xml_decides;
  white = white_decides;
  local = local_decides;
  tag = tag_decides;
  name = name-decides;
}
