use Rattle.names.proofs.Deciding.{same-decides, before-decides, same_name-decides, name_before-decides, xml_decides}
use Rattle.names.proofs.names_are_told_apart.Goals as goal

pub returns : goal.returns
returns c =
    record {
      same = same-decides;
      before = before-decides;
      same_name = same_name-decides;
      name_before = name_before-decides;
      xml_text = xml_decides;
    }
