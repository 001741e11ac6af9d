use Rattle.std.proofs.Common.{refl}
use Rattle.characters.specs.Classes.{is_name, is_white, is_xml}
use Rattle.names.specs.Reserved.{xml_uri, xmlns_uri}
use Rattle.names.specs.Order.{same, same_name}
use Rattle.items.specs.Scan.{has_cdata_end, q_name, referred, scan}
use Rattle.xml.specs.Namespaces.{prefixes}
use Rattle.xml.specs.Reader.{walk}
use Rattle.xml.specs.Reading.{origin, reads, unixed, unix_reads}
use Rattle.worked_markup.proofs.worked_texts.Goals as goal

pub returns : goal.returns
unfolding is_name is_white is_xml xml_uri xmlns_uri same same_name has_cdata_end q_name referred scan prefixes walk origin reads unixed unix_reads
returns c =
    record {
      empty_element = refl;
      attribute = refl;
      line_ends = refl;
      line_end_in_value = refl;
      return_by_reference = refl;
      redeclared = refl;
      default_undone = refl;
      runs = refl;
      entities = refl;
      cdata_end = refl;
      no_root = refl;
      no_end_tag = refl;
      other_end_tag = refl;
      second_root = refl;
      unknown_entity = refl;
      same_expanded_name = refl;
      bad_character = refl;
      bad_character_in_a_tag = refl;
      bad_reference = refl;
      doctype = refl;
      cdata = refl;
      undeclared = refl;
      too_deep = refl;
      place_behind_line_end = refl;
    }
