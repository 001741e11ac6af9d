use Rattle.std.proofs.Common.{[], ◌∷◌, refl, arith}
use Rattle.volume.specs.Blocks.{sound_at, volume_cells}
use Rattle.volume.specs.Renewed.{sealed}
use Rattle.code.specs.Utf8.{enc8}
use Rattle.code.specs.Utf8Laws.{begins8}
use Rattle.code.specs.Utf16.{enc16}
use Rattle.characters.specs.Spelling.{spelling}
use Rattle.names.specs.Order.{same, before, same_name}
use Rattle.names.specs.Reserved.{lang_name, rdf_uri, xml_uri}
use Rattle.tree.specs.Lawful.{namespaces}
use Rattle.markup.specs.Elements.{markup_text}
use Rattle.canonical.specs.Prefixes.{dc_uri, prefix, tiff_uri, xmp_uri}
use Rattle.canonical.specs.Document.{document, elements}
use Rattle.canonical.specs.Packet.{body, header, padding, trailer}
use Rattle.settled.proofs.settled_examples.Goals as goal

pub returns : goal.returns
unfolding sealed sound_at volume_cells enc8 enc16 spelling same before same_name lang_name rdf_uri xml_uri namespaces markup_text dc_uri xmp_uri tiff_uri prefix document elements body header padding trailer
returns c =
    record {
      check_of_zeros = refl;
      check_of_a_last_byte = refl;
      stored_check = refl;
      block_of_zeros = refl;
      overlong_zero = (refl, λ v s b. let x = begins8 (192 ∷ 128 ∷ []) v b in omega arith);
      told_as_five = refl;
      empty_in_utf8 = refl;
      empty_in_utf16be = refl;
      empty_in_utf16le = refl;
      too_short = λ place. refl;
      told_as_thirteen = λ place. refl;
      format_in_utf8 = refl;
      padding_205 = refl;
    }
