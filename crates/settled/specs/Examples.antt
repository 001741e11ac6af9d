use Rattle.std.specs.Prelude.{◌≡◌, ℕ, [], ◌∷◌, ◌++◌, drop, replicate, Err, codes}
use Rattle.medium.specs.Cells.{lost}
use Rattle.volume.specs.Blocks.{check_of, volume_cells}
use Rattle.volume.specs.Renewed.{sealed}
use Rattle.code.specs.Codes.{Decoded}
use Rattle.code.specs.Faults.{told_code}
use Rattle.code.specs.Utf8.{enc8}
use Rattle.code.specs.Utf16.{big_pair, enc16, little_pair}
use Rattle.code.specs.declared.failure.CodeFault.TheVariants.{NoCharacter}
use Rattle.tree.specs.Tree.{Tree, more, named, none}
use Rattle.tree.specs.declared.form.Form.TheVariants.{Text}
use Rattle.canonical.specs.Faults.{told_too_long}
use Rattle.canonical.specs.Packet.{canonical_length, filling, padding}
use Rattle.canonical.specs.Prefixes.{dc_uri}

abbrev pub empty_tree : Tree
empty_tree = record { about = []; properties = none }

-- a tree with the one property dc:format
abbrev pub format_tree : Tree
format_tree =
    record {
      about = [];
      properties = more (record { label = named (record { uri = dc_uri; local = codes "format" }); form = Text; value = codes "application/pdf" }) none none none;
    }

pub record Settled : Type 0 where
  -- the check of 508 data bytes that are all zero, and that are zero but for the last, which is 255
  pub check_of_zeros : check_of (replicate 508 0) ≡ 1
  pub check_of_a_last_byte : check_of (replicate 507 0 ++ (255 ∷ [])) ≡ 129541
  -- the check of 508 bytes that are all 255, as it is stored
  pub stored_check : drop 508 (sealed (replicate 512 255) 0) ≡ 1 ∷ 247 ∷ 12 ∷ 251 ∷ []
  -- a block of 512 zero bytes
  pub block_of_zeros : volume_cells (replicate 512 0) ≡ replicate 508 lost
  -- in UTF-8 the bytes C0 80 begin with no character, which is refusal 5
  pub overlong_zero : Decoded enc8 (192 ∷ 128 ∷ []) (Err (NoCharacter 0))
  pub told_as_five : (told_code (NoCharacter 0)).number ≡ 5
  -- the bytes that the empty tree takes, in UTF-8 and in UTF-16 of either byte order
  pub empty_in_utf8 : canonical_length enc8 empty_tree ≡ 195
  pub empty_in_utf16be : canonical_length (enc16 big_pair) empty_tree ≡ 386
  pub empty_in_utf16le : canonical_length (enc16 little_pair) empty_tree ≡ 386
  -- a packet of 194 bytes, wherever it lies, is too short for the empty tree, which is refusal 13
  pub too_short : (place : ℕ) → filling enc8 1 place 194 empty_tree ≡ Err (record { place = place })
  pub told_as_thirteen : (place : ℕ) → (told_too_long (record { place = place })).number ≡ 13
  -- the bytes that dc:format with the value application/pdf takes in UTF-8
  pub format_in_utf8 : canonical_length enc8 format_tree ≡ 277
  -- 205 characters of padding: U+000A at 100 and 200, and U+0020 everywhere else
  pub padding_205 : padding 205 ≡ replicate 99 32 ++ (10 ∷ (replicate 99 32 ++ (10 ∷ replicate 5 32)))
