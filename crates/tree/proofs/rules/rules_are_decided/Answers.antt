use Rattle.tree.proofs.Deciding.{local_name_decides, language-tag_decides, free_namespace_decides, lawful_name_decides, qualifier_name_decides, within-decides}
use Rattle.tree.proofs.rules.rules_are_decided.Goals as goal

pub returns : goal.returns
returns c =
    record {
      local_name = local_name_decides;
      language_tag = language-tag_decides;
      free_namespace = free_namespace_decides;
      lawful_name = lawful_name_decides;
      qualifier_name = qualifier_name_decides;
      within = within-decides;
    }
