-- Worked texts: what each is read as, or with which number and at which place it is refused.
use Rattle.std.specs.Prelude.{◌≡◌, List, [], ◌∷◌, ◌++◌, replicate, codes}
use Rattle.std.specs.List.{flat_map}
use Rattle.names.specs.Order.{Text, Name}
use Rattle.xml.specs.Faults.{taken, refused}
use Rattle.xml.specs.Namespaces.{Field}
use Rattle.xml.specs.Document.{Content, nothing, words, element, Document}
use Rattle.xml.specs.Reading.{reads}

abbrev pub name : Text → Text → Name
name u l = record { uri = u; local = l }

abbrev pub field : Text → Text → Text → Field
field u l v = record { name = name u l; value = v }

abbrev pub root : Name → List Field → Content → Document
root n fs c = record { place = 0; name = n; fields = fs; content = c }

abbrev pub a : Name
a = name [] (codes "a")

pub record Worked : Type 0 where
  -- an element, and an attribute in either quotes
  pub empty_element : reads (codes "<a/>") ≡ taken (root a [] nothing)
  pub attribute : reads (codes "<a b = 'c' ></a >") ≡ taken (root a (field [] (codes "b") (codes "c") ∷ []) nothing)
  -- line ends in content become U+000A, in an attribute a space; by reference U+000D stays
  pub line_ends : reads (codes "<a>x" ++ (13 ∷ 10 ∷ (codes "y" ++ (13 ∷ codes "z</a>")))) ≡ taken (root a [] (words 3 (120 ∷ 10 ∷ 121 ∷ 10 ∷ 122 ∷ []) nothing))
  pub line_end_in_value : reads (codes "<a b='x" ++ (13 ∷ 10 ∷ codes "y'/>")) ≡ taken (root a (field [] (codes "b") (codes "x y") ∷ []) nothing)
  pub return_by_reference : reads (codes "<a b='&#13;'>&#xD;</a>") ≡ taken (root a (field [] (codes "b") (13 ∷ []) ∷ []) (words 13 (13 ∷ []) nothing))
  -- the innermost declaration of a prefix counts, as far as its element goes; the default namespace can be undone
  pub redeclared : reads (codes "<p:a xmlns:p='u'><p:b xmlns:p='v'/><p:c/></p:a>") ≡ taken (root (name (codes "u") (codes "a")) [] (element 17 (name (codes "v") (codes "b")) [] nothing (element 35 (name (codes "u") (codes "c")) [] nothing nothing)))
  pub default_undone : reads (codes "<a xmlns='u'><b xmlns=''/></a>") ≡ taken (root (name (codes "u") (codes "a")) [] (element 13 (name [] (codes "b")) [] nothing nothing))
  -- comments and instructions are gone, and runs on either side of one stay apart
  pub runs : reads (codes "<a>x<!--c-->y<?t d?>z</a>") ≡ taken (root a [] (words 3 (codes "x") (words 12 (codes "y") (words 20 (codes "z") nothing))))
  pub entities : reads (codes "<a>&lt;&amp;&gt;&apos;&quot;</a>") ≡ taken (root a [] (words 3 (60 ∷ 38 ∷ 62 ∷ 39 ∷ 34 ∷ []) nothing))
  -- refused: not well-formed
  pub cdata_end : reads (codes "<a>]]></a>") ≡ refused 3 6
  pub no_root : reads [] ≡ refused 0 6
  pub no_end_tag : reads (codes "<a>x") ≡ refused 4 6
  pub other_end_tag : reads (codes "<a></b>") ≡ refused 3 6
  pub second_root : reads (codes "<a/><b/>") ≡ refused 4 6
  pub unknown_entity : reads (codes "<a>x&e;</a>") ≡ refused 3 6
  pub same_expanded_name : reads (codes "<a xmlns:p='u' xmlns:q='u' p:b='' q:b=''/>") ≡ refused 0 6
  -- a bad character is refused where it stands, but an ill-formed tag around it begins earlier
  pub bad_character : reads (codes "<a>x" ++ (1 ∷ codes "</a>")) ≡ refused 4 5
  pub bad_character_in_a_tag : reads (codes "<a " ++ (1 ∷ codes "></a>")) ≡ refused 0 6
  pub bad_reference : reads (codes "<a b='x&#0;'/>") ≡ refused 7 5
  -- refused for what they are
  pub doctype : reads (codes "<!DOCTYPE a><a/>") ≡ refused 0 7
  pub cdata : reads (codes "<a><![CDATA[x]]></a>") ≡ refused 3 7
  -- a prefix that is not declared, here or any more
  pub undeclared : reads (codes "<a><b xmlns:p='u'/><p:c/></a>") ≡ refused 19 8
  -- the thirty-third open element
  pub too_deep : reads (flat_map (λ x. x) (replicate 33 (codes "<a>"))) ≡ refused 96 11
  -- places are those of the text with its line ends as they were
  pub place_behind_line_end : reads (13 ∷ 10 ∷ 13 ∷ 10 ∷ codes "<a") ≡ refused 4 6
