-- Names and namespaces with a fixed meaning.
use Rattle.std.specs.Prelude.{codes}
use Rattle.names.specs.Order.{Text, Name}

-- namespaces with a meaning of their own: RDF, XML and the declarations of namespaces
unfoldable pub rdf_uri : Text
rdf_uri = codes "http://www.w3.org/1999/02/22-rdf-syntax-ns#"

unfoldable pub xml_uri : Text
xml_uri = codes "http://www.w3.org/XML/1998/namespace"

unfoldable pub xmlns_uri : Text
xmlns_uri = codes "http://www.w3.org/2000/xmlns/"

-- xml:lang, the qualifier that tells a text's language
unfoldable pub lang_name : Name
lang_name = record { uri = xml_uri; local = codes "lang" }
