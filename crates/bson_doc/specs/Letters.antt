-- The bytes of a text, wherever they lie.
use Rattle.std.specs.Prelude.{List, ℕ, string_bytes}
use Rattle.bson_doc.specs.declared.text.Letters.{Letters}
use Rattle.bson_doc.specs.declared.text.Letters.TheVariants.{Short, Long}

abbrev pub letters_of : Letters → List ℕ
letters_of (Short text) = text
letters_of (Long text) = string_bytes text.value
