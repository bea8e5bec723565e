-- Names of fields: bare, or as strings.
use Rattle.std.specs.Prelude.{ℕ, true, List, [], ◌∷◌, length, take, drop, Ok, ◌==◌, if◌then◌else◌}
use Rattle.std.specs.List.{prefix_len}
use Rattle.doc_text.specs.declared.fault.Rule.TheVariants.{Unexpected}
use Rattle.doc_text.specs.Bytes.{is_name_start, is_name_byte}
use Rattle.doc_text.specs.Fault.{Read, fails}
use Rattle.doc_text.specs.Strings.{letters_at}

abbrev pub bare_at : List ℕ → Read (List ℕ)
bare_at text = let len = prefix_len is_name_byte text in Ok (take len text, drop len text)

unfoldable pub name_at : List ℕ → Read (List ℕ)
name_at [] = fails Unexpected []
name_at (c ∷ rest) =
    if c == 34 then letters_at true (length rest) rest
    else if is_name_start c then bare_at (c ∷ rest)
    else fails Unexpected (c ∷ rest)
