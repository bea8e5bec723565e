-- The one printed text of each value.
use Rattle.std.specs.Prelude.{ℕ, zero, suc, ◌/◌, ◌%◌, ◌^◌, Bool, true, false, ◌&&◌, ◌==◌, List, [], ◌∷◌, ◌++◌, codes, if◌then◌else◌}
use Rattle.std.specs.List.{flat_map, list_all}
use Rattle.std.specs.Fmt.{decimal, signed_decimal}
use Rattle.hex.specs.Hex.{encode_lower}
use Rattle.bson_doc.specs.Tree.{Tree, null, int32, int64, text, document, array, binary, object_id, boolean, date, timestamp, Fields, no_fields, field, Trees, no_items, item}
use Rattle.doc_text.specs.Bytes.{is_name_start, is_name_byte, is_plain}

-- A byte of a string. The quotation mark, the backslash and the control characters are escaped.
abbrev pub printed_byte : ℕ → List ℕ
printed_byte c =
    if c == 34 then codes "\\\""
    else if c == 92 then codes "\\\\"
    else if c == 10 then codes "\\n"
    else if c == 13 then codes "\\r"
    else if c == 9 then codes "\\t"
    else if is_plain c then c ∷ []
    else codes "\\u00" ++ encode_lower (c ∷ [])

abbrev pub quoted : List ℕ → List ℕ
quoted bytes = 34 ∷ flat_map printed_byte bytes ++ 34 ∷ []

-- whether a name needs no quotation marks
abbrev pub is_bare : List ℕ → Bool
is_bare [] = false
is_bare (c ∷ rest) = is_name_start c && list_all is_name_byte rest

abbrev pub printed_name : List ℕ → List ℕ
printed_name name = if is_bare name then name else quoted name

-- what comes before the member at a place
abbrev pub separator : ℕ → List ℕ
separator zero = []
separator (suc place) = codes ", "

-- a value; the members of a document or an array; and those after the first, each with `, ` before it
unfoldable mutual
  pub printed : Tree → List ℕ
  printed null = codes "null"
  printed (boolean true) = codes "true"
  printed (boolean false) = codes "false"
  printed (int32 number) = signed_decimal number
  printed (int64 number) = signed_decimal number ++ codes "L"
  printed (text bytes) = quoted bytes
  printed (date milliseconds) = codes "Date(" ++ signed_decimal milliseconds ++ codes ")"
  printed (binary subtype bytes) =
      codes "Bin(" ++ decimal subtype ++ codes ", \"" ++ encode_lower bytes ++ codes "\")"
  printed (object_id bytes) = codes "Id(\"" ++ encode_lower bytes ++ codes "\")"
  printed (timestamp ts) =
      codes "Time(" ++ decimal (ts / 2 ^ 32) ++ codes ", " ++ decimal (ts % 2 ^ 32) ++ codes ")"
  printed (document fields) = codes "{" ++ printed_fields fields ++ codes "}"
  printed (array items) = codes "[" ++ printed_items items ++ codes "]"

  pub printed_fields : Fields → List ℕ
  printed_fields no_fields = []
  printed_fields (field name value others) =
      printed_name name ++ codes ": " ++ printed value ++ later_fields others

  pub later_fields : Fields → List ℕ
  later_fields no_fields = []
  later_fields (field name value others) =
      codes ", " ++ printed_name name ++ codes ": " ++ printed value ++ later_fields others

  pub printed_items : Trees → List ℕ
  printed_items no_items = []
  printed_items (item value others) = printed value ++ later_items others

  pub later_items : Trees → List ℕ
  later_items no_items = []
  later_items (item value others) = codes ", " ++ printed value ++ later_items others
