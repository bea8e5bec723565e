-- The texts that spell a value.
use Rattle.std.specs.Prelude.{◌≡◌, ℕ, ℤ, pos, neg_ℤ, ◌+◌, ◌*◌, ◌^◌, ◌<◌, ◌≤◌, Bool, true, false, ◌&&◌, ◌||◌, ◌==◌, nat_le, List, [], ◌∷◌, ◌++◌, length, drop, codes, Some, Ok, encode_utf8, ◌⊎◌}
use Rattle.std.specs.List.{AllByRecursion}
use Rattle.std.specs.Char.{is_ascii_digit}
use Rattle.std.specs.Str.Parse.{IsNumeral, digits_value}
use Rattle.hex.specs.Hex.{IsBytes, hex_digit_value, decode_of}
use Rattle.bson_doc.specs.Tree.{Tree, null, int32, int64, text, document, array, binary, object_id, boolean, date, timestamp, Fields, no_fields, field, Trees, no_items, item, IsDocument}
use Rattle.bson_doc.specs.Length.{value_levels}
use Rattle.doc_text.specs.Bytes.{is_plain}
use Rattle.doc_text.specs.Strings.{named_character}
use Rattle.doc_text.specs.Integers.{fits}
use Rattle.doc_text.specs.Printing.{is_bare}

-- ---- spaces and marks

abbrev pub IsSpaces : List ℕ → Type 0
IsSpaces s = AllByRecursion (λ c. c ≡ 32) s

-- a mark with spaces around it
pub record IsSpaced (mark : ℕ) (s : List ℕ) : Type 0 where
  pub before : List ℕ
  pub after : List ℕ
  pub spaces_before : IsSpaces before
  pub spaces_after : IsSpaces after
  pub whole : s ≡ before ++ mark ∷ after

-- a mark with spaces before it
pub record IsClosing (mark : ℕ) (s : List ℕ) : Type 0 where
  pub before : List ℕ
  pub spaces_before : IsSpaces before
  pub whole : s ≡ before ++ mark ∷ []

-- ---- strings and names

-- a character of a string as it is written: as itself, by a letter after a backslash, or by its code
pub data Letter : Type 0 where
  itself : (byte : ℕ) → Letter
  named : (letter : ℕ) → Letter
  coded : (a b c d : ℕ) → Letter

abbrev pub written : Letter → List ℕ
written (itself byte) = byte ∷ []
written (named letter) = 92 ∷ letter ∷ []
written (coded a b c d) = 92 ∷ 117 ∷ a ∷ b ∷ c ∷ d ∷ []

-- four digits make this code, which isn't a surrogate, nor zero in a name
pub record IsCode (in_name : Bool) (a b c d code : ℕ) : Type 0 where
  pub first : ℕ
  pub second : ℕ
  pub third : ℕ
  pub fourth : ℕ
  pub first_digit : hex_digit_value a ≡ Some first
  pub second_digit : hex_digit_value b ≡ Some second
  pub third_digit : hex_digit_value c ≡ Some third
  pub fourth_digit : hex_digit_value d ≡ Some fourth
  pub value : code ≡ ((first * 16 + second) * 16 + third) * 16 + fourth
  pub no_surrogate : (first == 13 && nat_le 8 second) ≡ false
  pub no_zero : (in_name && code == 0) ≡ false

-- what a written character means
abbrev pub Means : Bool → Letter → List ℕ → Type 0
Means in_name (itself byte) bytes = (is_plain byte ≡ true) × (bytes ≡ byte ∷ [])
Means in_name (named letter) bytes =
    (character : ℕ) × (named_character letter ≡ Some character) × (bytes ≡ encode_utf8 character)
Means in_name (coded a b c d) bytes = (code : ℕ) × IsCode in_name a b c d code × (bytes ≡ encode_utf8 code)

-- one written character after the other, up to the closing quotation mark
abbrev pub SpellsLetters : Bool → List Letter → List ℕ → List ℕ → Type 0
SpellsLetters in_name [] bytes s = (bytes ≡ []) × (s ≡ 34 ∷ [])
SpellsLetters in_name (letter ∷ letters) bytes s =
    (one others tail : List ℕ) × Means in_name letter one × SpellsLetters in_name letters others tail
    × (bytes ≡ one ++ others) × (s ≡ written letter ++ tail)

-- a string between quotation marks
pub record SpellsString (in_name : Bool) (bytes s : List ℕ) : Type 0 where
  pub letters : List Letter
  pub tail : List ℕ
  pub spelled : SpellsLetters in_name letters bytes tail
  pub whole : s ≡ 34 ∷ tail

-- a name: bare, or as a string
abbrev pub SpellsName : List ℕ → List ℕ → Type 0
SpellsName name s = ((is_bare name ≡ true) × (s ≡ name)) ⊎ SpellsString true name s

-- ---- numbers and bytes

-- digits with an optional minus sign
abbrev pub SpellsInteger : ℤ → List ℕ → Type 0
SpellsInteger z s =
    (digits : List ℕ) × IsNumeral 10 digits × (((s ≡ digits) × (z ≡ pos (digits_value 10 digits)))
    ⊎ ((s ≡ 45 ∷ digits) × (z ≡ neg_ℤ (pos (digits_value 10 digits)))))

-- a number that is at most `most`
abbrev pub SpellsNatural : ℕ → ℕ → List ℕ → Type 0
SpellsNatural most n s = IsNumeral 10 s × (n ≡ digits_value 10 s) × (n ≤ most)

-- hexadecimal digits of either case between quotation marks
abbrev pub SpellsHex : List ℕ → List ℕ → Type 0
SpellsHex bytes s = (digits : List ℕ) × (decode_of digits ≡ Ok bytes) × (s ≡ 34 ∷ digits ++ 34 ∷ [])

-- ---- values

-- `name: value`, with what spells the value
abbrev pub SpellsField : List ℕ → (List ℕ → Type 0) → List ℕ → Type 0
SpellsField name SpellsValue s =
    (front colon back : List ℕ) × SpellsName name front × IsSpaced 58 colon × SpellsValue back
    × (s ≡ front ++ (colon ++ back))

abbrev mutual
  pub Spells : Tree → List ℕ → Type 0
  Spells null s = s ≡ codes "null"
  Spells (boolean true) s = s ≡ codes "true"
  Spells (boolean false) s = s ≡ codes "false"
  Spells (int32 number) s = SpellsInteger number s × (fits (2 ^ 31) number ≡ true)
  Spells (int64 number) s = (numeral : List ℕ) × SpellsInteger number numeral × (fits (2 ^ 63) number ≡ true)
      × (s ≡ numeral ++ codes "L")
  Spells (text bytes) s = SpellsString false bytes s
  Spells (date milliseconds) s =
      (opening numeral closing : List ℕ) × IsSpaced 40 opening × SpellsInteger milliseconds numeral
      × (fits (2 ^ 63) milliseconds ≡ true) × IsClosing 41 closing
      × (s ≡ codes "Date" ++ (opening ++ (numeral ++ closing)))
  Spells (binary subtype bytes) s =
      (opening numeral comma digits closing : List ℕ) × IsSpaced 40 opening
      × SpellsNatural 255 subtype numeral × IsSpaced 44 comma × SpellsHex bytes digits × IsClosing 41 closing
      × (s ≡ codes "Bin" ++ (opening ++ (numeral ++ (comma ++ (digits ++ closing)))))
  Spells (object_id bytes) s =
      (opening digits closing : List ℕ) × IsSpaced 40 opening × SpellsHex bytes digits × (length bytes ≡ 12)
      × IsClosing 41 closing
      × (s ≡ codes "Id" ++ (opening ++ (digits ++ closing)))
  Spells (timestamp ts) s =
      (seconds increment : ℕ) × (opening first comma second closing : List ℕ) × IsSpaced 40 opening
      × SpellsNatural 4294967295 seconds first × IsSpaced 44 comma × SpellsNatural 4294967295 increment second
      × IsClosing 41 closing
      × (ts ≡ seconds * 2 ^ 32 + increment)
      × (s ≡ codes "Time" ++ (opening ++ (first ++ (comma ++ (second ++ closing)))))
  Spells (document fields) s =
      IsDocument fields × (inside : List ℕ) × SpellsFields fields inside × (s ≡ 123 ∷ inside)
  Spells (array items) s = (inside : List ℕ) × SpellsItems items inside × (s ≡ 91 ∷ inside)

  -- the fields of a document, and the closing brace
  pub SpellsFields : Fields → List ℕ → Type 0
  SpellsFields no_fields s = IsClosing 125 s
  SpellsFields (field name value others) s =
      (spaces one later : List ℕ) × IsSpaces spaces × SpellsField name (Spells value) one
      × SpellsLaterFields others later × (s ≡ spaces ++ (one ++ later))

  -- the items of an array, and the closing bracket
  pub SpellsItems : Trees → List ℕ → Type 0
  SpellsItems no_items s = IsClosing 93 s
  SpellsItems (item value others) s =
      (spaces one later : List ℕ) × IsSpaces spaces × Spells value one × SpellsLaterItems others later
      × (s ≡ spaces ++ (one ++ later))

  -- the fields after a first one, each after a comma, and the closing brace
  pub SpellsLaterFields : Fields → List ℕ → Type 0
  SpellsLaterFields no_fields s = IsClosing 125 s
  SpellsLaterFields (field name value others) s =
      (comma one later : List ℕ) × IsSpaced 44 comma × SpellsField name (Spells value) one
      × SpellsLaterFields others later × (s ≡ comma ++ (one ++ later))

  -- the items after a first one, each after a comma, and the closing bracket
  pub SpellsLaterItems : Trees → List ℕ → Type 0
  SpellsLaterItems no_items s = IsClosing 93 s
  SpellsLaterItems (item value others) s =
      (comma one later : List ℕ) × IsSpaced 44 comma × Spells value one × SpellsLaterItems others later
      × (s ≡ comma ++ (one ++ later))

-- what a value is: numbers in their kinds' ranges, bytes, and documents with distinct names without
-- a zero byte
abbrev mutual
  pub IsLawful : Tree → Type 0
  IsLawful (int32 number) = fits (2 ^ 31) number ≡ true
  IsLawful (int64 number) = fits (2 ^ 63) number ≡ true
  IsLawful (date milliseconds) = fits (2 ^ 63) milliseconds ≡ true
  IsLawful (binary subtype bytes) = (subtype ≤ 255) × IsBytes bytes
  IsLawful (object_id bytes) = (length bytes ≡ 12) × IsBytes bytes
  IsLawful (timestamp ts) = ts < 2 ^ 64
  IsLawful (document fields) = IsDocument fields × AreLawful fields
  IsLawful (array items) = AreAllLawful items
  IsLawful _ = Unit {0}

  pub AreLawful : Fields → Type 0
  AreLawful no_fields = Unit {0}
  AreLawful (field name value others) = IsLawful value × AreLawful others

  pub AreAllLawful : Trees → Type 0
  AreAllLawful no_items = Unit {0}
  AreAllLawful (item value others) = IsLawful value × AreAllLawful others

-- whether a text begins with something that would continue a number
abbrev pub continues_number : List ℕ → Bool
continues_number [] = false
continues_number (c ∷ rest) = is_ascii_digit c || c == 76

-- A number is read as far as it goes. No other value's text is a prefix of another's.
abbrev pub EndsThere : Tree → List ℕ → Type 0
EndsThere (int32 number) rest = continues_number rest ≡ false
EndsThere _ rest = Unit {0}

-- a spelling of a value of at most 100 levels, as long as it can be, begins at one place of a text and
-- ends at another
pub record Stands (bytes : List ℕ) (at : ℕ) (tree : Tree) (end : ℕ) : Type 0 where
  pub spelling : List ℕ
  pub rest : List ℕ
  pub spelled : Spells tree spelling
  pub shallow : value_levels tree ≤ 100
  pub parts : drop at bytes ≡ spelling ++ rest
  pub whole : EndsThere tree rest
  pub place : end ≡ at + length spelling
