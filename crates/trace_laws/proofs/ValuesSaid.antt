-- A value that is read can be spelled again.
use Rattle.std.proofs.Common.{◌≡◌, ℕ, List, [], ◌∷◌, Result, Ok, Err, refl, sym, subst, arith}
use Rattle.hex.specs.Hex.{IsBytes}
use Rattle.hex.proofs.HexLemmas.{decode_of-ok}
use Rattle.bson_doc.specs.Tree.{Tree, null, int32, int64, text, document, array, binary, object_id, boolean, date, timestamp, Fields, no_fields, field, Trees, no_items, item}
use Rattle.bson_doc.specs.View.{tree_of}
use Rattle.bson_doc.proofs.BindLemmas.{Gets, bind_gets}
use Rattle.doc_text.specs.Fault.{Read}
use Rattle.doc_text.specs.Spelling.{AreAllLawful, AreLawful, IsLawful, Spells, SpellsFields, SpellsHex, SpellsItems, SpellsLaterFields, SpellsLaterItems}
use Rattle.doc_text.specs.Values as values
use Rattle.doc_text.specs.Values.{answer_at, in_text}
use Rattle.doc_text.specs.declared.errors.TextError.{TextError}
use Rattle.doc_text.proofs.ReadIsSpelled.{StandsAs}
use Rattle.doc_text.proofs.ReadValues.{value_gets}
use Rattle.script_words.specs.Values.{fields_in, last_document, last_value, only_value, or_bad_text, value_at, value_of}
use Rattle.trace_laws.specs.Said.{CanBeSpelled}

-- ---- what is spelled is lawful

hex_lawful : (bytes s : List ℕ) → SpellsHex bytes s → IsBytes bytes
hex_lawful bytes s (digits, decoded, is) = (decode_of-ok digits bytes decoded).3

mutual
  spelled_lawful : (tree : Tree) (s : List ℕ) → Spells tree s → IsLawful tree
  spelled_lawful null s spelled = tt
  spelled_lawful (int32 number) s (spelled, fits) = fits
  spelled_lawful (int64 number) s (numeral, spelled, fits, is) = fits
  spelled_lawful (text bytes) s spelled = tt
  spelled_lawful (boolean truth) s spelled = tt
  spelled_lawful (date milliseconds) s (opening, numeral, closing, opened, spelled, fits, closed, is) = fits
  spelled_lawful (binary subtype bytes) s (opening, numeral, comma, digits, closing, opened, spelled, spaced, hex, closed, is) = (spelled.2, hex_lawful bytes digits hex)
  spelled_lawful (object_id bytes) s (opening, digits, closing, opened, hex, len, closed, is) = (len, hex_lawful bytes digits hex)
  spelled_lawful (timestamp ts) s (seconds, increment, opening, first, comma, second, closing, opened, one, spaced, two, closed, value, is) =
      let high = one.2 in let low = two.2 in omega (arith, value, high, low)
  spelled_lawful (document fields) s (apart, inside, spelled, is) = (apart, fields_lawful fields inside spelled)
  spelled_lawful (array items) s (inside, spelled, is) = items_lawful items inside spelled

  fields_lawful : (fields : Fields) (s : List ℕ) → SpellsFields fields s → AreLawful fields
  fields_lawful no_fields s closed = tt
  fields_lawful (field name value others) s (spaces, one, later, spaced, spelled, rest, is) = (spelled_lawful value spelled.2 spelled.5, later_fields_lawful others later rest)

  items_lawful : (items : Trees) (s : List ℕ) → SpellsItems items s → AreAllLawful items
  items_lawful no_items s closed = tt
  items_lawful (item value others) s (spaces, one, later, spaced, spelled, rest, is) = (spelled_lawful value one spelled, later_items_lawful others later rest)

  later_fields_lawful : (fields : Fields) (s : List ℕ) → SpellsLaterFields fields s → AreLawful fields
  later_fields_lawful no_fields s closed = tt
  later_fields_lawful (field name value others) s (comma, one, later, spaced, spelled, rest, is) = (spelled_lawful value spelled.2 spelled.5, later_fields_lawful others later rest)

  later_items_lawful : (items : Trees) (s : List ℕ) → SpellsLaterItems items s → AreAllLawful items
  later_items_lawful no_items s closed = tt
  later_items_lawful (item value others) s (comma, one, later, spaced, spelled, rest, is) = (spelled_lawful value one spelled, later_items_lawful others later rest)

-- ---- reading

-- the value that begins a text
abbrev pub FirstSaid : Tree × List ℕ → Type 0
FirstSaid value = CanBeSpelled value.0

answered : (len : ℕ) (input : List ℕ) (read : Read Tree) → Gets read (StandsAs 100 input) → Gets (in_text len read) (λ value. CanBeSpelled value.0)
answered len input (Ok value) stands = record { lawful = spelled_lawful value.0 stands.0 stands.1; shallow = stands.4 }
answered len input (Err fault) stands = tt

or_bad : (answer : Result (Tree × ℕ) TextError) → Gets answer (λ value. CanBeSpelled value.0) → Gets (or_bad_text answer) (λ value. CanBeSpelled value.0)
or_bad (Ok value) can = can
or_bad (Err error) can = tt

pub value_said : (bytes : List ℕ) → Gets (value_at bytes) FirstSaid
unfolding value_at
value_said bytes =
    bind_gets (or_bad_text (answer_at bytes 0)) _ (λ value. CanBeSpelled value.0) FirstSaid (or_bad (answer_at bytes 0) (answered _ bytes (values.value_at 100 bytes) (value_gets 100 bytes))) (λ value can. can)

only_said : (value : Tree × List ℕ) → FirstSaid value → Gets (only_value value) CanBeSpelled
only_said (tree, []) can = can
only_said (tree, c ∷ rest) can = tt

pub last_said : (bytes : List ℕ) → Gets (last_value bytes) CanBeSpelled
unfolding last_value
last_said bytes = bind_gets (value_at bytes) _ FirstSaid CanBeSpelled (value_said bytes) (λ value can. only_said value can)

-- a document
abbrev pub DocumentSaid : Fields → Type 0
DocumentSaid fields = CanBeSpelled (document fields)

fields_said : (tree : Tree) → CanBeSpelled tree → Gets (fields_in tree) DocumentSaid
fields_said null can = tt
fields_said (int32 number) can = tt
fields_said (int64 number) can = tt
fields_said (text bytes) can = tt
fields_said (document fields) can = can
fields_said (array items) can = tt
fields_said (binary subtype bytes) can = tt
fields_said (object_id bytes) can = tt
fields_said (boolean truth) can = tt
fields_said (date milliseconds) can = tt
fields_said (timestamp ts) can = tt

pub document_said : (bytes : List ℕ) → Gets (last_document bytes) DocumentSaid
unfolding last_document
document_said bytes = bind_gets (last_value bytes) _ CanBeSpelled DocumentSaid (last_said bytes) (λ tree can. fields_said tree can)

-- the tree of the value that is seen so
tree_is : (tree : Tree) → tree_of (value_of tree) ≡ tree
tree_is null = refl
tree_is (int32 number) = refl
tree_is (int64 number) = refl
tree_is (text bytes) = refl
tree_is (document fields) = refl
tree_is (array items) = refl
tree_is (binary subtype bytes) = refl
tree_is (object_id bytes) = refl
tree_is (boolean truth) = refl
tree_is (date milliseconds) = refl
tree_is (timestamp ts) = refl

pub shown_said : (tree : Tree) → CanBeSpelled tree → CanBeSpelled (tree_of (value_of tree))
shown_said tree can = subst CanBeSpelled (sym (tree_is tree)) can
