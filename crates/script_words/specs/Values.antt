-- The values at the end of a line, in the notation of documents.
use Rattle.std.specs.Prelude.{ℕ, ◌==◌, List, [], ◌∷◌, drop, None, Some, Result, Ok, Err, if◌then◌else◌}
use Rattle.bson_doc.specs.Bind.{◌>>=◌}
use Rattle.bson_doc.specs.Tree.{Tree, null, int32, int64, text, document, array, binary, object_id, boolean, date, timestamp, Fields}
use Rattle.bson_doc.specs.declared.doc.Value.{Value}
use Rattle.bson_doc.specs.declared.doc.Value.TheVariants.{Null, Int32, Int64, Text, Document, Array, Binary, ObjectId, Boolean, Date, Timestamp}
use Rattle.doc_text.specs.Values.{answer_at}
use Rattle.doc_text.specs.declared.errors.TextError.{TextError}
use Rattle.doc_text.specs.declared.errors.TextError.TheVariants as errors
use Rattle.script_words.specs.declared.rule.ScriptRule.{ScriptRule}
use Rattle.script_words.specs.declared.rule.ScriptRule.TheVariants.{BadText, WordCount}
use Rattle.script_words.specs.declared.rule.TextRule.{TextRule}
use Rattle.script_words.specs.declared.rule.TextRule.TheVariants.{Unexpected, Number, Escape, Hex, DuplicateName, TooDeep, NameZero}
use Rattle.script_words.specs.Words.{Left}

-- the value that is seen as this tree
abbrev pub value_of : Tree → Value
value_of null = Null
value_of (int32 number) = Int32 number
value_of (int64 number) = Int64 number
value_of (text bytes) = Text bytes
value_of (document fields) = Document fields
value_of (array items) = Array items
value_of (binary subtype bytes) = Binary subtype bytes
value_of (object_id bytes) = ObjectId bytes
value_of (boolean truth) = Boolean truth
value_of (date milliseconds) = Date milliseconds
value_of (timestamp ts) = Timestamp ts

abbrev pub unexpected : {A : Type 0} → Result A ScriptRule
unexpected = Err (BadText Unexpected)

-- the rule that an error names; reading never runs out of memory in the definition
abbrev pub text_rule : TextError → TextRule
text_rule (errors.Unexpected place) = Unexpected
text_rule (errors.Number place) = Number
text_rule (errors.Escape place) = Escape
text_rule (errors.Hex place) = Hex
text_rule (errors.DuplicateName place) = DuplicateName
text_rule (errors.TooDeep place) = TooDeep
text_rule (errors.NameZero place) = NameZero
text_rule errors.Memory = Unexpected

abbrev pub or_bad_text : Result (Tree × ℕ) TextError → Result (Tree × ℕ) ScriptRule
or_bad_text (Ok value) = Ok value
or_bad_text (Err error) = Err (BadText (text_rule error))

-- the rest of the line, which has at least one byte
abbrev pub text_at : Left → Result (List ℕ) ScriptRule
text_at None = Err WordCount
text_at (Some []) = Err WordCount
text_at (Some (c ∷ rest)) = Ok (c ∷ rest)

-- the value that begins a text, with what follows it
unfoldable pub value_at : List ℕ → Result (Tree × List ℕ) ScriptRule
value_at bytes = do
  value ← or_bad_text (answer_at bytes 0)
  Ok (value.0, drop value.1 bytes)

-- one space separates a value from another that follows
abbrev pub after_space : List ℕ → Result (List ℕ) ScriptRule
after_space [] = unexpected
after_space (c ∷ rest) = if c == 32 then Ok rest else unexpected

-- nothing follows the last value
abbrev pub only_value : Tree × List ℕ → Result Tree ScriptRule
only_value (tree, []) = Ok tree
only_value (tree, c ∷ rest) = unexpected

-- a document
abbrev pub fields_in : Tree → Result Fields ScriptRule
fields_in (document fields) = Ok fields
fields_in _ = unexpected

-- the value that a text is
unfoldable pub last_value : List ℕ → Result Tree ScriptRule
last_value bytes = do
  value ← value_at bytes
  only_value value

-- the document that a text is
unfoldable pub last_document : List ℕ → Result Fields ScriptRule
last_document bytes = do
  tree ← last_value bytes
  fields_in tree
