-- All of the bytes as one document: first the outer length, then what is inside.
use Rattle.std.specs.Prelude.{ℕ, zero, suc, ◌^◌, List, length, drop, Result, Ok, Err, nat_lt, nat_le, ◌||◌, if◌then◌else◌}
use Rattle.bson_doc.specs.Tree.{Fields, no_fields}
use Rattle.bson_codec.specs.declared.error.DecodeError.{DecodeError}
use Rattle.bson_codec.specs.declared.error.DecodeError.TheVariants as rules
use Rattle.bson_codec.specs.Numbers.{number_in}
use Rattle.bson_codec.specs.Reading.{fields_in, inner_at}

-- what the outer length says of the bytes
abbrev pub outer_length : ℕ → List ℕ → Result ℕ DecodeError
outer_length bound bytes =
    if nat_lt (length bytes) 4 then Err rules.Short else
    let n = number_in 4 bytes in
    if nat_lt n 5 || nat_le (2 ^ 31) n then Err rules.Length else
    if nat_lt bound n then Err rules.TooLarge else
    if nat_lt (length bytes) n then Err rules.Short else
    if nat_lt n (length bytes) then Err rules.Trailing else Ok n

-- the fields of a document whose length is known, where this many levels are left
abbrev pub fields_within : ℕ → List ℕ → Result Fields DecodeError
fields_within zero content = Err rules.TooDeep
fields_within (suc levels) content = fields_in (length content) (inner_at levels) no_fields content

abbrev pub fields_after : ℕ → List ℕ → Result ℕ DecodeError → Result Fields DecodeError
fields_after levels bytes (Ok n) = fields_within levels (drop 4 bytes)
fields_after levels bytes (Err rule) = Err rule

-- the document that the bytes spell, or the first rule that they break
unfoldable pub read_document : ℕ → ℕ → List ℕ → Result Fields DecodeError
read_document bound levels bytes = fields_after levels bytes (outer_length bound bytes)
