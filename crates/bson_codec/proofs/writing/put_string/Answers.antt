use Rattle.std.proofs.lemmas.Str.{is_utf8-from_IsUtf8}
use Rattle.bson_codec.proofs.writing.put_string.Goals as goal

pub returns-in_err-put_name-clause-sound : goal.returns-in_err-put_name-clause-sound
returns-in_err-put_name-clause-sound c = is_utf8-from_IsUtf8 _ c.utf8.string

pub returns-clause-sound : goal.returns-clause-sound
returns-clause-sound c = is_utf8-from_IsUtf8 _ c.utf8.string
