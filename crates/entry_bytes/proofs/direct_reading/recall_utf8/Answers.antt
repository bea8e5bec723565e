use Rattle.std.proofs.lemmas.Str.{is_utf8-from_IsUtf8}
use Rattle.entry_bytes.proofs.direct_reading.recall_utf8.Goals as goal

pub returns : goal.returns
returns c = is_utf8-from_IsUtf8 _ c.utf8.letters
