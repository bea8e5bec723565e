use Rattle.entry_bytes.proofs.LayoutLemmas.{entries_apart}
use Rattle.entry_bytes.proofs.laws.documents_tell_entries.Goals as goal

pub returns : goal.returns
returns c = entries_apart
