use Rattle.std.proofs.Common.{sym, arith}
use Rattle.doc_text.proofs.Quoting.{bare_name}
use Rattle.doc_text.proofs.writing.is_bare.Goals as goal

pub returns-then-starts_name : goal.returns-then-starts_name
returns-then-starts_name c =
    bare_name c.args.name.now c.run.result.1.now c.is_empty.result (omega arith) (sym (rw c.as_bytes.ensures.value at c.if-starts_name.ensures)) c.run.ensures.back c.is_empty.ensures
