use Rattle.std.proofs.Common.{◌≡◌, ap, ◌∙◌, arith}
use Rattle.std.specs.Str.{bytes_eq}
use Rattle.entry_bytes.proofs.PartLemmas.{is_message, message_is}
use Rattle.entry_bytes.proofs.ops.says.Goals as goal

pub returns-then-len-eq1 : goal.returns-then-len-eq1
returns-then-len-eq1 c =
    let o = c.args.o.now in
    let letters = c.in-Some.message.now in
    let wanted = c.args.wanted.now in
    let is : c.eq.result ≡ bytes_eq letters wanted = c.eq.ensures ∙ ap (λ l. bytes_eq l wanted) c.as_str.ensures in
    (is_message o letters wanted c.eq.result (omega arith) c.in-Some.ensures is, message_is o letters wanted c.eq.result c.in-Some.ensures is)
