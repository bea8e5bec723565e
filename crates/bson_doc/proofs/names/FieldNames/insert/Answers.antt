use Rattle.std.proofs.Common.{◌≡◌, true, ap, ◌∙◌, arith, rules}
use Rattle.std.specs.Prelude.{string_bytes, cond}
use Rattle.std.specs.Str.{bytes_eq}
use Rattle.bson_doc.specs.Names.{has_name}
use Rattle.bson_doc.proofs.FieldNamesLemmas.{short_inserted, long_inserted}
use Rattle.bson_doc.proofs.names.FieldNames.insert.Goals as goal

pub returns-in_ok-insert : goal.returns-in_ok-insert
returns-in_ok-insert c =
    short_inserted c.args.self.now c.insert.new.self c.args.name.now (omega (arith, c.if-name-le-SHORT.true)) (rw c.form_of.ensures at c.in_ok-insert.ensures.updates)

pub returns-in_ok-insert-2 : goal.returns-in_ok-insert-2
returns-in_ok-insert-2 c = λ other.
    let bytes : string_bytes c.in_ok-from_str.field-0 ≡ c.args.name.now = search rules in
    long_inserted c.args.self.now c.insert-else-name-le-SHORT.new.self (string_bytes c.in_ok-from_str.field-0) (rw bytes (omega (arith, c.if-name-le-SHORT.false))) c.in_ok-insert-2.ensures.updates other
    ∙ ap (λ n. cond (bytes_eq n other) true (has_name c.args.self.now other)) bytes
