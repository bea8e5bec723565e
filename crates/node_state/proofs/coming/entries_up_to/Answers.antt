use Rattle.std.proofs.Common.{◌≡◌, ◌∙◌, ap, rules, sym, subst, not}
use Rattle.std.proofs.lemmas.Fn.{filter_same}
use Rattle.std.proofs.lemmas.List.Elements.{All-filter}
use Rattle.std.specs.List.{All}
use Rattle.oplog_entry.specs.Lawful.{IsLawful}
use Rattle.oplog_entry.specs.Visible.{is_before, log_up_to}
use Rattle.oplog_entry.specs.declared.entry.Entry.{Entry}
use Rattle.node_state.proofs.coming.entries_up_to.Goals as goal

pub new-requires : goal.new-requires
new-requires c =
    let left : c.retain.new.self.items ≡ log_up_to c.args.point c.into_entries-entries.result.items =
    filter_same _ (λ (e : Entry). not (is_before c.args.point e.optime)) _ (λ e b f' t. search rules) _ _ c.retain.ensures.filtered in
    subst (All IsLawful) (sym left) (All-filter (λ (e : Entry). not (is_before c.args.point e.optime)) IsLawful c.into_entries-entries.result.items c.into_entries-entries.ensures.lawful)

pub returns : goal.returns
returns c =
    c.new.ensures
    ∙ filter_same _ (λ (e : Entry). not (is_before c.args.point e.optime)) _ (λ e b f' t. search rules) _ _ c.retain.ensures.filtered
    ∙ ap (log_up_to c.args.point) c.into_entries-entries.ensures.entries
