use Rattle.std.proofs.Common.{◌∙◌, ap, sym}
use Rattle.std.specs.FinMap as maps
use Rattle.set_model.specs.Sessions.{is_past}
use Rattle.node_data.proofs.MapLemmas.{pairs_with}
use Rattle.checker_tables.proofs.SessionLemmas.{noted}
use Rattle.checker_tables.proofs.last_writes.LastWrites.add.Goals as goal

pub returns-clause-ok : goal.returns-clause-ok
returns-clause-ok c =
    rw c.in-Some.is
    (noted c.args.self.now _ c.args.at c.in-Some.session
    (pairs_with c.self.inside.writes.entries c.insert.new.self.entries c.in-Some.session.id _ c.in_ok-insert.ensures.updates.0
    ∙ ap (λ t. maps.insert t c.in-Some.session.id (record { number = c.in-Some.session.number; at = c.args.at })) c.self.view_is)
    (ap (λ last. is_past last c.in-Some.session.number) (sym c.get.ensures) ∙ sym c.is_past.ensures ∙ c.if-not-is_past.false))
