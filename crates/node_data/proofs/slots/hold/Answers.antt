use Rattle.std.proofs.Common.{◌≡◌, ◌∙◌, sym, ap, Err, None, Some}
use Rattle.version_store.specs.declared.store.HoldError.{HoldError}
use Rattle.node_data.proofs.StoreLemmas.{past_same}
use Rattle.node_data.proofs.slots.hold.Goals as goal

pub returns-in-Err-clause-not_held : goal.returns-in-Err-clause-not_held
returns-in-Err-clause-not_held c =
    past_same c.args.store.now c.hold.new.self c.release.new.self (c.args.ns.now, c.args.id.now) c.args.number c.requires.free c.in-Ok.ensures.ok c.release.ensures

pub unreachable-requires : goal.unreachable-requires
unreachable-requires c =
    let held : (Some c.in-Err-Held.field-0-0) ≡ None =
    sym ((c.in-Err-Held.ensures.held c.in-Err-Held.field-0-0).0 (ap (λ (e : HoldError). Err e) c.in-Err-Held.field-0-is)).0 ∙ c.requires.free in
    cc
