use Rattle.std.proofs.Common.{◌≡◌, List, arith, subst, sym, true}
use Rattle.std.specs.List.{All}
use Rattle.rs_optime.specs.Order.{is_before}
use Rattle.version_store.specs.declared.history.Version.{Version}
use Rattle.node_data.proofs.RestoreLemmas.{StoredSoFar, none_yet, stored_all, stored_more, stored_none}
use Rattle.node_data.proofs.restoring.stored.Goals as goal

pub loop-ns-init : goal.loop-ns-init
loop-ns-init c =
    stored_none c.args.at c.args.documents.entries c.into_iter-ns-iterator.result c.in_ok-store.store c.in_ok-store.ensures.count c.into_iter-ns-iterator.ensures.into_iter_gives.0 c.into_iter-ns-iterator.ensures.into_iter_gives.5
    c.in_ok-store.ensures.empty

pub put-requires : goal.put-requires
put-requires c =
    let so = subst (λ rest. StoredSoFar c.args.at c.args.documents.entries rest c.loop-ns.store) c.in-Some.ensures.steps c.loop-ns.invariant in
    subst (λ (vs : List Version). All (λ (v : Version). is_before v.at c.args.at ≡ true) vs) (sym (none_yet c.args.at c.args.documents.entries _ c.loop-ns.store (c.in-Some.ns, c.in-Some.id) c.in-Some.document so))
    (λ k d within. absurd (omega (arith, within)))

pub loop-ns-preserved : goal.loop-ns-preserved
loop-ns-preserved c =
    let so = subst (λ rest. StoredSoFar c.args.at c.args.documents.entries rest c.loop-ns.store) c.in-Some.ensures.steps c.loop-ns.invariant in
    stored_more c.args.at c.args.documents.entries c.next.new.self c.loop-ns.store c.put.new.self (c.in-Some.ns, c.in-Some.id) c.in-Some.document so c.in_ok-put.ensures.ok

pub returns-clause-versions : goal.returns-clause-versions
returns-clause-versions c = stored_all c.args.at c.args.documents.entries c.loop-ns.ns-iterator c.loop-ns.store c.loop-ns.invariant c.in-None.ensures.steps.0

pub returns-clause-free : goal.returns-clause-free
returns-clause-free c = c.loop-ns.invariant.free

pub returns-clause-count : goal.returns-clause-count
returns-clause-count c = c.loop-ns.invariant.shards
