use Rattle.std.proofs.Common.{◌≡◌, ◌∙◌, List, arith, ap, sym, subst, filter, length}
use Rattle.oplog_entry.specs.Visible.{is_before}
use Rattle.oplog_entry.specs.declared.entry.Entry.{Entry}
use Rattle.oplog_store.specs.Log.{IsOplog, with_entry}
use Rattle.set_model.specs.Node.{Node}
use Rattle.checker_node.proofs.ChangeLemmas.{journaled_put}
use Rattle.checker_node.proofs.node.Node.put.Goals as goal

pub invariant_of-self : goal.invariant_of-self
invariant_of-self c =
    let s = c.self.inside in
    let oplog : IsOplog (with_entry s.log c.args.entry) = subst (λ (n : Node). IsOplog (with_entry n.log c.args.entry)) (sym c.self.view_is) c.requires in
    let place_is : length c.before-place.result.now ≡ length (filter (λ (e : Entry). is_before e.optime c.args.entry.optime) s.log) =
    ap length (c.before-place.ensures ∙ ap (λ (l : List Entry). filter (λ (e : Entry). is_before e.optime c.args.entry.optime) l) c.log.ensures) in (
      journaled_put c.insert.result s.journaled c.min-self-inside.result (length c.before-place.result.now) s.log c.insert.new.self c.args.entry s.journal (omega arith) (omega arith) place_is oplog
          c.insert.ensures.ok c.insert.ensures.err c.self.invariant.0,
      c.self.invariant.1,
    )
