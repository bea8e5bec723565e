-- Steps of a node that is up, by what they change of its points.
use Rattle.std.proofs.Common.{◌≡◌, inl, sym, subst, refl, true}
use Rattle.rs_optime.specs.Order.{AtMost}
use Rattle.rs_optime.proofs.Optimes.{at_most_refl}
use Rattle.oplog_entry.specs.Visible.{last_of}
use Rattle.set_model.specs.declared.store.Store.{Store}
use Rattle.set_model.specs.Node.{Node}
use Rattle.set_model.specs.Outcome.{Outcome}
use Rattle.set_model.specs.Points.{if_primary}
use Rattle.set_model.specs.Stores.{in_doubt}
use Rattle.set_model.specs.Writers.{commit}
use Rattle.history_laws.proofs.Points.{Goes, down_goes, kept_goes, lowered, risen, shown_point, still_itself}

-- nothing changes, whether the node is up or not
pub itself_goes : (node : Node) → Goes node node
itself_goes node = record { kept = λ was now. (still_itself node).0; back = λ down now. absurd (cc (down, now)) }

pub broken_goes : (old node : Node) (store : Store) → Goes old (in_doubt node store)
broken_goes old node store = down_goes old (in_doubt node store) refl

module _ (node : Node) (up : node.up ≡ true) (top : AtMost node.commit (last_of node.log)) where
  abbrev pub Ends : Outcome → Type 0
  Ends outcome = Goes node outcome.node

  -- its points stay
  pub alike : (new : Node) → new.commit ≡ node.commit → new.role ≡ node.role → new.applied ≡ node.applied → new.stable ≡ node.stable → Goes node new
  alike new commit_is role_is applied_is stable_is = kept_goes node new up (risen node node node.commit (still_itself node).0 (at_most_refl node.commit) new commit_is role_is applied_is stable_is)

  -- its commit point rises
  pub rises : (new : Node) → AtMost node.commit new.commit → new.role ≡ node.role → new.applied ≡ node.applied → new.stable ≡ node.stable → Goes node new
  rises new more role_is applied_is stable_is = kept_goes node new up (risen node node new.commit (still_itself node).0 more new refl role_is applied_is stable_is)

  -- it steps down
  pub steps : (new : Node) → new.commit ≡ node.commit → new.applied ≡ if_primary node.role (last_of node.log) node.applied → new.stable ≡ node.stable → Goes node new
  steps new commit_is applied_is stable_is = kept_goes node new up (record {
    commit = subst (λ o. AtMost node.commit o) (sym commit_is) (at_most_refl node.commit);
    applied = λ is. subst (λ o. AtMost (shown_point node) o) (sym applied_is) (lowered node node top (still_itself node));
    stable = inl stable_is;
  })

  pub quiet : Goes node node
  quiet = itself_goes node
