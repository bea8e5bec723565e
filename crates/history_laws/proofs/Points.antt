-- What a step of a node that is up leaves of its commit point, of what it has applied and of its checkpoint.
use Rattle.std.proofs.Common.{◌≡◌, ◌∙◌, ◌⊎◌, inl, inr, ap, sym, subst, refl, true, false, Option, None, Some, List}
use Rattle.rs_optime.specs.Order.{AtMost}
use Rattle.rs_optime.specs.declared.optime.OpTime.{OpTime}
use Rattle.rs_optime.proofs.Optimes.{at_most_refl, at_most_trans, earlier_left, earlier_right, later_left}
use Rattle.oplog_entry.specs.Visible.{last_of}
use Rattle.oplog_entry.specs.declared.entry.Entry.{Entry}
use Rattle.repl_msg.specs.Points.{commit_counted}
use Rattle.set_model.specs.declared.role.Role.{Role}
use Rattle.set_model.specs.declared.role.Role.TheVariants as roles
use Rattle.set_model.specs.Node.{Node}
use Rattle.set_model.specs.Points.{applied_point, earlier_of, if_primary, last_point}
use Rattle.set_model.specs.Roles.{is_primary}

-- up to where a majority read shows the log
abbrev pub shown_point : Node → OpTime
shown_point node = earlier_of node.commit (applied_point node)

-- of a node that was up
pub record Kept (old new : Node) : Type 0 where
  pub commit : AtMost old.commit new.commit
  pub applied : is_primary new.role ≡ false → AtMost (shown_point old) new.applied
  pub stable : (new.stable ≡ old.stable) ⊎ (new.stable ≡ shown_point old)

pub record Goes (old new : Node) : Type 0 where
  pub kept : old.up ≡ true → new.up ≡ true → Kept old new
  -- what comes up has applied its log
  pub back : old.up ≡ false → new.up ≡ true → new.applied ≡ last_of new.log

-- a node on the way
abbrev pub Still : Node → Node → Type 0
Still old node = Kept old node × (node.log ≡ old.log)

pub kept_goes : (old new : Node) → old.up ≡ true → Kept old new → Goes old new
kept_goes old new up kept = record { kept = λ was now. kept; back = λ down now. absurd (cc (up, down)) }

-- a node that is down after it
pub down_goes : (old new : Node) → new.up ≡ false → Goes old new
down_goes old new down = record { kept = λ was now. absurd (cc (down, now)); back = λ was now. absurd (cc (down, now)) }

-- ---- by roles

-- what is at or before what a node that isn't primary has applied
below_applied : (role : Role) (o one two : OpTime) → is_primary role ≡ false → AtMost o (if_primary role one two) → AtMost o two
below_applied roles.Secondary o one two is within = within
below_applied roles.Candidate o one two is within = within
below_applied roles.Draining o one two is within = within
below_applied roles.Primary o one two is within = absurd (cc is)

pub still_itself : (node : Node) → Still node node
still_itself node = (
  record {
    commit = at_most_refl node.commit;
    applied = λ is. below_applied node.role (shown_point node) _ node.applied is (earlier_right node.commit (applied_point node));
    stable = inl refl;
  },
  refl,
)

-- a node that steps down has applied its log if it was primary
pub lowered : (old node : Node) → AtMost old.commit (last_of old.log) → Still old node → AtMost (shown_point old) (if_primary node.role (last_point node) node.applied)
lowered old node top still = go node.role refl
  where
    whole : AtMost (shown_point old) (last_point node)
    whole = subst (λ (l : List Entry). AtMost (shown_point old) (last_of l)) (sym still.1) (at_most_trans (shown_point old) old.commit (last_of old.log) (earlier_left old.commit (applied_point old)) top)

    go : (role : Role) → node.role ≡ role → AtMost (shown_point old) (if_primary role (last_point node) node.applied)
    go roles.Primary is = whole
    go roles.Secondary is = still.0.applied (ap is_primary is)
    go roles.Candidate is = still.0.applied (ap is_primary is)
    go roles.Draining is = still.0.applied (ap is_primary is)

pub counted_commit : (commit durable : OpTime) (found : Option OpTime) → AtMost commit (commit_counted commit durable found)
counted_commit commit durable None = at_most_refl commit
counted_commit commit durable (Some point) = later_left commit (earlier_of point durable)

-- a primary's commit point only rises as it counts
pub evaluated_commit : (role : Role) (commit durable : OpTime) (found : Option OpTime) → AtMost commit (if_primary role (commit_counted commit durable found) commit)
evaluated_commit roles.Primary commit durable found = counted_commit commit durable found
evaluated_commit roles.Secondary commit durable found = at_most_refl commit
evaluated_commit roles.Candidate commit durable found = at_most_refl commit
evaluated_commit roles.Draining commit durable found = at_most_refl commit

-- with a commit point that is no earlier
pub risen : (old node : Node) (commit : OpTime) → Kept old node → AtMost node.commit commit → (new : Node) → new.commit ≡ commit → new.role ≡ node.role → new.applied ≡ node.applied → new.stable ≡ node.stable → Kept old new
risen old node commit kept rises new commit_is role_is applied_is_same stable_is = record {
  commit = subst (λ o. AtMost old.commit o) (sym commit_is) (at_most_trans old.commit node.commit commit kept.commit rises);
  applied = λ is. subst (λ o. AtMost (shown_point old) o) (sym applied_is_same) (kept.applied (ap is_primary (sym role_is) ∙ is));
  stable = elim kept.stable [ inl same ↦ inl (stable_is ∙ same) | inr shown ↦ inr (stable_is ∙ shown) ];
}
