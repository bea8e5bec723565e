-- The optime at which a read shows documents.
use Rattle.std.proofs.Common.{◌≡◌, ◌∙◌, sym, subst, refl, Bool, true, false, cond}
use Rattle.read_concern.specs.Shown.{shown_at}
use Rattle.read_concern.specs.declared.reads.ReadAt.TheVariants.{Latest, At}
use Rattle.rs_optime.specs.Later.{earlier_of}
use Rattle.rs_optime.specs.declared.optime.OpTime.{OpTime}
use Rattle.rs_optime.proofs.Optimes.{at_most_refl, earlier_by, earlier_right}
use Rattle.oplog_entry.specs.Visible.{log_up_to, is_before}
use Rattle.set_model.specs.Node.{Node}
use Rattle.set_model.specs.Points.{applied_point, visible_point}
use Rattle.set_model.specs.Reads.{shown_log}
use Rattle.set_model.specs.Roles.{is_primary, if_primary}
use Rattle.set_model.specs.Safety.{AtMost}
use Rattle.set_model.specs.declared.command.ReadLevel.{ReadLevel}
use Rattle.set_model.specs.declared.command.ReadLevel.TheVariants.{Local, Majority}
use Rattle.set_model.specs.declared.role.Role.{Role}
use Rattle.set_model.specs.declared.role.Role.TheVariants.{Secondary, Candidate, Draining, Primary}
use Rattle.node_data.specs.NodeData.{IsReadable, data_role}
use Rattle.node_state.specs.Seen.{BesideData, seen_node}
use Rattle.node_state.proofs.StateLemmas.{primary_seen}
use Rattle.node_answers.specs.Reading.{level_of}

if_not_primary : {A : Type 0} (role : Role) (a b : A) → is_primary role ≡ false → if_primary role a b ≡ b
if_not_primary Secondary a b not = refl
if_not_primary Candidate a b not = refl
if_not_primary Draining a b not = refl
if_not_primary Primary a b not = absurd (cc not)

pub readable_seen : (n : Node) (rest : BesideData) (at : OpTime) → n.role ≡ data_role (is_primary rest.role) → IsReadable n at → IsReadable (seen_node n rest) at
readable_seen n rest at writable can = record { kept = can.kept; reached = λ other. can.reached (primary_seen n.role rest.role writable ∙ other) }

-- the latest documents are a primary's
pub latest_shown : (node : Node) (level : ReadLevel) (primary : Bool) (commit applied at : OpTime) → Latest ≡ shown_at (level_of level) primary commit applied
    → log_up_to at node.log ≡ shown_log node Local → log_up_to at node.log ≡ shown_log node level
latest_shown node Local primary commit applied at is shown = shown
latest_shown node Majority primary commit applied at is shown = absurd (cc is)

same_at : (a b : OpTime) → At a ≡ At b → a ≡ b
same_at a b is = cc is

-- the documents of an optime
pub record IsShownAt (node : Node) (level : ReadLevel) (at : OpTime) : Type 0 where
  pub readable : IsReadable node at
  pub shown : log_up_to at node.log ≡ shown_log node level

pub at_shown : (node : Node) (level : ReadLevel) (at : OpTime) → AtMost node.stable node.commit → AtMost node.stable (applied_point node)
    → At at ≡ shown_at (level_of level) (is_primary node.role) node.commit (applied_point node) → IsShownAt node level at
at_shown node Majority at commit applied is =
    subst (IsShownAt node Majority) (sym (same_at at (earlier_of node.commit (applied_point node)) is)) (record {
      readable = record {
        kept = earlier_by (λ o. AtMost node.stable o) node.commit (applied_point node) commit applied;
        reached = λ not. subst (λ o. is_before o (earlier_of node.commit (applied_point node)) ≡ false) (if_not_primary node.role (visible_point node) node.applied not) (earlier_right node.commit (applied_point node));
      };
      shown = refl;
    })
at_shown node Local at commit applied is = go (is_primary node.role) refl is
  where
    go : (b : Bool) → is_primary node.role ≡ b → At at ≡ cond b Latest (At (applied_point node)) → IsShownAt node Local at
    go true primary is = absurd (cc is)
    go false not is =
        let here : at ≡ node.applied = same_at at (applied_point node) is ∙ if_not_primary node.role (visible_point node) node.applied not in
        subst (IsShownAt node Local) (sym here) (record {
          readable = record {
            kept = subst (λ o. AtMost node.stable o) (if_not_primary node.role (visible_point node) node.applied not) applied;
            reached = λ _. at_most_refl node.applied;
          };
          shown = sym (if_not_primary node.role node.log (log_up_to node.applied node.log) not);
        })
