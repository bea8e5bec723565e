-- A log that is applied up to its end.
use Rattle.std.proofs.Common.{◌≡◌, ◌∙◌, ap, refl, inl, inr, Bool, true, false, not, cond, filter, List, [], ◌∷◌}
use Rattle.rs_optime.specs.Later.{later_of}
use Rattle.rs_optime.specs.Order.{is_before}
use Rattle.rs_optime.specs.declared.optime.OpTime.{OpTime}
use Rattle.rs_optime.proofs.Optimes.{at_most_antisym}
use Rattle.rs_optime.specs.Membership.{In}
use Rattle.oplog_entry.specs.Visible.{last_of, log_up_to}
use Rattle.oplog_entry.specs.declared.entry.Entry.{Entry}
use Rattle.set_model.specs.Node.{Node}
use Rattle.set_model.specs.Points.{last_point}
use Rattle.set_model.specs.Safety.{AtMost}
use Rattle.node_data.specs.Sound.{IsSound}
use Rattle.node_state.proofs.EntryLemmas.{below_last}

all_pass : {X : Type 0} (p : X → Bool) (xs : List X) → ((x : X) → In x xs → p x ≡ true) → filter p xs ≡ xs
all_pass p [] each = refl
all_pass p (x ∷ xs) each =
    ap (λ b. cond b (x ∷ filter p xs) (filter p xs)) (each x (inl refl)) ∙ ap (λ rest. x ∷ rest) (all_pass p xs (λ y there. each y (inr there)))

later_is : (a b : OpTime) → AtMost a b → later_of a b ≡ b
later_is a b most = go (is_before a b) refl
  where
    go : (c : Bool) → is_before a b ≡ c → cond c b a ≡ b
    go true is = refl
    go false is = at_most_antisym a b most is

-- a log that is applied up to its last entry
pub applied_all : (n : Node) → IsSound n → later_of n.applied (last_of (log_up_to (last_point n) n.log)) ≡ last_point n
applied_all n sound =
    let whole : log_up_to (last_point n) n.log ≡ n.log = all_pass (λ (e : Entry). not (is_before (last_point n) e.optime)) n.log (λ e there. ap not (below_last n.log sound.oplog.order e there)) in
    ap (λ log. later_of n.applied (last_of log)) whole ∙ later_is n.applied (last_point n) sound.applied
