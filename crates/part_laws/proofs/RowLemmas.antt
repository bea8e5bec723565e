-- Each part's answer is the node's, by cases.
use Rattle.std.proofs.Common.{◌≡◌, ◌∙◌, ap, sym, ℕ, Bool, true, false, not, cond, filter, List, [], ◌∷◌, Option, None, Some, Ok, Err, refl}
use Rattle.std.specs.Prelude.{◌==◌, ◌&&◌, nat_lt, nat_le, length}
use Rattle.std.specs.Option.{option_map}
use Rattle.std.specs.FinSet as sets
use Rattle.rs_optime.specs.Order.{is_before}
use Rattle.rs_optime.specs.declared.optime.OpTime.{OpTime}
use Rattle.oplog_entry.specs.declared.entry.Entry.{Entry}
use Rattle.oplog_entry.specs.Visible.{least, log_up_to}
use Rattle.member_config.specs.Numbers.{lowest}
use Rattle.member_config.specs.Rule.{rule}
use Rattle.member_config.specs.Voters.{numbers, voters, majority, is_voter, is_electable_in, is_one_voter_apart, unknown_member}
use Rattle.repl_msg.specs.Fetching.{reply_of}
use Rattle.repl_msg.specs.Rollback.{is_common, common_point}
use Rattle.repl_msg.specs.Sources.{goes_further}
use Rattle.write_concern.specs.declared.acks.ConcernAnswer.TheVariants.{Acked, Waiting, CannotSatisfy}
use Rattle.read_concern.specs.declared.reads.ReadAt.TheVariants.{Latest, At}
use Rattle.rollback_core.specs.declared.point.RollbackRefusal.TheVariants as part_rollback
use Rattle.reconfig_core.specs.declared.refusal.ConfigRefusal.{ConfigRefusal}
use Rattle.reconfig_core.specs.declared.refusal.ConfigRefusal.TheVariants as part_config
use Rattle.reconfig_core.specs.Reconfig as part_reconfig
use Rattle.set_model.specs.declared.command.AckConcern.TheVariants as row_concern
use Rattle.set_model.specs.declared.command.ReadLevel.TheVariants as row_level
use Rattle.set_model.specs.declared.reply.Ignored.TheVariants as ignored_reason
use Rattle.set_model.specs.declared.reply.Refusal.{Refusal}
use Rattle.set_model.specs.declared.reply.Refusal.TheVariants as refusal
use Rattle.set_model.specs.declared.role.Role.{Role}
use Rattle.set_model.specs.declared.role.Role.TheVariants.{Secondary, Candidate, Draining, Primary}
use Rattle.set_model.specs.Node.{Node}
use Rattle.set_model.specs.Roles.{is_primary, is_secondary, if_primary}
use Rattle.set_model.specs.Points.{last_point, visible_point}
use Rattle.set_model.specs.Concerns.{held}
use Rattle.set_model.specs.Outcome.{ignored}
use Rattle.set_model.specs.Stores.{finished}
use Rattle.set_model.specs.Reconfig as row_reconfig
use Rattle.set_model.specs.Rollback.{roll_back, is_of_later_branch}
use Rattle.part_laws.specs.Elections.{VotesAgree, TalliesAgree}
use Rattle.part_laws.specs.Concerns as concerns
use Rattle.part_laws.specs.Points.{PointsAgree, ReconfigsAgree, refusal_of}
use Rattle.part_laws.specs.Logs.{SourcesAgree, FetchesAgree, AcceptsAgree, RollbacksAgree, planned}
use Rattle.part_laws.proofs.VisibleLemmas.{visible_up_to}

-- ---- elections

pub votes_agree : VotesAgree
votes_agree node from ask = refl

pub tallies_agree : TalliesAgree
tallies_agree = record { grows = λ config voted from. refl; needed = λ config voted. refl }

-- ---- concerns

awaited : (late : Bool) (held needed : ℕ)
    → concerns.refusal_of (cond late (Waiting held needed) Acked) ≡ cond late (Some (refusal.Waiting held needed)) None
awaited true held needed = refl
awaited false held needed = refl

counted : (more late : Bool) (members held needed : ℕ)
    → concerns.refusal_of (cond more (CannotSatisfy members) (cond late (Waiting held needed) Acked))
    ≡ cond more (Some (refusal.CannotSatisfy members)) (cond late (Some (refusal.Waiting held needed)) None)
counted true late members held needed = refl
counted false late members held needed = awaited late held needed

pub concerns_agree : concerns.ConcernsAgree
concerns_agree node at row_concern.Majority = awaited (is_before node.commit at) _ _
concerns_agree node at (row_concern.Count count) =
    counted (nat_lt (length node.config.members) count) (nat_lt (held node at (numbers node.config)) count) _ _ _

by_role : (role : Role) (log : List Entry) (visible applied : OpTime)
    → concerns.part_shown log (cond (is_primary role) Latest (At (if_primary role visible applied))) ≡ if_primary role log (log_up_to applied log)
by_role Secondary log visible applied = refl
by_role Candidate log visible applied = refl
by_role Draining log visible applied = refl
by_role Primary log visible applied = refl

pub reads_agree : concerns.ReadsAgree
reads_agree node row_level.Local = by_role node.role node.log (visible_point node) node.applied
reads_agree node row_level.Majority = refl

-- ---- commit points and configurations

pub points_agree : PointsAgree
points_agree = record { advances = λ node. refl; learns = λ node heard. refl }

lacked : (config term log : Bool) (count needed other : ℕ) (commit : OpTime)
    → option_map refusal_of
    (cond config (Some (part_config.ConfigNotCommitted count needed))
    (cond term (Some (part_config.TermNotCommitted commit)) (cond log (Some (part_config.OplogNotCommitted other needed)) None)))
    ≡ cond config (Some (refusal.ConfigNotCommitted count needed))
    (cond term (Some (refusal.TermNotCommitted commit)) (cond log (Some (refusal.OplogNotCommitted other needed)) None))
lacked true term log count needed other commit = refl
lacked false true log count needed other commit = refl
lacked false false true count needed other commit = refl
lacked false false false count needed other commit = refl

changed : (version member voters : Bool) (part : Option ConfigRefusal) (row : Option Refusal) → option_map refusal_of part ≡ row
    → option_map refusal_of (part_reconfig.or_else
    (cond version (Some part_config.WrongVersion) (cond member (Some part_config.PrimaryNotMember) (cond voters (Some part_config.TwoVoters) None))) part)
    ≡ cond version (Some refusal.WrongVersion) (cond member (Some refusal.PrimaryNotMember) (cond voters (Some refusal.TwoVoters) row))
changed true member voters part row same = refl
changed false true voters part row same = refl
changed false false true part row same = refl
changed false false false part row same = same

named : (broken unknown : Option ℕ) (part : Option ConfigRefusal) (row : Option Refusal) → option_map refusal_of part ≡ row
    → option_map refusal_of (part_reconfig.unless_broken broken (part_reconfig.unless_unknown unknown part))
    ≡ row_reconfig.unless_broken broken (row_reconfig.unless_unknown unknown row)
named (Some rule) unknown part row same = refl
named None (Some number) part row same = refl
named None None part row same = same

pub reconfigs_agree : ReconfigsAgree
reconfigs_agree nodes node config =
    ap (λ why. cond (not (is_primary node.role)) (Some refusal.NotPrimary) why)
    (named (rule config) (unknown_member nodes config) _ _
    (changed (nat_le config.version node.config.version) (not (is_voter config node.number && is_electable_in config node.number))
    (not (is_one_voter_apart node.config config)) _ _
    (lacked (nat_lt (row_reconfig.config_held node) (majority node.config)) (not (node.commit.term == node.term))
    (nat_lt (row_reconfig.commit_held node) (majority node.config)) _ _ _ _)))

-- ---- sources

same_filter : {X : Type 0} (p q : X → Bool) → ((x : X) → p x ≡ q x) → (xs : List X) → filter p xs ≡ filter q xs
same_filter p q each [] = refl
same_filter p q each (x ∷ xs) =
    ap (λ b. cond b (x ∷ filter p xs) (filter p xs)) (each x) ∙ ap (λ rest. cond (q x) (x ∷ rest) rest) (same_filter p q each xs)

pub sources_agree : SourcesAgree
sources_agree node known are_known =
    ap lowest (same_filter _ _ (λ member. ap (λ heard. not (member == node.number) && goes_further node.config (last_point node) heard) (are_known member)) (numbers node.config))

-- ---- fetching

pub fetches_agree : FetchesAgree
fetches_agree node base oplog zeros =
    ap (λ shown. reply_of shown (visible_point node) base node.commit (is_primary node.role))
    (sym (visible_up_to (least (sets.items node.slots)) node.log oplog zeros))

pub accepts_agree : AcceptsAgree
accepts_agree node from reply = refl

-- ---- rollback

by_reason : (node : Node) (point : OpTime) (role old older same : Bool)
    → cond role (finished (ignored ignored_reason.NotSecondary node))
    (cond old (finished (ignored ignored_reason.OldTerm node))
    (planned node (cond older (Err part_rollback.NotOlder) (cond same (Err part_rollback.SameBranch) (Ok point)))))
    ≡ roll_back node point
    (cond role (Some ignored_reason.NotSecondary)
    (cond old (Some ignored_reason.OldTerm) (cond older (Some ignored_reason.NotOlder) (cond same (Some ignored_reason.SameBranch) None))))
by_reason node point true old older same = refl
by_reason node point false true older same = refl
by_reason node point false false true same = refl
by_reason node point false false false true = refl
by_reason node point false false false false = refl

pub rollbacks_agree : RollbacksAgree
rollbacks_agree node term after optimes visible =
    by_reason node (common_point node.log after optimes) (not (is_secondary node.role)) (nat_lt term node.term)
    (not (is_of_later_branch node visible)) (is_common after optimes (last_point node))
