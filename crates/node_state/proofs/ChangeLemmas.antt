-- A primary takes a configuration, or refuses it as the check does.
use Rattle.std.proofs.Common.{◌≡◌, ◌≢◌, ◌∙◌, ap, sym, refl, ℕ, not, cond, List, [], ◌∷◌, ◌++◌, Option, None, Some}
use Rattle.std.specs.Option.{option_map}
use Rattle.rs_optime.specs.declared.optime.OpTime.{OpTime}
use Rattle.member_config.specs.Config.{in_term}
use Rattle.member_config.specs.Rule.{rule}
use Rattle.member_config.specs.Voters.{unknown_member}
use Rattle.member_config.specs.declared.config.Config.{Config}
use Rattle.election_core.specs.Counting.{Tallied}
use Rattle.reconfig_core.specs.declared.refusal.ConfigRefusal.{ConfigRefusal}
use Rattle.repl_msg.specs.declared.record.Record.{Record}
use Rattle.repl_msg.specs.declared.record.Record.TheVariants as records
use Rattle.set_model.specs.declared.reply.Refusal.{Refusal}
use Rattle.set_model.specs.declared.reply.Refusal.TheVariants as refusal
use Rattle.set_model.specs.declared.role.Role.{Role}
use Rattle.set_model.specs.declared.role.Role.TheVariants.{Secondary, Candidate, Draining, Primary}
use Rattle.set_model.specs.declared.store.Store.TheVariants as stores
use Rattle.set_model.specs.Node.{Node}
use Rattle.set_model.specs.Reconfig as row
use Rattle.set_model.specs.Roles.{is_primary}
use Rattle.set_model.specs.Stores.{config_record}
use Rattle.part_laws.specs.Points.{checked, refusal_of}
use Rattle.part_laws.proofs.RowLemmas.{reconfigs_agree}
use Rattle.node_state.specs.Coherent.{IsCoherent}
use Rattle.node_state.specs.Ready.{IsReadyTurn}
use Rattle.node_state.specs.Seen.{BesideData, seen_node}
use Rattle.node_state.specs.StateView.{StateView}
use Rattle.node_state.specs.declared.turn.Continuation.TheVariants as continuations
use Rattle.node_state.specs.declared.turn.Turn.TheVariants as turns
use Rattle.node_state.proofs.TermLemmas.{coherent-kept, with_config_kept}

-- what a node refuses where the check refuses so much
pub refused_as : (nodes : ℕ) (node : Node) (config : Config) (why : Option ConfigRefusal) → node.role ≡ Primary → checked nodes node config ≡ why
    → option_map refusal_of why ≡ row.reconfig_refusal nodes node config
refused_as nodes node config why primary is =
    ap (option_map refusal_of) (sym is)
    ∙ ap (λ (role : Role). cond (not (is_primary role)) (Some refusal.NotPrimary) (option_map refusal_of (checked nodes node config))) (sym primary)
    ∙ reconfigs_agree nodes node config

-- ---- a configuration that is taken

primary_is : (role : Role) (why : Option Refusal) → None ≡ cond (not (is_primary role)) (Some refusal.NotPrimary) why → role ≡ Primary
primary_is Secondary why none = absurd (cc none)
primary_is Candidate why none = absurd (cc none)
primary_is Draining why none = absurd (cc none)
primary_is Primary why none = refl

not_broken : (role : Role) (broken : Option ℕ) (why : Option Refusal) → None ≡ cond (not (is_primary role)) (Some refusal.NotPrimary) (row.unless_broken broken why) → broken ≡ None
not_broken Secondary broken why none = absurd (cc none)
not_broken Candidate broken why none = absurd (cc none)
not_broken Draining broken why none = absurd (cc none)
not_broken Primary (Some number) why none = absurd (cc none)
not_broken Primary None why none = refl

pub change_ready : (nodes : ℕ) (standing : StateView) (config taken kept : Config) → None ≡ row.reconfig_refusal nodes standing.node config → taken ≡ in_term config standing.node.term → kept ≡ taken
    → IsReadyTurn (turns.Storing (stores.Record (records.Config kept)) (continuations.Reconfig taken)) standing
change_ready nodes standing config taken kept none taken_is kept_is =
    let lawful : rule config ≡ None = not_broken standing.node.role (rule config) (row.unless_unknown (unknown_member nodes config) (row.change_refusal standing.node config)) none in
    let right : rule taken ≡ None = ap rule taken_is ∙ lawful in (
      record {
        item_is = ap (λ (c : Config). config_record c) kept_is;
        term = ap (λ (c : Config). c.term) taken_is;
        lawful = right;
        role = primary_is standing.node.role (row.unless_broken (rule config) (row.unless_unknown (unknown_member nodes config) (row.change_refusal standing.node config))) none;
      },
      ap rule kept_is ∙ right,
    )

-- ---- a configuration that is kept

pub coherent-configured : (n : Node) (rest : BesideData) (items : List Record) (config : Config) (tally : Option Tallied) (optimes : List OpTime)
    → items ≡ rest.records ++ records.Config config ∷ [] → rule config ≡ None → rest.role ≢ Candidate → IsCoherent (seen_node n rest) tally optimes
    → IsCoherent (seen_node n (record rest { records = items; config = config })) tally optimes
coherent-configured n rest items config tally optimes are lawful other old =
    coherent-kept (seen_node n rest) items rest.term rest.vote config tally optimes (with_config_kept (seen_node n rest) items config old.recorded are) old.vote lawful
    (λ role. absurd (other role)) old
