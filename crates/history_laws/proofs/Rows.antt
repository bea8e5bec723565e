-- What each row leaves of the documents that writers hold.
use Rattle.std.proofs.Common.{◌≡◌, ◌∙◌, ◌⊎◌, inl, inr, ap, sym, subst, refl, ℕ, ◌+◌, Bool, true, false, Option, None, Some, Result, Ok, Err}
use Rattle.std.specs.FinMap as maps
use Rattle.doc_update.specs.declared.write.WriteOp.{WriteOp}
use Rattle.doc_update.specs.declared.write.WriteOp.TheVariants as ops
use Rattle.doc_update.specs.declared.write.Prepared.{Prepared}
use Rattle.doc_update.specs.declared.write.Prepared.TheVariants as prepared
use Rattle.rs_optime.specs.Membership.{In}
use Rattle.rs_optime.specs.Order.{Before}
use Rattle.rs_optime.specs.declared.optime.OpTime.{OpTime}
use Rattle.rs_optime.proofs.Optimes.{before_at_most, not_both}
use Rattle.oplog_entry.specs.declared.entry.Entry.{Entry}
use Rattle.oplog_entry.specs.declared.entry.Op.{Op}
use Rattle.oplog_entry.specs.declared.entry.Op.TheVariants.{Noop, Note}
use Rattle.oplog_entry.specs.declared.entry.Session.{Session}
use Rattle.oplog_store.specs.Log.{with_entry}
use Rattle.member_config.specs.Config.{in_term}
use Rattle.set_model.specs.declared.command.Command.{Command}
use Rattle.set_model.specs.declared.reply.Refusal.{Refusal}
use Rattle.set_model.specs.declared.reply.Refusal.TheVariants.{NotPrimary}
use Rattle.set_model.specs.declared.reply.Reply.{Reply}
use Rattle.set_model.specs.declared.reply.Reply.TheVariants as reply
use Rattle.set_model.specs.declared.role.Role.{Role}
use Rattle.set_model.specs.declared.role.Role.TheVariants as roles
use Rattle.set_model.specs.declared.writer.Writer.{Writer}
use Rattle.set_model.specs.declared.writer.Writer.TheVariants as writers
use Rattle.set_model.specs.Admitted.{admitted}
use Rattle.set_model.specs.Changes.{all_lost, logged}
use Rattle.set_model.specs.Elections.{campaign, candidate, candidate_refusal, dry_run, drain, step_down}
use Rattle.set_model.specs.Node.{Node}
use Rattle.set_model.specs.Outcome.{Outcome, refused, replied}
use Rattle.set_model.specs.Points.{if_primary, next_optime}
use Rattle.set_model.specs.Roles.{is_secondary, is_draining}
use Rattle.set_model.specs.Rows.{row}
use Rattle.set_model.specs.Stores.{stored, vote_record, config_record}
use Rattle.set_model.specs.Votes.{is_elected}
use Rattle.set_model.specs.Write.{write, written, retry, note}
use Rattle.set_model.specs.Writers.{begin, begun, unless_open, with_open, commit, abort}
use Rattle.set_model.proofs.LostLemmas.{none_open}
use Rattle.set_model.proofs.RetryLemmas.{primary_cases, retry_cases}
use Rattle.safety_laws.proofs.Merges.{in_entry}
use Rattle.safety_laws.proofs.Slots.{open_with, open_without}
use Rattle.history_laws.proofs.Holding.{AreApart, AreClosed, Ends, Goes, HasHolds, Holding, IsOpen, PlanGoes, Still, broken_goes, closed_by, closed_holds, free_apart, still_goes}
use Rattle.history_laws.proofs.Places.{IsFree, admitted_free}
use Rattle.history_laws.proofs.Plans.{end_if, plan_if, plan_unless, plan_up}
use Rattle.history_laws.proofs.OtherRows.{other_row_goes}

open_parts : (at other : OpTime) (op another : Op) → writers.Open at op ≡ writers.Open other another → (at ≡ other) × (op ≡ another)
open_parts at other op another same = (cc same, cc same)

-- each open writer is lost
pub lost_closed : (node : Node) → AreClosed (maps.from_entries (all_lost (maps.entries node.writers)))
lost_closed node number at op is = none_open (maps.entries node.writers) number at op is

module _ (node : Node) (holds : Holding node) where
  abbrev here : Still node node
  here = (holds, refl)

  quiet : Goes node node
  quiet = still_goes node node here

  -- ---- rows that write, where the next optime is after the log

  module _ (last : (entry : Entry) → In entry node.log → Before entry.optime (next_optime node)) where
    none_later : {P : Type 0} (entry : Entry) → In entry node.log → Before (next_optime node) entry.optime → P
    none_later entry there before = absurd (not_both (next_optime node) entry.optime before (before_at_most entry.optime (next_optime node) (last entry there)))

    -- an op that no open writer's document is touched by is logged
    logs : (role : Role) (op : Op) (session : Option Session) → (role ≡ node.role) ⊎ (AreClosed node.writers) → ((number : ℕ) (at : OpTime) (own : Op) → IsOpen node.writers number at own → AreApart own op)
        → HasHolds role (with_entry node.log (record { optime = next_optime node; op = op; session = session })) node.writers
    logs role op session how apart = record {
      primary = λ number at own is. elim how [ inl same ↦ same ∙ holds.primary number at own is | inr closed ↦ absurd (closed number at own is) ];
      alone = holds.alone;
      later = λ number at own is entry there before. elim (in_entry entry node.log (record { optime = next_optime node; op = op; session = session }) there) [
        | inl old ↦ holds.later number at own is entry old before
        | inr same ↦ subst (λ (e : Entry). AreApart own e.op) same (apart number at own is)
      ];
    }

    logged_ends : (answer : Reply) (op : Op) (session : Option Session) → ((number : ℕ) (at : OpTime) (own : Op) → IsOpen node.writers number at own → AreApart own op) → Ends node (replied answer (logged node op session))
    logged_ends answer op session apart = (
      logs node.role op session (inl refl) apart,
      inr (inr (record { entry = record { optime = next_optime node; op = op; session = session }; more = refl; apart = λ other there before. none_later other there before })),
    )

    written_ends : (op : WriteOp) (session : Option Session) (found : Result Prepared Refusal) → admitted node op ≡ found → Ends node (written node session found)
    written_ends op session (Err why) is = quiet
    written_ends op session (Ok prepared.NoMatch) is = quiet
    written_ends op session (Ok prepared.Unchanged) is = quiet
    written_ends op session (Ok (prepared.Entry entry after)) is = logged_ends (reply.Written (next_optime node)) entry session (free_apart node entry (admitted_free node op entry after is))

    write_ends : (op : WriteOp) → Ends node (write node op)
    write_ends op = primary_cases (Ends node) node _ quiet (λ primary. written_ends op None (admitted node op) refl)

    retry_ends : (session : Session) (op : WriteOp) → Ends node (retry node session op)
    retry_ends session op = retry_cases (Ends node) node session op (λ why. quiet) (λ found is same. quiet) (λ primary past. written_ends op (Some session) (admitted node op) refl)

    note_ends : Ends node (note node)
    note_ends = primary_cases (Ends node) node _ quiet (λ primary. logged_ends (reply.Written (next_optime node)) Note None (λ number at own is place touches none. absurd (cc none)))

    opened_holds : (writer : ℕ) (op : Op) → node.role ≡ roles.Primary → IsFree node op → HasHolds node.role node.log (maps.insert node.writers writer (writers.Open (next_optime node) op))
    opened_holds writer op primary free = record {
      primary = λ number at own is. primary;
      alone = λ one two at other own another is is_too apart. alone one two at other own another apart (open_with node.writers writer one (writers.Open (next_optime node) op) at own is)
          (open_with node.writers writer two (writers.Open (next_optime node) op) other another is_too);
      later = λ number at own is entry there before. elim (open_with node.writers writer number (writers.Open (next_optime node) op) at own is) [
        | inl new ↦ none_later entry there (subst (λ (o : OpTime). Before o entry.optime) (sym (open_parts (next_optime node) at op own new.1).0) before)
        | inr old ↦ holds.later number at own old.1 entry there before
      ];
    }
      where
        alone : (one two : ℕ) (at other : OpTime) (own another : Op) → (one ≡ two → ⊥)
            → ((one ≡ writer) × (writers.Open (next_optime node) op ≡ writers.Open at own)) ⊎ ((one ≡ writer → ⊥) × IsOpen node.writers one at own)
            → ((two ≡ writer) × (writers.Open (next_optime node) op ≡ writers.Open other another)) ⊎ ((two ≡ writer → ⊥) × IsOpen node.writers two other another)
            → AreApart own another
        alone one two at other own another apart (inl new) (inl new_too) = absurd (apart (new.0 ∙ sym new_too.0))
        alone one two at other own another apart (inl new) (inr old) =
            subst (λ o. AreApart o another) (open_parts (next_optime node) at op own new.1).1 (λ place touches touches_too. free_apart node op free two other another old.1 place touches_too touches)
        alone one two at other own another apart (inr old) (inl new) = subst (λ o. AreApart own o) (open_parts (next_optime node) other op another new.1).1 (free_apart node op free one at own old.1)
        alone one two at other own another apart (inr old) (inr old_too) = holds.alone one two at other own another old.1 old_too.1 apart

    begin_ends : (writer : ℕ) (op : WriteOp) → Ends node (begin node writer op)
    begin_ends writer op = go node.role refl (maps.get node.writers writer)
      where
        effect : node.role ≡ roles.Primary → (found : Result Prepared Refusal) → admitted node op ≡ found → Ends node (begun node writer found)
        effect primary (Err why) is = quiet
        effect primary (Ok prepared.NoMatch) is = quiet
        effect primary (Ok prepared.Unchanged) is = quiet
        effect primary (Ok (prepared.Entry entry after)) is = (opened_holds writer entry primary (admitted_free node op entry after is), inl refl)

        go : (role : Role) → node.role ≡ role → (found : Option Writer) → Ends node (if_primary role (unless_open node found (begun node writer (admitted node op))) (refused NotPrimary node))
        go roles.Primary is (Some (writers.Open at entry)) = quiet
        go roles.Primary is (Some (writers.Done at)) = effect is (admitted node op) refl
        go roles.Primary is (Some (writers.Lost term)) = effect is (admitted node op) refl
        go roles.Primary is None = effect is (admitted node op) refl
        go roles.Secondary is found = quiet
        go roles.Candidate is found = quiet
        go roles.Draining is found = quiet

    drain_goes : PlanGoes node (drain node)
    drain_goes = plan_if (Goes node) (is_draining node.role) _ _
        (λ is. (
          broken_goes node node (config_record (in_term node.config node.term)),
          (
            logs roles.Primary Noop None (inr (closed is)) (λ number at own open_is place touches none. absurd (cc none)),
            inr (inr (record { entry = record { optime = next_optime node; op = Noop; session = None }; more = refl; apart = λ other there before. none_later other there before })),
          ),
        ))
        (λ is. quiet)
      where
        not_draining : (role : Role) → is_draining role ≡ true → role ≡ roles.Primary → ⊥
        not_draining role draining primary = let clash : true ≡ false = sym draining ∙ ap is_draining primary in absurd (cc clash)

        closed : is_draining node.role ≡ true → AreClosed node.writers
        closed is = closed_by node holds (not_draining node.role is)

  -- ---- writers that end

  settled_holds : (writer : ℕ) (at : OpTime) (op : Op) → IsOpen node.writers writer at op
      → HasHolds node.role (with_entry node.log (record { optime = at; op = op; session = None })) (maps.insert node.writers writer (writers.Done at))
  settled_holds writer at op open_is = record {
    primary = λ number by own is. holds.primary number by own (other number by own is).1;
    alone = λ one two by by_too own another is is_too apart. holds.alone one two by by_too own another (other one by own is).1 (other two by_too another is_too).1 apart;
    later = λ number by own is entry there before. elim (in_entry entry node.log (record { optime = at; op = op; session = None }) there) [
      | inl old ↦ holds.later number by own (other number by own is).1 entry old before
      | inr same ↦ subst (λ (e : Entry). AreApart own e.op) same (holds.alone number writer by at own op (other number by own is).1 open_is (other number by own is).0)
    ];
  }
    where
      other : (number : ℕ) (by : OpTime) (own : Op) → IsOpen (maps.insert node.writers writer (writers.Done at)) number by own → (number ≡ writer → ⊥) × IsOpen node.writers number by own
      other number by own is = elim (open_with node.writers writer number (writers.Done at) by own is) [ inl same ↦ absurd (cc same.1) | inr old ↦ old ]

  open_ends : (found : Option Writer) (ends : OpTime → Op → Outcome) → ((at : OpTime) (op : Op) → found ≡ Some (writers.Open at op) → Ends node (ends at op)) → Ends node (with_open node found ends)
  open_ends (Some (writers.Open at op)) ends goes = goes at op refl
  open_ends (Some (writers.Lost term)) ends goes = quiet
  open_ends (Some (writers.Done at)) ends goes = quiet
  open_ends None ends goes = quiet

  commit_ends : (writer : ℕ) → Ends node (commit node writer)
  commit_ends writer = open_ends (maps.get node.writers writer) _ (λ at op is. (
    settled_holds writer at op is,
    inr (inr (record { entry = record { optime = at; op = op; session = None }; more = refl; apart = λ other there before. holds.later writer at op is other there before })),
  ))

  abort_ends : (writer : ℕ) → Ends node (abort node writer)
  abort_ends writer = open_ends (maps.get node.writers writer) _ (λ at op is. (
    record {
      primary = λ number by own open_is. holds.primary number by own (open_without node.writers writer number by own open_is).1;
      alone = λ one two by by_too own another open_is open_too apart. holds.alone one two by by_too own another (open_without node.writers writer one by own open_is).1
          (open_without node.writers writer two by_too another open_too).1 apart;
      later = λ number by own open_is entry there before. holds.later number by own (open_without node.writers writer number by own open_is).1 entry there before;
    },
    inl refl,
  ))

  campaign_goes : (next : ℕ) → PlanGoes node (campaign next node)
  campaign_goes next = plan_unless (Goes node) node (candidate_refusal node) _ quiet (
    broken_goes node node (vote_record (node.term + 1) (Some node.number)),
    end_if (Goes node) (is_elected (candidate (stored node (vote_record (node.term + 1) (Some node.number))))) _ _
        (λ is. (closed_holds roles.Draining node.log _ (lost_closed node), inl refl))
        (λ is. (closed_holds roles.Candidate node.log _ (lost_closed node), inl refl)),
  )

  dry_run_goes : (next : ℕ) → PlanGoes node (dry_run next node)
  dry_run_goes next = plan_unless (Goes node) node (candidate_refusal node) _ quiet quiet

  step_down_ends : Ends node (step_down node)
  step_down_ends = end_if (Goes node) (is_secondary node.role) _ _ (λ is. quiet) (λ is. (closed_holds roles.Secondary node.log _ (lost_closed node), inl refl))

-- ---- each command

pub row_goes : (nodes next : ℕ) (there : Bool) (node : Node) (command : Command) → Holding node → (node.up ≡ true → (entry : Entry) → In entry node.log → Before entry.optime (next_optime node))
    → PlanGoes node (row nodes next there node command)
row_goes nodes next there node (Command.Campaign number) ok last = plan_up (Goes node) node _ (still_goes node node (ok, refl)) (λ up. campaign_goes node ok next)
row_goes nodes next there node (Command.Drain number) ok last = plan_up (Goes node) node _ (still_goes node node (ok, refl)) (λ up. drain_goes node ok (last up))
row_goes nodes next there node (Command.Insert number collection document) ok last = plan_up (Goes node) node _ (still_goes node node (ok, refl)) (λ up. write_ends node ok (last up) (ops.Insert collection document))
row_goes nodes next there node (Command.Replace number collection id document) ok last = plan_up (Goes node) node _ (still_goes node node (ok, refl)) (λ up. write_ends node ok (last up) (ops.Replace collection id document))
row_goes nodes next there node (Command.Update number collection id operators) ok last = plan_up (Goes node) node _ (still_goes node node (ok, refl)) (λ up. write_ends node ok (last up) (ops.Update collection id operators))
row_goes nodes next there node (Command.Delete number collection id) ok last = plan_up (Goes node) node _ (still_goes node node (ok, refl)) (λ up. write_ends node ok (last up) (ops.Delete collection id))
row_goes nodes next there node (Command.Retry number session op) ok last = plan_up (Goes node) node _ (still_goes node node (ok, refl)) (λ up. retry_ends node ok (last up) session op)
row_goes nodes next there node (Command.Note number) ok last = plan_up (Goes node) node _ (still_goes node node (ok, refl)) (λ up. note_ends node ok (last up))
row_goes nodes next there node (Command.Begin number writer op) ok last = plan_up (Goes node) node _ (still_goes node node (ok, refl)) (λ up. begin_ends node ok (last up) writer op)
row_goes nodes next there node (Command.Commit number writer) ok last = plan_up (Goes node) node _ (still_goes node node (ok, refl)) (λ up. commit_ends node ok writer)
row_goes nodes next there node (Command.Abort number writer) ok last = plan_up (Goes node) node _ (still_goes node node (ok, refl)) (λ up. abort_ends node ok writer)
row_goes nodes next there node (Command.DryRun number) ok last = plan_up (Goes node) node _ (still_goes node node (ok, refl)) (λ up. dry_run_goes node ok next)
row_goes nodes next there node (Command.StepDown number) ok last = plan_up (Goes node) node _ (still_goes node node (ok, refl)) (λ up. step_down_ends node ok)
row_goes nodes next there node command ok last = other_row_goes nodes next there node command refl ok
