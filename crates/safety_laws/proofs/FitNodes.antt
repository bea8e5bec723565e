-- A node whose log is fit: each prefix of it leaves documents that may be stored; and for a primary, what it
-- wrote in its term and what its writers have open may be in an oplog.
use Rattle.std.proofs.Common.{◌≡◌, ◌≢◌, ◌∙◌, ◌≤◌, ◌<◌, inl, inr, ap, sym, subst, refl, arith, ℕ, Bool, true, false, Option, None, Some, Result, Ok, Err, List}
use Rattle.std.specs.Prelude.{IfSome, IsSome}
use Rattle.std.specs.FinMap as maps
use Rattle.std.specs.Ordering.{nat_cmp}
use Rattle.std.proofs.lemmas.Option.{same_Some}
use Rattle.bson_doc.specs.Place.{Place}
use Rattle.bson_doc.specs.Tree.{Fields, found}
use Rattle.doc_update.proofs.StoredLemmas.{IsLogged, IsStored, write-logged}
use Rattle.doc_update.specs.Check.{checked}
use Rattle.doc_update.specs.Effect.{prepared}
use Rattle.doc_update.specs.declared.write.Prepared.{Prepared}
use Rattle.doc_update.specs.declared.write.Prepared.TheVariants as made
use Rattle.doc_update.specs.declared.write.WriteOp.{WriteOp}
use Rattle.doc_update.specs.Refusal.{Reason}
use Rattle.oplog_entry.specs.Docs.{docs}
use Rattle.oplog_entry.specs.Lawful.{IsLawfulOp, IsSession}
use Rattle.oplog_entry.specs.Step.{place_of, document_after, is_at}
use Rattle.oplog_entry.specs.declared.entry.Entry.{Entry}
use Rattle.oplog_entry.specs.declared.entry.Op.{Op}
use Rattle.oplog_entry.specs.declared.entry.Session.{Session}
use Rattle.oplog_store.specs.Log.{with_entry}
use Rattle.rs_optime.specs.declared.optime.OpTime.{OpTime}
use Rattle.rs_optime.specs.Membership.{In}
use Rattle.oplog_entry.proofs.PlaceLemmas.{is_at-only, is_at-other}
use Rattle.oplog_entry.proofs.LogLemmas.{with_in}
use Rattle.set_model.proofs.HoldLemmas.{held_by_none}
use Rattle.set_model.specs.Admitted.{admitted, or_refused, refusal_of, unless_held}
use Rattle.set_model.specs.Holds.{holder}
use Rattle.set_model.specs.Limits.{IsSoundWrite, collection_of, is_collection}
use Rattle.set_model.specs.Node.{Node}
use Rattle.set_model.specs.Points.{next_optime}
use Rattle.set_model.specs.Roles.{is_primary}
use Rattle.set_model.specs.declared.role.Role.{Role}
use Rattle.set_model.specs.declared.writer.Writer.{Writer}
use Rattle.set_model.specs.declared.writer.Writer.TheVariants.{Open}
use Rattle.commit_machine.specs.Words.{Rises}
use Rattle.set_model.proofs.EntrySizes.{IsWithin, short_within}
use Rattle.set_model.proofs.WriteLemmas.{short_name, sound_update}
use Rattle.set_model.proofs.SeenLemmas.{next_past}
use Rattle.set_model.proofs.SessionLemmas.{Ascends}
use Rattle.safety_laws.proofs.Rel.{HasLog}
use Rattle.safety_laws.proofs.Slots.{open_with}
use Rattle.safety_laws.proofs.Steps.{in_has}
use Rattle.safety_laws.proofs.StoredLogs.{AreStored, AreEarlier, doc_at, doc_docs, other_doc, stored_docs, stored_with}

-- ---- what is kept

-- a session whose numbers an oplog takes, of an op that touches a document
abbrev pub IsFitSession : Op → Option Session → Type 0
IsFitSession op session = IfSome session IsSession × IfSome session (λ _. IsSome (place_of op))

abbrev pub IsFitEntry : Entry → Type 0
IsFitEntry entry = IsLawfulOp entry.op × IsWithin entry × IsFitSession entry.op entry.session

-- An op that may be written at this optime: the entry is fit, and it is the newest of its document, which then may be stored.
pub record IsReady (log : List Entry) (at : OpTime) (op : Op) (session : Option Session) : Type 0 where
  pub fit : IsFitEntry (record { optime = at; op = op; session = session })
  pub newest : (place : Place) → is_at (place_of op) place ≡ true → IsStored place (document_after op (doc_at place log)) × AreEarlier place at.ts log

-- no writer of these touches the document of an op
abbrev pub IsFree : maps.FinMap nat_cmp Writer → Op → Type 0
IsFree writers op = (number : ℕ) (at : OpTime) (other : Op) → maps.get writers number ≡ Some (Open at other) → (place : Place) → place_of op ≡ Some place → place_of other ≢ Some place

pub record AreReady (term : ℕ) (log : List Entry) (writers : maps.FinMap nat_cmp Writer) : Type 0 where
  pub own : (entry : Entry) → In entry log → entry.optime.term ≡ term → IsFitEntry entry
  pub open_ops : (number : ℕ) (at : OpTime) (op : Op) → maps.get writers number ≡ Some (Open at op) → IsReady log at op None
  -- no two open writers have one document
  pub alone :
      (one two : ℕ) (at by : OpTime) (op other : Op) (place : Place) → maps.get writers one ≡ Some (Open at op) → maps.get writers two ≡ Some (Open by other)
      → place_of op ≡ Some place → place_of other ≡ Some place → one ≡ two

-- a node, as far as this goes
pub record Standing : Type 0 where
  pub up : Bool
  pub role : Role
  pub term : ℕ
  pub log : List Entry
  pub writers : maps.FinMap nat_cmp Writer

abbrev pub standing_of : Node → Standing
standing_of node = record { up = node.up; role = node.role; term = node.term; log = node.log; writers = node.writers }

pub record IsFit (standing : Standing) : Type 0 where
  pub stored : AreStored standing.log
  pub ascends : Ascends standing.log
  pub ready : is_primary standing.role ≡ true → AreReady standing.term standing.log standing.writers

-- of a node that isn't primary the log is all
pub follower_fit : (standing : Standing) → is_primary standing.role ≡ false → AreStored standing.log → Ascends standing.log → IsFit standing
follower_fit standing none stored ascends = record { stored = stored; ascends = ascends; ready = λ is. absurd (cc (is, none)) }

-- ---- writers come and go

pub fewer_ready : (term : ℕ) (log : List Entry) (writers fewer : maps.FinMap nat_cmp Writer) → AreReady term log writers
    → ((number : ℕ) (at : OpTime) (op : Op) → maps.get fewer number ≡ Some (Open at op) → maps.get writers number ≡ Some (Open at op)) → AreReady term log fewer
fewer_ready term log writers fewer ready were = record {
  own = ready.own;
  open_ops = λ number at op is. ready.open_ops number at op (were number at op is);
  alone = λ one two at by op other place is is_too. ready.alone one two at by op other place (were one at op is) (were two by other is_too);
}

opened_is : (at by : OpTime) (op other : Op) → Open at op ≡ Open by other → (at ≡ by) × (op ≡ other)
opened_is at by op other same = (cc same, cc same)

pub opened_ready : (term : ℕ) (log : List Entry) (writers : maps.FinMap nat_cmp Writer) (number : ℕ) (at : OpTime) (op : Op) → AreReady term log writers → IsReady log at op None → IsFree writers op
    → AreReady term log (maps.insert writers number (Open at op))
opened_ready term log writers number at op ready new free = record {
  own = ready.own;
  open_ops = λ n by other is. elim (open_with writers number n (Open at op) by other is) [
    | inl same ↦
        let both : (at ≡ by) × (op ≡ other) = opened_is at by op other same.1 in
        subst (λ o. IsReady log by o None) both.1 (subst (λ a. IsReady log a op None) both.0 new)
    | inr before ↦ ready.open_ops n by other before.1
  ];
  alone = λ one two first second op_one op_two place is is_too touches touches_too.
      elim (open_with writers number one (Open at op) first op_one is) [
        | inl new_one ↦ elim (open_with writers number two (Open at op) second op_two is_too) [
          | inl new_two ↦ new_one.0 ∙ sym new_two.0
          | inr old_two ↦ absurd (free two second op_two old_two.1 place (ap place_of (opened_is at first op op_one new_one.1).1 ∙ touches) touches_too)
        ]
        | inr old_one ↦ elim (open_with writers number two (Open at op) second op_two is_too) [
          | inl new_two ↦ absurd (free one first op_one old_one.1 place (ap place_of (opened_is at second op op_two new_two.1).1 ∙ touches_too) touches)
          | inr old_two ↦ ready.alone one two first second op_one op_two place old_one.1 old_two.1 touches touches_too
        ]
      ];
}

-- an entry is written that was ready, and no open writer touches its document
pub written_ready : (term : ℕ) (log : List Entry) (writers : maps.FinMap nat_cmp Writer) (at : OpTime) (op : Op) (session : Option Session) → Rises log → AreStored log → AreReady term log writers → IsReady log at op session → IsFree writers op
    → AreStored (with_entry log (record { optime = at; op = op; session = session })) × AreReady term (with_entry log (record { optime = at; op = op; session = session })) writers
written_ready term log writers at op session rises stored ready new free = (
  stored_with log entry rises stored new.newest,
  record {
    own = λ other there is. elim (with_in log entry other there) [
      | inl before ↦ ready.own other before is
      | inr same ↦ subst (λ (e : Entry). IsFitEntry e) same new.fit
    ];
    open_ops = λ number by other is. record { fit = (ready.open_ops number by other is).fit; newest = λ place here. still number by other is place here };
    alone = ready.alone;
  },
)
  where
    entry : Entry
    entry = record { optime = at; op = op; session = session }

    still : (number : ℕ) (by : OpTime) (other : Op) → maps.get writers number ≡ Some (Open by other) → (place : Place) → is_at (place_of other) place ≡ true
        → IsStored place (document_after other (doc_at place (with_entry log (record { optime = at; op = op; session = session })))) × AreEarlier place by.ts (with_entry log (record { optime = at; op = op; session = session }))
    still number by other is place here = (
      subst (λ d. IsStored place (document_after other d)) (sym (other_doc place entry apart None log)) old.0,
      λ e there touches. elim (with_in log entry e there) [
        | inl before ↦ old.1 e before touches
        | inr same ↦ absurd (cc (ap (λ (x : Entry). is_at (place_of x.op) place) same ∙ touches, apart))
      ],
    )
      where
        apart : is_at (place_of op) place ≡ false
        apart = is_at-other (place_of op) place (λ same. free number by other is place same (is_at-only (place_of other) place here))

        old : IsStored place (document_after other (doc_at place log)) × AreEarlier place by.ts log
        old = (ready.open_ops number by other is).newest place here

-- ---- the effect of a write

abbrev pub IsAdmitted : Node → Op → Option Session → Type 0
IsAdmitted node op session = IsReady node.log (next_optime node) op session × IsFree node.writers op

-- what is a write of a session touches a document
of_place : (op : Op) (place : Place) (session : Option Session) → place_of op ≡ Some place → IfSome session (λ _. IsSome (place_of op))
of_place op place None at = tt
of_place op place (Some session) at = subst (λ (p : Option Place). IsSome p) (sym at) refl

-- what a write logs is ready, and no open writer has its document
pub admitted_ready : (node : Node) (session : Option Session) (op : WriteOp) (logged : Op) (after : Option Fields) → HasLog node → AreStored node.log → IsSoundWrite op → is_collection (collection_of op) ≡ true → IfSome session IsSession
    → admitted node op ≡ Ok (made.Entry logged after) → IsAdmitted node logged session
admitted_ready node session op logged after log stored sound name numbered does = by_place (checked op) refl
  where
    with_place : (place : Place) → checked op ≡ Ok place → (held : Option ℕ) → holder node place ≡ held → (found : Result Prepared Reason) → prepared op (maps.get (docs node.log) place) ≡ found
        → unless_held held (or_refused found) ≡ Ok (made.Entry logged after) → IsAdmitted node logged session
    with_place place is (Some writer) held found found_is does = cc does
    with_place place is None free (Err why) found_is does = cc does
    with_place place is None free (Ok effect) found_is does = (
      record {
        fit = (known.lawful, short_within (next_optime node) logged session place known.at (short_name op place is name) known.short, (numbered, of_place logged place session known.at));
        newest = λ p here. (
          subst (λ q. IsStored q (document_after logged (doc_at q node.log))) (sym (only p (is_at-only (place_of logged) p here)))
              (subst (λ d. IsStored place (document_after logged d)) (sym (doc_docs place node.log)) known.stored),
          λ other there touches.
              let seen : other.optime.ts ≤ node.seen = log.seen other.optime (in_has other node.log there) in
              let later : node.seen < (next_optime node).ts = next_past node in
              omega (arith, seen, later),
        );
      },
      λ number by other is_open p touches touches_too. held_by_none node.writers place free number by other is_open (subst (λ q. place_of other ≡ Some q) (only p touches) touches_too),
    )
      where
        is_made : effect ≡ made.Entry logged after
        is_made = cc does

        known : IsLogged place (maps.get (docs node.log) place) logged
        known = write-logged op (maps.get (docs node.log) place) place logged after (sound_update op sound) (stored_docs node.log stored place) is (found_is ∙ ap (λ e. Ok e) is_made)

        only : (p : Place) → place_of logged ≡ Some p → p ≡ place
        only p touches = same_Some p place (sym touches ∙ known.at)

    by_place : (found : Result Place Reason) → checked op ≡ found → IsAdmitted node logged session
    by_place (Err why) is =
        let refused : admitted node op ≡ Err (refusal_of why) = rw is refl in
        cc (refused, does)
    by_place (Ok place) is =
        let goes : admitted node op ≡ unless_held (holder node place) (or_refused (prepared op (maps.get (docs node.log) place))) = rw is refl in
        with_place place is (holder node place) refl (prepared op (maps.get (docs node.log) place)) refl (sym goes ∙ does)
