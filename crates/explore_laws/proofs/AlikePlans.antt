-- What a plan comes to at two nodes that differ in their records, which come to the same, and in votes that don't
-- count.
use Rattle.std.proofs.Common.{◌≡◌, ◌∙◌, ◌<◌, inl, inr, arith, ap, sym, subst, refl, ℕ, Bool, true, false, Option, None, Some, if◌then◌else◌, List, [], ◌∷◌, ◌++◌}
use Rattle.repl_msg.specs.Kept.{kept, with_record}
use Rattle.repl_msg.specs.declared.message.Message.{Message}
use Rattle.repl_msg.specs.declared.record.Kept.{Kept}
use Rattle.repl_msg.specs.declared.record.Record.{Record}
use Rattle.repl_msg.specs.declared.record.Record.TheVariants as records
use Rattle.repl_msg.proofs.KeptLemmas.{kept_more}
use Rattle.vote_store.specs.declared.vote.Vote.{Vote}
use Rattle.set_model.specs.declared.reply.Ignored.{Ignored}
use Rattle.set_model.specs.declared.reply.Refusal.{Refusal}
use Rattle.set_model.specs.declared.reply.Refusal.TheVariants.{NotPrimary}
use Rattle.set_model.specs.declared.reply.Reply.{Reply}
use Rattle.set_model.specs.declared.reply.Reply.TheVariants as reply
use Rattle.set_model.specs.declared.role.Role.{Role}
use Rattle.set_model.specs.declared.role.Role.TheVariants as roles
use Rattle.set_model.specs.Node.{Node}
use Rattle.set_model.specs.Outcome.{Outcome, replied, refused, ignored}
use Rattle.set_model.specs.Points.{if_primary}
use Rattle.set_model.specs.Roles.{is_candidate, is_draining}
use Rattle.set_model.specs.Stores.{Plan, unless_refused, if_up}
use Rattle.explore_laws.specs.Alike.{AlikeReplies, ComeToOne}
use Rattle.explore_laws.specs.Dead.{term_of}
use Rattle.explore_laws.specs.Settled.{IsSettled}
use Rattle.explore_laws.specs.Steps.{GoAlike, PlansGoAlike, RoleStays, Rises, RisesFrom}

-- ---- terms and roles

pub same_role : (role : Role) → RoleStays role role
same_role role = record { secondary = λ is. is; candidate = λ is. is }

pub to_secondary : (role : Role) → RoleStays role roles.Secondary
to_secondary role = record { secondary = λ is. refl; candidate = λ is. refl }

-- a candidate that has won
pub to_draining : (role : Role) → is_candidate role ≡ true → RoleStays role roles.Draining
to_draining roles.Secondary is = absurd (cc is)
to_draining roles.Candidate is = record { secondary = λ secondary. absurd (cc secondary); candidate = λ other. refl }
to_draining roles.Draining is = absurd (cc is)
to_draining roles.Primary is = absurd (cc is)

pub to_primary : (role : Role) → is_draining role ≡ true → RoleStays role roles.Primary
to_primary roles.Secondary is = absurd (cc is)
to_primary roles.Candidate is = absurd (cc is)
to_primary roles.Draining is = record { secondary = λ secondary. absurd (cc secondary); candidate = λ other. refl }
to_primary roles.Primary is = absurd (cc is)

stays_on : (one two three : Role) → RoleStays one two → RoleStays two three → RoleStays one three
stays_on one two three first second = record {
  secondary = λ is. second.secondary (first.secondary is);
  candidate = λ is. second.candidate (first.candidate is);
}

pub rises_on : (one two three : Node) → Rises one two → Rises two three → Rises one three
rises_on one two three (inl less) (inl more) = inl (omega (arith, less, more))
rises_on one two three (inl less) (inr level) = inl (subst (λ t. term_of one < t) level.0 less)
rises_on one two three (inr level) (inl more) = inl (subst (λ t. t < term_of three) (sym level.0) more)
rises_on one two three (inr level) (inr again) = inr (level.0 ∙ again.0, stays_on one.role two.role three.role level.1 again.1)

-- from a node that rose
pub goes_from : (old start : Node) (one two : Outcome) → Rises old start → GoAlike start one two → GoAlike old one two
goes_from old start one two rises go = record {
  nodes = go.nodes;
  replies = go.replies;
  sent = go.sent;
  rises = rises_on old start one.node rises go.rises;
  settled = go.settled;
}

pub term_up : (node : Node) → node.up ≡ true → node.term ≡ term_of node
term_up node up = ap (λ b. if b then node.term else (kept node.records).vote.term) (sym up)

pub term_down : (node : Node) → node.up ≡ false → (kept node.records).vote.term ≡ term_of node
term_down node down = ap (λ b. if b then node.term else (kept node.records).vote.term) (sym down)

-- ---- records

with_one : (one two : Kept) (item : Record) → ComeToOne one two → ComeToOne (with_record one item) (with_record two item)
with_one one two (records.Vote vote) same = record { vote = refl; config = same.config; entries = same.entries; point = same.point }
with_one one two (records.Config config) same = record { vote = same.vote; config = refl; entries = same.entries; point = same.point }
with_one one two (records.Entries list point) same = record {
  vote = same.vote;
  config = same.config;
  entries = ap (λ l. (with_record (record one { entries = l }) (records.Entries list point)).entries) same.entries;
  point = refl;
}
with_one one two (records.Cut at) same = record {
  vote = same.vote;
  config = same.config;
  entries = ap (λ l. (with_record (record one { entries = l }) (records.Cut at)).entries) same.entries;
  point = ap (λ p. (with_record (record one { point = p }) (records.Cut at)).point) same.point;
}
with_one one two (records.Form form) same = record { vote = same.vote; config = same.config; entries = same.entries; point = same.point }

-- with one record more they come to the same
pub come_more : (one two : List Record) (item : Record) → ComeToOne (kept one) (kept two) → ComeToOne (kept (one ++ item ∷ [])) (kept (two ++ item ∷ []))
come_more one two item same = rw (kept_more one item, kept_more two item) (with_one (kept one) (kept two) item same)

-- the record keeps no vote
abbrev pub KeepsVote : Record → Type 0
KeepsVote item = (before : Kept) → (with_record before item).vote ≡ before.vote

-- ---- plans

module _ (node : Node) (other : List Record) (votes : List ℕ) (same : ComeToOne (kept node.records) (kept other)) (counts : is_candidate node.role ≡ true → node.tally ≡ votes) (settled : IsSettled node) where
  abbrev pub twin : Node
  twin = record node { records = other; tally = votes }

  pub if_goes : (test : Bool) (one two three four : Plan) → (test ≡ true → PlansGoAlike node one three) → (test ≡ false → PlansGoAlike node two four)
      → PlansGoAlike node (if test then one else two) (if test then three else four)
  if_goes true one two three four if_true if_false = if_true refl
  if_goes false one two three four if_true if_false = if_false refl

  pub ends_if : (test : Bool) (one two three four : Outcome) → (test ≡ true → GoAlike node one three) → (test ≡ false → GoAlike node two four)
      → GoAlike node (if test then one else two) (if test then three else four)
  ends_if true one two three four if_true if_false = if_true refl
  ends_if false one two three four if_true if_false = if_false refl

  -- nothing changes
  pub still : (one two : Reply) → AlikeReplies one two → GoAlike node (replied one node) (replied two twin)
  still one two alike = record {
    nodes = record { others = refl; records = same; tally = counts };
    replies = alike;
    sent = refl;
    rises = inr (refl, same_role node.role);
    settled = settled;
  }

  pub refusal : (why : Refusal) → GoAlike node (refused why node) (refused why twin)
  refusal why = still (reply.Refused why) (reply.Refused why) refl

  pub ignoring : (why : Ignored) → GoAlike node (ignored why node) (ignored why twin)
  ignoring why = still (reply.Ignored why) (reply.Ignored why) refl

  pub unless_goes : (why : Option Refusal) (one two : Plan) → PlansGoAlike node one two → PlansGoAlike node (unless_refused why node one) (unless_refused why twin two)
  unless_goes (Some why) one two go = refusal why
  unless_goes None one two go = go

  pub up_goes : (one two : Plan) → (node.up ≡ true → PlansGoAlike node one two) → PlansGoAlike node (if_up node one) (if_up twin two)
  up_goes one two go = if_goes node.up one _ two _ go (λ is. refusal _)

  pub primary_goes : (one two : Outcome) → GoAlike node one two → GoAlike node (if_primary node.role one (refused NotPrimary node)) (if_primary node.role two (refused NotPrimary twin))
  primary_goes one two go = by node.role
    where
      by : (role : Role) → GoAlike node (if_primary role one (refused NotPrimary node)) (if_primary role two (refused NotPrimary twin))
      by roles.Primary = go
      by roles.Secondary = refusal NotPrimary
      by roles.Candidate = refusal NotPrimary
      by roles.Draining = refusal NotPrimary

  -- a node that has the same, but for what has nothing to do with it
  pub changed : (new : Node) (tally : List ℕ) (one two : Reply) (sent : List Message) → AlikeReplies one two
      → new.up ≡ node.up → new.doubt ≡ node.doubt → new.term ≡ node.term → new.records ≡ node.records → RoleStays node.role new.role → (is_candidate new.role ≡ true → new.tally ≡ tally)
      → GoAlike node (record { reply = one; node = new; sent = sent }) (record { reply = two; node = record new { records = other; tally = tally }; sent = sent })
  changed new tally one two sent alike up doubt term items role counted = record {
    nodes = record { others = refl; records = subst (λ (l : List Record). ComeToOne (kept l) (kept other)) (sym items) same; tally = counted };
    replies = alike;
    sent = refl;
    rises = inr (same_term, role);
    settled = record {
      doubt = doubt ∙ settled.doubt;
      term = λ is. ap (λ (l : List Record). (kept l).vote.term) items ∙ settled.term (sym up ∙ is) ∙ sym term;
    };
  }
    where
      same_term : term_of node ≡ term_of new
      same_term = ap (λ b. if b then node.term else (kept node.records).vote.term) (sym up)
          ∙ ap (λ t. if new.up then t else (kept node.records).vote.term) (sym term)
          ∙ ap (λ (l : List Record). if new.up then new.term else (kept l).vote.term) (sym items)

  module _ (up : node.up ≡ true) where
    -- a node that is still up, with one record more
    stored_goes : (item : Record) (new : Node) (tally : List ℕ) (one two : Reply) (sent : List Message) → AlikeReplies one two
        → new.up ≡ node.up → new.doubt ≡ node.doubt → new.records ≡ node.records ++ item ∷ []
        → (with_record (kept node.records) item).vote.term ≡ new.term → RisesFrom node.term node.role new.term new.role → (is_candidate new.role ≡ true → new.tally ≡ tally)
        → GoAlike node (record { reply = one; node = new; sent = sent }) (record { reply = two; node = record new { records = other ++ item ∷ []; tally = tally }; sent = sent })
    stored_goes item new tally one two sent alike is_up doubt items term rises counted = record {
      nodes = record { others = refl; records = subst (λ (l : List Record). ComeToOne (kept l) (kept (other ++ item ∷ []))) (sym items) (come_more node.records other item same); tally = counted };
      replies = alike;
      sent = refl;
      rises = subst (λ t. RisesFrom t node.role (term_of new) new.role) (term_up node up)
          (subst (λ t. RisesFrom node.term node.role t new.role) (term_up new (is_up ∙ up)) rises);
      settled = record {
        doubt = doubt ∙ settled.doubt;
        term = λ is. ap (λ (l : List Record). (kept l).vote.term) items ∙ ap (λ (k : Kept). k.vote.term) (kept_more node.records item) ∙ term;
      };
    }

    -- a record that is no vote, at a node in the same term
    pub kept_goes : (item : Record) → KeepsVote item → (new : Node) (tally : List ℕ) (one two : Reply) (sent : List Message) → AlikeReplies one two
        → new.up ≡ node.up → new.doubt ≡ node.doubt → new.records ≡ node.records ++ item ∷ [] → new.term ≡ node.term → RoleStays node.role new.role → (is_candidate new.role ≡ true → new.tally ≡ tally)
        → GoAlike node (record { reply = one; node = new; sent = sent }) (record { reply = two; node = record new { records = other ++ item ∷ []; tally = tally }; sent = sent })
    kept_goes item keeps new tally one two sent alike is_up doubt items term role counted =
        stored_goes item new tally one two sent alike is_up doubt items
        (ap (λ (v : Vote). v.term) (keeps (kept node.records)) ∙ settled.term up ∙ sym term) (inr (sym term, role)) counted

    -- a vote, at a node in the term that it is for
    pub vote_goes : (vote : Vote) (new : Node) (tally : List ℕ) (one two : Reply) (sent : List Message) → AlikeReplies one two
        → new.up ≡ node.up → new.doubt ≡ node.doubt → new.records ≡ node.records ++ records.Vote vote ∷ [] → vote.term ≡ new.term → RisesFrom node.term node.role new.term new.role → (is_candidate new.role ≡ true → new.tally ≡ tally)
        → GoAlike node (record { reply = one; node = new; sent = sent }) (record { reply = two; node = record new { records = other ++ records.Vote vote ∷ []; tally = tally }; sent = sent })
    vote_goes vote = stored_goes (records.Vote vote)
