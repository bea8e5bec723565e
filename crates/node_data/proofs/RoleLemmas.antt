-- The documents stay those of the log when it is opened to writers.
use Rattle.std.proofs.Common.{◌≡◌, ◌∙◌, ℕ, false, not, List, [], None, Some, refl, sym, ap, subst, arith}
use Rattle.std.specs.FinMap as maps
use Rattle.std.specs.FinSet as sets
use Rattle.std.specs.Ordering.{nat_cmp}
use Rattle.bson_doc.specs.Place.{Place, place_cmp}
use Rattle.rs_optime.specs.Order.{is_before, optime_cmp}
use Rattle.oplog_entry.specs.Visible.{ZERO, last_of, visible, log_up_to}
use Rattle.oplog_entry.specs.declared.entry.Entry.{Entry}
use Rattle.version_store.specs.Past.{Past, no_past}
use Rattle.version_store.specs.Store.{Store, past_at, versions_at}
use Rattle.set_model.specs.declared.role.Role.{Role}
use Rattle.set_model.specs.declared.role.Role.TheVariants.{Secondary, Candidate, Draining, Primary}
use Rattle.set_model.specs.declared.writer.Writer.TheVariants.{Open}
use Rattle.set_model.specs.Node.{Node}
use Rattle.set_model.specs.Points.{if_primary, last_point, visible_point}
use Rattle.set_model.specs.Roles.{is_primary}
use Rattle.visibility_point.proofs.Least.{none_listed, items_again}
use Rattle.node_data.specs.Kept.{AreApart, IsKept, IsHolder, is_held_by}
use Rattle.node_data.specs.NodeData.{data_node}
use Rattle.node_data.specs.Sound.{IsIdle}
use Rattle.node_data.specs.Versions.{HasVersions}
use Rattle.node_data.specs.Writers.{IsWriting}
use Rattle.node_data.proofs.LogLemmas.{up_to-last}

-- what is told of two roles, neither of them primary
pub if_other : {A : Type 0} → (one two : Role) (a b c : A) → is_primary one ≡ false → is_primary two ≡ false → if_primary one a b ≡ if_primary two c b
if_other Secondary Secondary a b c x y = refl
if_other Secondary Candidate a b c x y = refl
if_other Secondary Draining a b c x y = refl
if_other Candidate Secondary a b c x y = refl
if_other Candidate Candidate a b c x y = refl
if_other Candidate Draining a b c x y = refl
if_other Draining Secondary a b c x y = refl
if_other Draining Candidate a b c x y = refl
if_other Draining Draining a b c x y = refl
if_other Primary two a b c x y = cc x
if_other Secondary Primary a b c x y = cc y
if_other Candidate Primary a b c x y = cc y
if_other Draining Primary a b c x y = cc y

-- where no writer is open, none shares a slot
pub apart_idle : (node : Node) → ((writer : ℕ) → ¬ IsWriting node.writers writer) → AreApart node
apart_idle node closed = record {
  pending = λ v by other opens. absurd (closed v (by, other, opens));
  order = λ one two a b x y first second times. absurd (closed one (a, x, first));
  apart = λ one two a b x y first second times. absurd (closed one (a, x, first));
  alone = λ one two a b x y first second places. absurd (closed one (a, x, first));
}

-- a node without slots shows its whole log
visible-idle : (log : List Entry) (slots : sets.FinSet optime_cmp) → slots ≡ sets.empty → visible log (sets.items slots) ≡ last_of log
visible-idle log slots none = ap (λ xs. visible log xs) (none_listed (sets.items slots) (items_again slots ∙ none))

pub kept_primary : (node : Node) (store : Store) → IsKept node store → is_primary node.role ≡ false → node.applied ≡ last_point node → IsKept (record node { role = Primary }) store
kept_primary node store kept was applied =
    let idle : IsIdle node = kept.sound.idle was in
    record {
      sound = record {
        oplog = kept.sound.oplog;
        entries = kept.sound.entries;
        documents = kept.sound.documents;
        marked = kept.sound.marked;
        idle = λ not. cc not;
        applied = kept.sound.applied;
        stable = ap (λ p. is_before p node.stable) (visible-idle node.log node.slots idle.slots ∙ sym applied ∙ sym (if_other node.role Secondary (visible_point node) node.applied (visible_point node) was refl)) ∙ kept.sound.stable;
      };
      writers = apart_idle (record node { role = Primary }) idle.writers;
      versions = λ p. subst (λ log. HasVersions p node.stable log (versions_at store p))
          (if_other node.role Secondary node.log (log_up_to node.applied node.log) node.log was refl ∙ ap (λ o. log_up_to o node.log) applied ∙ up_to-last node.log kept.sound.oplog.order) (kept.versions p);
      holders = kept.holders;
      shards = kept.shards;
    }

-- ---- data as the set begins

pub kept_new : (store : Store) → store.count ≡ 64 → ((p : Place) → past_at store p ≡ no_past) → IsKept (data_node false [] sets.empty maps.empty 0 ZERO ZERO) store
kept_new store shards none = record {
  sound = record {
    oplog = record { order = λ i j d less within. absurd (omega arith); lawful = λ k d within. absurd (omega arith) };
    entries = λ k d within. absurd (omega arith);
    documents = λ place k d within. absurd (omega arith);
    marked = λ k d within. absurd (omega arith);
    idle = λ not. record { slots = refl; writers = closed };
    applied = refl;
    stable = refl;
  };
  writers = apart_idle (data_node false [] sets.empty maps.empty 0 ZERO ZERO) closed;
  versions = λ p. record { base = []; is = ap (λ (past : Past). past.versions) (none p); early = λ k d within. absurd (omega arith); shows = sym (maps.get-empty place_cmp p) };
  holders = λ p. subst (λ h. IsHolder maps.empty p h) (sym (ap (λ (past : Past). past.holder) (none p))) (λ w. ap (λ v. is_held_by v p) (maps.get-empty nat_cmp w));
  shards = shards;
}
  where
    closed : (writer : ℕ) → ¬ IsWriting maps.empty writer
    closed writer writing =
        let here : None ≡ Some (Open writing.0 writing.1) = sym (maps.get-empty nat_cmp writer) ∙ writing.2 in
        cc
