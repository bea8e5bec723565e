-- Writers that were lost hold no slot.
use Rattle.std.proofs.Common.{◌≡◌, ◌∙◌, sym, Bool, true, false, cond, Some, List, [], ◌∷◌, ℕ}
use Rattle.std.specs.Cmp.{nat_cmp_total}
use Rattle.std.specs.FinMap as maps
use Rattle.std.specs.Ordering.{eq_by_cmp, nat_cmp}
use Rattle.rs_optime.specs.declared.optime.OpTime.{OpTime}
use Rattle.oplog_entry.specs.declared.entry.Op.{Op}
use Rattle.set_model.specs.declared.writer.Writer.{Writer}
use Rattle.set_model.specs.declared.writer.Writer.TheVariants.{Open, Done, Lost}
use Rattle.set_model.specs.Changes.{all_lost, lost_writer}

lost_apart : (writer : Writer) (at : OpTime) (op : Op) → lost_writer writer ≡ Open at op → ⊥
lost_apart (Open before op) at other is = cc is
lost_apart (Done before) at other is = cc is
lost_apart (Lost term) at other is = cc is

pub none_open : (entries : List (ℕ × Writer)) (number : ℕ) (at : OpTime) (op : Op) → maps.get (maps.from_entries {R = nat_cmp} (all_lost entries)) number ≡ Some (Open at op) → ⊥
none_open [] number at op is = cc (is, maps.get-empty {X = Writer} nat_cmp number)
none_open (entry ∷ entries) number at op is =
    go (eq_by_cmp nat_cmp number entry.0) (none_open entries number at op)
    (sym (maps.get-insert nat_cmp_total (maps.from_entries {R = nat_cmp} (all_lost entries)) entry.0 (lost_writer entry.1) number) ∙ is)
  where
    go : (b : Bool) → (maps.get (maps.from_entries {R = nat_cmp} (all_lost entries)) number ≡ Some (Open at op) → ⊥)
        → cond b (Some (lost_writer entry.1)) (maps.get (maps.from_entries {R = nat_cmp} (all_lost entries)) number) ≡ Some (Open at op) → ⊥
    go true rest same = lost_apart entry.1 at op (let own : lost_writer entry.1 ≡ Open at op = cc same in own)
    go false rest same = rest same
