use Rattle.std.proofs.Common.{◌≡◌, List, ℕ, ◌+◌, ◌-◌, ◌%◌, Bool, false, take, inl, inr, refl, sym, ◌∙◌, ap, subst, arith}
use Rattle.std.specs.Prelude.{◌&&◌, ◌||◌, nat_le, nat_lt, if◌then◌else◌, slice_index, slice_index_or}
use Rattle.rs_disk.specs.File.{File, settled, overwritten}
use Rattle.rs_disk.specs.Pages.{Holds, IsWithin}
use Rattle.rs_disk.specs.Picks.{picked}
use Rattle.rs_disk.specs.declared.pages.Pages.{Pages}
use Rattle.rs_disk.proofs.PageLemmas.{left_synced, left_within, restored_length, left_filled, other_pick}
use Rattle.rs_disk.proofs.pages.Pages.lose.Goals as goal
use Rattle.rs_disk.proofs.pages.Pages.lose.Goals.{in-0, in-1, in_default}

pub settle-requires : goal.settle-requires
settle-requires c = elim c.match-pick.branch [
  | in-0 w ↦ subst IsWithin (sym w.self-is)
      (left_within c.args.self.now _ c.requires.1.within
      (restored_length c.args.self.now c.requires.1.within w.overwrite.new.list.items (w.overwrite.ensures.items ∙ ap (λ (l : List ℕ). overwritten c.args.self.now.first l c.args.self.now.now.items) w.deref.ensures.value))
      w.overwrite.ensures.capacity refl refl refl refl refl (inr refl))
  | in-1 w ↦ subst IsWithin (sym w.self-is) c.requires.1.within
  | in_default w ↦ subst IsWithin (sym w.self-is)
      (left_within c.args.self.now _ c.requires.1.within (omega (arith, w.fill_open.ensures.len)) w.fill_open.ensures.capacity refl refl refl refl refl (inl refl))
]

left : (c : goal.After-settle) (file : File) → Holds c.args.self.now file → take c.match-pick.self.end c.match-pick.self.now.items ≡ picked c.args.pick file
left c file holds = elim c.match-pick.branch [
  | in-0 w ↦ ap (λ (p : Pages). take p.end p.now.items) w.self-is
      ∙ left_synced c.args.self.now file holds w.overwrite.new.list.items (w.overwrite.ensures.items ∙ ap (λ (l : List ℕ). overwritten c.args.self.now.first l c.args.self.now.now.items) w.deref.ensures.value)
      ∙ ap (λ (n : ℕ). picked n file) (sym w.in-0.is)
  | in-1 w ↦ ap (λ (p : Pages). take p.end p.now.items) w.self-is ∙ holds.contents ∙ ap (λ (n : ℕ). picked n file) (sym w.in-1.is)
  | in_default w ↦ ap (λ (p : Pages). take p.end p.now.items) w.self-is
      ∙ left_filled c.args.self.now file c.args.pick holds w.fill_open.new.bytes.items (omega (arith, w.fill_open.ensures.len))
      (λ k. w.fill_open.ensures.bytes k ∙ ap (λ (l : List Bool). if nat_le c.args.self.now.first k && nat_lt k c.args.self.now.end && (nat_le c.args.self.now.least k || slice_index_or l (k - c.args.self.now.first) false) then (c.args.pick + k) % 256 else slice_index c.args.self.now.now.items k) w.deref-in_default.ensures.value)
      ∙ sym (other_pick c.args.pick file (omega arith) (omega arith))
]

pub returns-clause-file : goal.returns-clause-file
returns-clause-file c = λ file holds. subst (λ (bytes : List ℕ). Holds c.settle.new.self (settled bytes)) (left c file holds) c.settle.ensures.file
