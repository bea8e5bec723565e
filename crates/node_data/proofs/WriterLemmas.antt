-- Writers by their numbers: a map of them that is put back, and one in which each open writer is lost.
use Rattle.std.proofs.Common.{◌≡◌, inl, inr, ℕ, Bool, true, false, cond, List, [], ◌∷◌, Option, None, Some, refl, sym, ap, ◌∙◌}
use Rattle.std.specs.Ordering.{nat_cmp}
use Rattle.std.specs.Cmp.{nat_cmp_total}
use Rattle.std.specs.BTreeMap.{is_at}
use Rattle.std.specs.FinMap.{entries, find, get, insert, remove, from_entries, get-entries, get-from_entries, same_map, nat_cmp-IsAntisymmetric}
use Rattle.std.specs.Option.{option_map}
use Rattle.set_model.specs.Changes.{all_lost, lost_writer}
use Rattle.set_model.specs.declared.writer.Writer.{Writer}
use Rattle.node_data.specs.Writers.{put_back, Writers}
use Rattle.node_data.proofs.MapLemmas.{same_or_apart, get-with-same, get-with-other, get-without-same, get-without-other}

-- a map put back to what it was is what it was
pub put_back-insert : (writers : Writers) (number : ℕ) (writer : Writer) (old : Option Writer) → old ≡ get writers number → put_back (insert writers number writer) number old ≡ writers
put_back-insert writers number writer old was = same_map nat_cmp_total nat_cmp-IsAntisymmetric _ _ (by_old old was)
  where
    by_old : (old : Option Writer) → old ≡ get writers number → (q : ℕ) → get (put_back (insert writers number writer) number old) q ≡ get writers q
    by_old None was q = elim (same_or_apart q number) [
      | inl same ↦ ap (get (remove (insert writers number writer) number)) same.0 ∙ get-without-same (insert writers number writer) number ∙ was ∙ ap (get writers) (sym same.0)
      | inr differ ↦ get-without-other (insert writers number writer) number q differ.0 ∙ get-with-other writers number q writer differ.0
    ]
    by_old (Some first) was q = elim (same_or_apart q number) [
      | inl same ↦ ap (get (insert (insert writers number writer) number first)) same.0 ∙ get-with-same (insert writers number writer) number first ∙ was ∙ ap (get writers) (sym same.0)
      | inr differ ↦ get-with-other (insert writers number writer) number q first differ.0 ∙ get-with-other writers number q writer differ.0
    ]

-- ---- each open writer is lost

lost_or : (b : Bool) (writer : Writer) (here there : Option Writer) → here ≡ option_map lost_writer there
    → cond b (Some (lost_writer writer)) here ≡ option_map lost_writer (cond b (Some writer) there)
lost_or true writer here there is = refl
lost_or false writer here there is = is

find-lost : (es : List (ℕ × Writer)) (number : ℕ) → find nat_cmp number (all_lost es) ≡ option_map lost_writer (find nat_cmp number es)
find-lost [] number = refl
find-lost (e ∷ es) number =
    lost_or (is_at (nat_cmp number) e.0) e.1 (find nat_cmp number (all_lost es)) (find nat_cmp number es) (find-lost es number)

pub writers_lost : (old new : List (ℕ × Writer)) (writers : Writers) → from_entries {R = nat_cmp} old ≡ writers → new ≡ all_lost old
    → from_entries {R = nat_cmp} new ≡ from_entries (all_lost (entries writers))
writers_lost old new writers same is =
    same_map nat_cmp_total nat_cmp-IsAntisymmetric _ _ (λ q.
    get-from_entries nat_cmp_total new q ∙ ap (find nat_cmp q) is ∙ find-lost old q
    ∙ ap (option_map lost_writer) (sym (get-from_entries nat_cmp_total old q) ∙ ap (λ (m : Writers). get m q) same ∙ get-entries writers q)
    ∙ sym (find-lost (entries writers) q) ∙ sym (get-from_entries nat_cmp_total (all_lost (entries writers)) q))
