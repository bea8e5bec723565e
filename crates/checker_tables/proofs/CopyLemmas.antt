-- Writers copied one after another, from the last one to the first.
use Rattle.std.proofs.Common.{◌≡◌, ◌∙◌, ◌++◌, ◌∷◌, [], ap, sym, append_assoc, append-nil, List, ℕ}
use Rattle.std.specs.FinMap as maps
use Rattle.std.specs.Ordering.{nat_cmp}
use Rattle.set_model.specs.declared.writer.Writer.{Writer}

abbrev pub Writers : Type 0
Writers = maps.FinMap nat_cmp Writer

-- the copies are the writers after those that are left
pub record CopiedSoFar (whole rest : List (ℕ × Writer)) (copies : Writers) : Type 0 where
  pub back : List (ℕ × Writer)
  pub split : whole ≡ rest ++ back
  pub made : copies ≡ maps.from_entries back

pub none_copied : (whole : List (ℕ × Writer)) (copies : Writers) → copies ≡ maps.empty → CopiedSoFar whole whole copies
none_copied whole copies none = record { back = []; split = sym (append-nil whole); made = none }

pub copied_more : (whole rest left : List (ℕ × Writer)) (copies new : Writers) (number : ℕ) (writer : Writer) → rest ≡ left ++ (number, writer) ∷ []
    → new ≡ maps.insert copies number writer → CopiedSoFar whole rest copies → CopiedSoFar whole left new
copied_more whole rest left copies new number writer last is so = record {
  back = (number, writer) ∷ so.back;
  split = so.split ∙ ap (λ l. l ++ so.back) last ∙ append_assoc left ((number, writer) ∷ []) so.back;
  made = is ∙ ap (λ m. maps.insert m number writer) so.made;
}

pub all_copied : (whole rest : List (ℕ × Writer)) (copies : Writers) → CopiedSoFar whole rest copies → rest ≡ [] → copies ≡ maps.from_entries whole
all_copied whole rest copies so none =
    so.made ∙ ap maps.from_entries (sym (so.split ∙ ap (λ l. l ++ so.back) none))
