-- Rows of numbers, with one row more.
use Rattle.std.proofs.Common.{◌≡◌, ◌∙◌, ◌<◌, ◌≤◌, ◌+◌, ◌-◌, ◌*◌, ◌^◌, ap, subst, sym, refl, arith, ℕ, zero, suc, length, Some, List, [], ◌∷◌, ◌++◌, slice_get, take, drop, add-one}
use Rattle.std.proofs.Math.Seq.{take-length}
use Rattle.std.proofs.Math.Nat.{mul-le-mul_right}
use Rattle.std.proofs.lemmas.List.{drop-append-le, drop-drop, length-append, length-drop, take-append-le}
use Rattle.explore_tables.specs.Rows.{AreWhole, Rows, rows_of}

pub rows_count : (width count : ℕ) (numbers : List ℕ) → length (rows_of width count numbers) ≡ count
rows_count width zero numbers = refl
rows_count width (suc count) numbers = ap suc (rows_count width count (drop width numbers))

pub row_at : (width count number : ℕ) (numbers : List ℕ) → number < count → slice_get (rows_of width count numbers) number ≡ Some (take width (drop (number * width) numbers))
row_at width zero number numbers less = absurd (omega (arith, less))
row_at width (suc count) zero numbers less =
    let none : 0 ≡ zero * width = omega arith in ap (λ n. Some (take width (drop n numbers))) none
row_at width (suc count) (suc number) numbers less =
    row_at width count number (drop width numbers) (omega (arith, less))
    ∙ ap (λ xs. Some (take width xs)) (drop-drop (number * width) width numbers)
    ∙ ap (λ n. Some (take width (drop n numbers))) further
  where
    further : width + number * width ≡ suc number * width
    further = omega arith

no_numbers : (numbers : List ℕ) → length numbers ≡ 0 → numbers ≡ []
no_numbers [] none = refl
no_numbers (x ∷ numbers) none = absurd (omega (arith, none))

rows_more_suc : (width count : ℕ) (numbers row : List ℕ) → length numbers ≡ count * width → length row ≡ width
    → rows_of width (suc count) (numbers ++ row) ≡ rows_of width count numbers ++ row ∷ []
rows_more_suc width zero numbers row whole long =
    ap (λ xs. take width (xs ++ row) ∷ []) (no_numbers numbers (omega (arith, whole)))
    ∙ ap (λ n. take n row ∷ []) (sym long) ∙ ap (λ xs. xs ∷ []) (take-length row)
rows_more_suc width (suc count) numbers row whole long =
    ap (λ front. front ∷ rows_of width (suc count) (drop width (numbers ++ row))) (take-append-le width numbers row within)
    ∙ ap (λ rest. take width numbers ∷ rows_of width (suc count) rest) (drop-append-le width numbers row within)
    ∙ ap (λ rest. take width numbers ∷ rest) (rows_more_suc width count (drop width numbers) row left long)
  where
    parts : suc count * width ≡ width + count * width
    parts = omega arith

    within : width ≤ length numbers
    within = omega (arith, whole, parts)

    left : length (drop width numbers) ≡ count * width
    left = omega (arith, whole, parts, length-drop width numbers)

pub rows_more : (width count : ℕ) (numbers row : List ℕ) → length numbers ≡ count * width → length row ≡ width
    → rows_of width (count + 1) (numbers ++ row) ≡ rows_of width count numbers ++ row ∷ []
rows_more width count numbers row whole long = rw add-one (rows_more_suc width count numbers row whole long)

abbrev rows_from : (width count : ℕ) → List ℕ → Rows
rows_from width count numbers = record { width = width; rows = rows_of width count numbers }

pub rows_counted : (width count : ℕ) (numbers : List ℕ) (table : Rows) → rows_from width count numbers ≡ table → count ≡ length table.rows
rows_counted width count numbers table is = sym (rows_count width count numbers) ∙ ap (λ (t : Rows). length t.rows) is

-- a row stands within the numbers
pub row_within : (width count indexed number : ℕ) (numbers : List ℕ) (table : Rows) → AreWhole width count indexed numbers → rows_from width count numbers ≡ table → number < length table.rows
    → number * width + width ≤ length numbers
row_within width count indexed number numbers table whole is less =
    omega (arith, whole.whole, mul-le-mul_right width below)
  where
    below : number + 1 ≤ count
    below = omega (arith, rows_counted width count numbers table is, less)

pub row_there : (width count number : ℕ) (numbers : List ℕ) (table : Rows) → rows_from width count numbers ≡ table → number < length table.rows
    → slice_get table.rows number ≡ Some (take width (drop (number * width) numbers))
row_there width count number numbers table is less =
    ap (λ (t : Rows). slice_get t.rows number) (sym is)
    ∙ row_at width count number numbers (omega (arith, rows_counted width count numbers table is, less))

pub whole_more : (width count indexed new : ℕ) (numbers row more : List ℕ) (table : Rows) → AreWhole width count indexed numbers → rows_from width count numbers ≡ table
    → length row ≡ table.width → length table.rows < 2 ^ 32 - 1 → more ≡ numbers ++ row → new ≤ indexed + 1 → AreWhole width (count + 1) new more
whole_more width count indexed new numbers row more table whole is long few added found = record {
  whole = ap length added ∙ omega (arith, length-append numbers row, whole.whole, wide, long);
  found = omega (arith, found, whole.found);
  few = omega (arith, few, rows_counted width count numbers table is);
}
  where
    wide : width ≡ table.width
    wide = ap (λ (t : Rows). t.width) is

pub rows_added : (width count : ℕ) (numbers row more : List ℕ) (table : Rows) → length numbers ≡ count * width → rows_from width count numbers ≡ table → length row ≡ table.width → more ≡ numbers ++ row
    → rows_from width (count + 1) more ≡ record { width = table.width; rows = table.rows ++ row ∷ [] }
rows_added width count numbers row more table whole is long added =
    subst (λ (t : Rows). length row ≡ t.width → rows_from width (count + 1) more ≡ record { width = t.width; rows = t.rows ++ row ∷ [] }) is again long
  where
    again : length row ≡ width → rows_from width (count + 1) more ≡ record { width = width; rows = rows_of width count numbers ++ row ∷ [] }
    again wide = ap (λ (rows : List (List ℕ)). let t : Rows = record { width = width; rows = rows } in t) (ap (rows_of width (count + 1)) added ∙ rows_more width count numbers row whole wide)
