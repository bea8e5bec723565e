-- The members of a document or an array are read one after the other.
use Rattle.std.proofs.Common.{◌≡◌, ◌≢◌, ℕ, zero, suc, ◌-◌, ◌<◌, true, false, List, [], ◌∷◌, length, Ok, refl, sym, ap, ◌∙◌, arith, inl, inr}
use Rattle.std.proofs.lemmas.Bool.{cases_eq}
use Rattle.bson_doc.specs.Tree.{Tree, Fields, Trees, with_field, with_item}
use Rattle.doc_text.specs.declared.fault.ReadError.{ReadError}
use Rattle.doc_text.specs.declared.fault.ReadError.TheVariants as stops
use Rattle.doc_text.specs.Class.{after_spaces}
use Rattle.doc_text.specs.Fault.{Read, Fails}
use Rattle.doc_text.specs.Marks.{begins_with, mark_at, spaced_at}
use Rattle.doc_text.specs.Values.{key_at, field_at, item_at, members_at, inside_at, listed_at}

pub not_begun : (mark : ℕ) (text : List ℕ) → ((rest : List ℕ) → text ≢ mark ∷ rest) → begins_with mark text ≡ false
not_begun mark [] other = refl
not_begun mark (c ∷ rest) other =
    elim (cases_eq c mark) [
      | inl same ↦ absurd (other rest (ap (λ (x : ℕ). x ∷ rest) same))
      | inr wrong ↦ grind arith
    ]

pub opened : {A : Type 0} (more : A → List ℕ → Read A) (opening close : ℕ) (none : A) (text inside rest : List ℕ) → mark_at opening text ≡ Ok inside → begins_with close (after_spaces inside) ≡ false → rest ≡ after_spaces inside
    → members_at more close (suc (length rest)) none rest ≡ listed_at more opening close none text
unfolding listed_at inside_at
opened more opening close none text inside rest begun other is = rw (begun, other, is) refl

pub nothing : {A : Type 0} (more : A → List ℕ → Read A) (opening close : ℕ) (none : A) (text inside rest : List ℕ) → mark_at opening text ≡ Ok inside → after_spaces inside ≡ close ∷ rest
    → listed_at more opening close none text ≡ Ok (none, rest)
unfolding listed_at inside_at
nothing more opening close none text inside rest begun closed =
    let ends : begins_with close (close ∷ rest) ≡ true = grind arith in
    rw (begun, closed, ends) refl

pub failed : {A : Type 0} (more : A → List ℕ → Read A) (close most : ℕ) (so_far : A) (text : List ℕ) (error : ReadError) (total : Read A) → length text < most
    → members_at more close most so_far text ≡ total → Fails error (more so_far text) → Fails error total
unfolding members_at
failed more close zero so_far text error total within is refused = absurd (omega arith)
failed more close (suc most) so_far text stops.Memory total within is refused = tt
failed more close (suc most) so_far text (stops.Fault fault) total within is refused = sym is ∙ rw refused refl

pub ended : {A : Type 0} (more : A → List ℕ → Read A) (close most : ℕ) (so_far grown : A) (text after end : List ℕ) (total : Read A) → length text < most
    → members_at more close most so_far text ≡ total → more so_far text ≡ Ok (grown, after) → after_spaces after ≡ close ∷ end → total ≡ Ok (grown, end)
unfolding members_at
ended more close zero so_far grown text after end total within is read closed = absurd (omega arith)
ended more close (suc most) so_far grown text after end total within is read closed =
    let begun : begins_with close (close ∷ end) ≡ true = grind arith in
    sym is ∙ rw (read, closed, begun) refl

pub uncommaed : {A : Type 0} (more : A → List ℕ → Read A) (close most : ℕ) (so_far grown : A) (text after : List ℕ) (error : ReadError) (total : Read A) → length text < most
    → members_at more close most so_far text ≡ total → more so_far text ≡ Ok (grown, after) → begins_with close (after_spaces after) ≡ false → Fails error (spaced_at 44 after) → Fails error total
unfolding members_at
uncommaed more close zero so_far grown text after error total within is read other refused = absurd (omega arith)
uncommaed more close (suc most) so_far grown text after stops.Memory total within is read other refused = tt
uncommaed more close (suc most) so_far grown text after (stops.Fault fault) total within is read other refused = sym is ∙ rw (read, other, refused) refl

pub further : {A : Type 0} (more : A → List ℕ → Read A) (close most : ℕ) (so_far grown : A) (text after next : List ℕ) (total : Read A) → length text < most
    → members_at more close most so_far text ≡ total → more so_far text ≡ Ok (grown, after) → begins_with close (after_spaces after) ≡ false → spaced_at 44 after ≡ Ok next
    → members_at more close (most - 1) grown next ≡ total
unfolding members_at
further more close zero so_far grown text after next total within is read other commaed = absurd (omega arith)
further more close (suc most) so_far grown text after next total within is read other commaed =
    let left : suc most - 1 ≡ most = omega arith in
    rw left (sym (rw (read, other, commaed) refl) ∙ is)

-- ---- one member more

pub item_failed : (member : List ℕ → Read Tree) (so_far : Trees) (text : List ℕ) (error : ReadError) → Fails error (member text) → Fails error (item_at member so_far text)
unfolding item_at
item_failed member so_far text stops.Memory refused = tt
item_failed member so_far text (stops.Fault fault) refused = rw refused refl

pub item_read : (member : List ℕ → Read Tree) (so_far : Trees) (text : List ℕ) (value : Tree) (after : List ℕ) → member text ≡ Ok (value, after) → item_at member so_far text ≡ Ok (with_item so_far value, after)
unfolding item_at
item_read member so_far text value after read = rw read refl

pub field_unnamed : (member : List ℕ → Read Tree) (so_far : Fields) (text : List ℕ) (error : ReadError) → Fails error (key_at so_far text) → Fails error (field_at member so_far text)
unfolding field_at
field_unnamed member so_far text stops.Memory refused = tt
field_unnamed member so_far text (stops.Fault fault) refused = rw refused refl

pub field_unvalued : (member : List ℕ → Read Tree) (so_far : Fields) (text name inside : List ℕ) (error : ReadError) → key_at so_far text ≡ Ok (name, inside) → Fails error (member inside) → Fails error (field_at member so_far text)
unfolding field_at
field_unvalued member so_far text name inside stops.Memory named refused = tt
field_unvalued member so_far text name inside (stops.Fault fault) named refused = rw (named, refused) refl

pub field_read : (member : List ℕ → Read Tree) (so_far : Fields) (text name inside : List ℕ) (value : Tree) (after : List ℕ) → key_at so_far text ≡ Ok (name, inside) → member inside ≡ Ok (value, after)
    → field_at member so_far text ≡ Ok (with_field so_far name value, after)
unfolding field_at
field_read member so_far text name inside value after named valued = rw (named, valued) refl
