-- How far the reader of values looks, and what follows for the place of a refusal.
use Rattle.std.proofs.Common.{◌≡◌, ℕ, zero, suc, ◌<◌, ◌≤◌, Bool, true, false, cond, List, ◌∷◌, ◌++◌, ◌==◌, ◌||◌, length, drop, Result, Ok, Err, refl, sym, ap, subst, arith}
use Rattle.std.specs.Prelude.{is_some}
use Rattle.std.specs.List.{prefix_len}
use Rattle.std.proofs.lemmas.List.{length-append, length-drop}
use Rattle.bson_doc.specs.Bind.{◌>>=◌}
use Rattle.bson_doc.specs.Tree.{Tree, document, array, Fields, no_fields, Trees, no_items, found, with_field, with_item}
use Rattle.doc_text.specs.declared.fault.Fault.{Fault}
use Rattle.doc_text.specs.declared.fault.Rule.TheVariants.{Unexpected, DuplicateName, TooDeep}
use Rattle.doc_text.specs.Bytes.{is_space}
use Rattle.doc_text.specs.Class.{after_spaces}
use Rattle.doc_text.specs.Fault.{Read, fails}
use Rattle.doc_text.specs.Marks.{begins_with, mark_at, spaced_at}
use Rattle.doc_text.specs.Names.{name_at}
use Rattle.doc_text.specs.Scalars.{scalar_at}
use Rattle.doc_text.specs.Values.{key_at, field_at, item_at, members_at, inside_at, listed_at, document_at, array_at, value_at}
use Rattle.doc_text.proofs.Locality.{mark, read, Within, Alike, Local, within_more, cond_within, cond_alike, bind_within, bind_alike, bind_local, front_alike, refused, ok_alike, ok_local, map_local, drop_within}
use Rattle.doc_text.proofs.LocalScalars.{mark_local, spaces_local, spaced_local}
use Rattle.doc_text.proofs.LocalStrings.{name_local, scalar_local}

-- ---- members

-- a name with its colon
content_local : (name : List ℕ) → Local read (λ text. spaced_at 58 text >>= λ inside. Ok (name, inside))
content_local name = bind_local mark read (spaced_at 58) (λ inside. Ok (name, inside)) (spaced_local 58) (λ _. ok_local name)

key_local : (so_far : Fields) → Local read (key_at so_far)
unfolding key_at
key_local so_far = record {
  within = λ text. bind_within read read (length text) (name_at text) _ (name_local.within text) (λ x small. cond_within read (length text) (is_some (found x.0 so_far)) (fails DuplicateName text) _ (λ twice. absurd twice)
      (within_more read (length x.1) (length text) _ small ((content_local x.0).within x.1)));
  alike = λ c front after other.
      bind_alike read read (length (c ∷ (front ++ after))) after other (name_at (c ∷ (front ++ after))) (name_at (c ∷ (front ++ other))) _ _ (name_local.within (c ∷ (front ++ after))) (name_local.alike c front after other)
      (λ x close. cond_within read (length after) (is_some (found x.0 so_far)) (fails DuplicateName (c ∷ (front ++ after))) _ (λ twice. absurd twice)
      (within_more read (length x.1) (length after) _ close ((content_local x.0).within x.1)))
      (λ x d m _. cond_alike read after other (is_some (found x.0 so_far)) _ _ _ _ (λ twice. absurd twice) ((content_local x.0).alike d m after other));
}

field_local : (member : List ℕ → Read Tree) → Local read member → (so_far : Fields) → Local read (field_at member so_far)
unfolding field_at
field_local member local so_far =
    bind_local read read (key_at so_far) _ (key_local so_far) (λ name. map_local member (λ value. with_field so_far name.0 value) local)

item_local : (member : List ℕ → Read Tree) → Local read member → (so_far : Trees) → Local read (item_at member so_far)
unfolding item_at
item_local member local so_far = map_local member (λ value. with_item so_far value) local

-- the closing mark after a member, or a comma and further members
abbrev pub ending_at : {A : Type 0} → ℕ → A → (List ℕ → Read A) → List ℕ → Read A
ending_at close so_far next text = cond (begins_with close text) (Ok (so_far, drop 1 text)) (mark_at 44 text >>= λ rest. next (after_spaces rest))

ending_within : {A : Type 0} (close n : ℕ) (so_far : A) (next : List ℕ → Read A) (text : List ℕ) → length text ≤ n → ((rest : List ℕ) → Within read (length rest) (next rest)) → Within read n (ending_at close so_far next text)
ending_within close n so_far next text small inner =
    cond_within read n (begins_with close text) _ _ (omega (arith, length-drop 1 text))
    (bind_within mark read n (mark_at 44 text) _ (within_more mark (length text) n (mark_at 44 text) small ((mark_local 44).within text)) (λ rest fewer.
    within_more read (length (after_spaces rest)) n (next (after_spaces rest)) (omega (arith, drop_within (prefix_len is_space rest) rest)) (inner (after_spaces rest))))

-- further members are read of shorter texts
ending_alike : {A : Type 0} (close : ℕ) (so_far : A) (next next2 : List ℕ → Read A) (c : ℕ) (front after other : List ℕ)
    → ((rest : List ℕ) → Within read (length rest) (next rest))
    → ((front2 : List ℕ) → length front2 ≤ length front → Alike read after other (next (front2 ++ after)) (next2 (front2 ++ other)))
    → Alike read after other (ending_at close so_far next (c ∷ (front ++ after))) (ending_at close so_far next2 (c ∷ (front ++ other)))
unfolding mark_at
ending_alike close so_far next next2 c front after other inner later =
    cond_alike read after other (c == close) _ _ _ _ (ok_alike so_far front after other) (by_comma (c == 44))
  where
    spaced : Alike read after other (next (after_spaces (front ++ after))) (next2 (after_spaces (front ++ other)))
    spaced =
        let spaces = front_alike mark (λ text. Ok (after_spaces text)) spaces_local front after other in
        bind_alike mark read (length (front ++ after)) after other (Ok (after_spaces (front ++ after))) (Ok (after_spaces (front ++ other))) next next2 (drop_within (prefix_len is_space (front ++ after)) (front ++ after)) spaces
        (λ rest close. within_more read (length rest) (length after) (next rest) close (inner rest))
        (λ _ d m small. later (d ∷ m) (omega (arith, length-append (d ∷ m) after, length-append front after)))

    by_comma : (b : Bool) → Alike read after other (cond b (Ok (front ++ after)) (fails Unexpected (c ∷ (front ++ after))) >>= λ rest. next (after_spaces rest)) (cond b (Ok (front ++ other)) (fails Unexpected (c ∷ (front ++ other))) >>= λ rest. next2 (after_spaces rest))
    by_comma true = spaced
    by_comma false = refused read after other Unexpected (c ∷ (front ++ after)) (c ∷ (front ++ other))

-- the same after spaces
spaced_ending_alike : {A : Type 0} (close : ℕ) (so_far : A) (next next2 : List ℕ → Read A) (c : ℕ) (front after other : List ℕ)
    → ((rest : List ℕ) → Within read (length rest) (next rest))
    → ((front2 : List ℕ) → length front2 ≤ length front → Alike read after other (next (front2 ++ after)) (next2 (front2 ++ other)))
    → Alike read after other (ending_at close so_far next (after_spaces (c ∷ (front ++ after)))) (ending_at close so_far next2 (after_spaces (c ∷ (front ++ other))))
spaced_ending_alike close so_far next next2 c front after other inner later =
    bind_alike mark read (length (c ∷ (front ++ after))) after other (Ok (after_spaces (c ∷ (front ++ after)))) (Ok (after_spaces (c ∷ (front ++ other)))) (ending_at close so_far next) (ending_at close so_far next2) (spaces_local.within (c ∷ (front ++ after))) (spaces_local.alike c front after other)
    (λ rest near. ending_within close (length after) so_far next rest near inner)
    (λ _ d m small. ending_alike close so_far next next2 d m after other inner (λ front2 fewer. later front2 (omega (arith, length-append m after, length-append front after))))

-- a member, the spaces after it, and what comes then
comma_step : {A : Type 0} (next : List ℕ → Read A) (text : List ℕ) → (spaced_at 44 text >>= λ rest. next rest) ≡ (mark_at 44 (after_spaces text) >>= λ rest. next (after_spaces rest))
unfolding spaced_at
comma_step {A = A} next text = step (mark_at 44 (after_spaces text))
  where
    step : (r : Result (List ℕ) Fault) → ((r >>= λ rest. Ok (after_spaces rest)) >>= λ rest. next rest) ≡ (r >>= λ rest. next (after_spaces rest))
    step (Ok rest) = refl
    step (Err e) = refl

members_step : {A : Type 0} (more : A → List ℕ → Read A) (close most : ℕ) (so_far : A) (text : List ℕ)
    → members_at more close (suc most) so_far text ≡ (more so_far text >>= λ one. ending_at close one.0 (members_at more close most one.0) (after_spaces one.1))
unfolding members_at
members_step {A = A} more close most so_far text = step (more so_far text)
  where
    step : (r : Read A) → (r >>= λ one. cond (begins_with close (after_spaces one.1)) (Ok (one.0, drop 1 (after_spaces one.1))) (spaced_at 44 one.1 >>= λ rest. members_at more close most one.0 rest))
        ≡ (r >>= λ one. ending_at close one.0 (members_at more close most one.0) (after_spaces one.1))
    step (Ok one) = ap (λ (x : Read A). cond (begins_with close (after_spaces one.1)) (Ok (one.0, drop 1 (after_spaces one.1))) x) (comma_step (members_at more close most one.0) one.1)
    step (Err e) = refl

members_within : {A : Type 0} (more : A → List ℕ → Read A) (close : ℕ) → ((so_far : A) → Local read (more so_far)) → (most : ℕ) (so_far : A) (text : List ℕ) → Within read (length text) (members_at more close most so_far text)
unfolding members_at
members_within more close local zero so_far text = λ _. omega arith
members_within more close local (suc most) so_far text =
    subst (λ r. Within read (length text) r) (sym (members_step more close most so_far text))
    (bind_within read read (length text) (more so_far text) _ ((local so_far).within text) (λ one small.
    ending_within close (length text) one.0 (members_at more close most one.0) (after_spaces one.1) (omega (arith, drop_within (prefix_len is_space one.1) one.1)) (members_within more close local most one.0)))

-- enough members may be read of either text
members_alike : {A : Type 0} (more : A → List ℕ → Read A) (close : ℕ) → ((so_far : A) → Local read (more so_far)) → (most most2 : ℕ) (so_far : A) (front after other : List ℕ) → length (front ++ after) < most → length (front ++ other) < most2
    → Alike read after other (members_at more close most so_far (front ++ after)) (members_at more close most2 so_far (front ++ other))
members_alike more close local zero most2 so_far front after other fits fits2 = absurd (omega arith)
members_alike more close local (suc most) zero so_far front after other fits fits2 = absurd (omega arith)
members_alike more close local (suc most) (suc most2) so_far front after other fits fits2 =
    rw (members_step more close most so_far (front ++ after), members_step more close most2 so_far (front ++ other))
    (bind_alike read read (length (front ++ after)) after other (more so_far (front ++ after)) (more so_far (front ++ other)) _ _ ((local so_far).within (front ++ after)) (front_alike read (more so_far) (local so_far) front after other)
    (λ one near. ending_within close (length after) one.0 (members_at more close most one.0) (after_spaces one.1) (omega (arith, drop_within (prefix_len is_space one.1) one.1)) (members_within more close local most one.0))
    (λ one d m small. spaced_ending_alike close one.0 (members_at more close most one.0) (members_at more close most2 one.0) d m after other (members_within more close local most one.0) (λ front2 fewer.
    let a = length-append front2 after in
    let b = length-append front2 other in
    let e = length-append m after in
    let f = length-append front after in
    let g = length-append front other in
    members_alike more close local most most2 one.0 front2 after other (omega arith) (omega arith))))

-- the members of a document or an array, of which there are fewer than bytes
members_local : {A : Type 0} (more : A → List ℕ → Read A) (close : ℕ) (none : A) → ((so_far : A) → Local read (more so_far)) → Local read (λ bytes. members_at more close (suc (length bytes)) none bytes)
members_local more close none local = record {
  within = λ bytes. members_within more close local (suc (length bytes)) none bytes;
  alike = λ c front after other. members_alike more close local (suc (length (c ∷ (front ++ after)))) (suc (length (c ∷ (front ++ other)))) none (c ∷ front) after other (omega arith) (omega arith);
}

-- nothing stands between the marks, or members do
inside_local : {A : Type 0} (close : ℕ) (empty : A) (members : List ℕ → Read A) → Local read members → Local read (λ bytes. cond (begins_with close bytes) (Ok (empty, drop 1 bytes)) (members bytes))
inside_local close empty members local = record {
  within = λ bytes. cond_within read (length bytes) (begins_with close bytes) (Ok (empty, drop 1 bytes)) (members bytes) (omega (arith, length-drop 1 bytes)) (local.within bytes);
  alike = λ c front after other. cond_alike read after other (c == close) _ _ _ _ (ok_alike empty front after other) (local.alike c front after other);
}

listed_local : {A : Type 0} (more : A → List ℕ → Read A) (opening close : ℕ) (none : A) → ((so_far : A) → Local read (more so_far)) → Local read (listed_at more opening close none)
unfolding listed_at inside_at
listed_local more opening close none local =
    bind_local mark read (mark_at opening) _ (mark_local opening) (λ _.
    bind_local mark read (λ inside. Ok (after_spaces inside)) (λ text. inside_at more close none text) spaces_local (λ _.
    inside_local close none _ (members_local more close none local)))

document_local : (member : List ℕ → Read Tree) → Local read member → Local read (λ text. document_at member text >>= λ fields. Ok (document fields.0, fields.1))
document_local member local = map_local (document_at member) document (listed_local (field_at member) 123 125 no_fields (field_local member local))

array_local : (member : List ℕ → Read Tree) → Local read member → Local read (λ text. array_at member text >>= λ items. Ok (array items.0, items.1))
array_local member local = map_local (array_at member) array (listed_local (item_at member) 91 93 no_items (item_local member local))

pub value_local : (most : ℕ) → Local read (value_at most)
unfolding value_at
value_local zero = record {
  within = λ bytes. cond_within read (length bytes) (begins_with 123 bytes || begins_with 91 bytes) (fails TooDeep bytes) (scalar_at bytes) (λ _. omega arith) (scalar_local.within bytes);
  alike = λ c front after other. cond_alike read after other (c == 123 || c == 91) _ _ _ _ (refused read after other TooDeep (c ∷ (front ++ after)) (c ∷ (front ++ other))) (scalar_local.alike c front after other);
}
value_local (suc most) =
    let inner = value_local most in
    record {
      within = λ bytes.
          cond_within read (length bytes) (begins_with 123 bytes) _ _ ((document_local (value_at most) inner).within bytes)
          (cond_within read (length bytes) (begins_with 91 bytes) _ _ ((array_local (value_at most) inner).within bytes) (scalar_local.within bytes));
      alike = λ c front after other.
          cond_alike read after other (c == 123) _ _ _ _ ((document_local (value_at most) inner).alike c front after other)
          (cond_alike read after other (c == 91) _ _ _ _ ((array_local (value_at most) inner).alike c front after other) (scalar_local.alike c front after other));
    }
