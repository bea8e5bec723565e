-- The text read is a spelling of the result: documents, arrays and whole values.
use Rattle.std.proofs.Common.{◌≡◌, ℕ, zero, suc, ◌-◌, ◌≤◌, true, List, [], ◌∷◌, ◌++◌, ◌||◌, length, drop, None, Ok, refl, sym, ap, subst, ◌∙◌, append_assoc, arith}
use Rattle.std.specs.Prelude.{is_some, Contains}
use Rattle.std.proofs.lemmas.List.{length-drop, length-append}
use Rattle.bson_doc.specs.Length.{value_levels, fields_levels, items_levels}
use Rattle.bson_doc.specs.Tree.{Tree, document, array, Fields, no_fields, field, Trees, no_items, item, IsDocument, found, with_field, with_item}
use Rattle.bson_doc.proofs.DocLemmas.{IsDocument-with_field, not_found}
use Rattle.doc_text.specs.declared.fault.Rule.TheVariants.{TooDeep}
use Rattle.doc_text.specs.Class.{after_spaces}
use Rattle.doc_text.specs.Fault.{Read, fails}
use Rattle.doc_text.specs.Marks.{begins_with, mark_at, spaced_at}
use Rattle.doc_text.specs.Names.{name_at}
use Rattle.doc_text.specs.Scalars.{scalar_at}
use Rattle.doc_text.specs.Values.{key_at, field_at, item_at, members_at, inside_at, listed_at, document_at, array_at, value_at}
use Rattle.doc_text.specs.Spelling.{IsSpaced, IsClosing, SpellsName, SpellsField, Spells, SpellsFields, SpellsItems, SpellsLaterFields, SpellsLaterItems, Stands}
use Rattle.doc_text.proofs.SpelledIsRead.{joined, joined-is, joined_items, joined_items-is}
use Rattle.doc_text.proofs.ReadIsSpelled.{same, After, StandsAs, mark_gets, spaced_gets, spaces_front}
use Rattle.doc_text.proofs.ReadStrings.{NameRead, name_gets}
use Rattle.doc_text.proofs.ReadScalars.{scalar_gets}
use Rattle.bson_doc.proofs.BindLemmas.{Gets, bind_gets, gets_more, cond_gets}

-- what a reader of members gives stands there
abbrev pub Sound : ℕ → (List ℕ → Read Tree) → Type 0
Sound most member = (input : List ℕ) → Gets (member input) (StandsAs most input)

begun : (mark : ℕ) (input : List ℕ) → begins_with mark input ≡ true → input ≡ mark ∷ drop 1 input
begun mark [] h = absurd cc
begun mark (c ∷ rest) h = ap (λ (x : ℕ). x ∷ rest) (same c mark h)

-- the closing mark with spaces before it
closed_front : (close : ℕ) (text : List ℕ) → begins_with close (after_spaces text) ≡ true → After (IsClosing close) text (drop 1 (after_spaces text))
closed_front close text closed =
    let before = spaces_front text in (
      before.0 ++ close ∷ [],
      record { before = before.0; spaces_before = before.1; whole = refl },
      before.2 ∙ ap (λ (x : List ℕ). before.0 ++ x) (begun close (after_spaces text) closed) ∙ sym (append_assoc before.0 (close ∷ []) (drop 1 (after_spaces text))),
    )

-- ---- fields

pub record FieldRead (most : ℕ) (so_far : Fields) (input : List ℕ) (x : Fields × List ℕ) : Type 0 where
  pub name : List ℕ
  pub value : Tree
  pub one : List ℕ
  pub grown : x.0 ≡ with_field so_far name value
  pub new : found name so_far ≡ None
  pub clean : ¬ Contains name 0
  pub spelled : SpellsField name (Spells value) one
  pub whole : input ≡ one ++ x.1
  pub shallow : value_levels value ≤ most

-- a name with its colon
abbrev KeyRead : Fields → List ℕ → List ℕ × List ℕ → Type 0
KeyRead so_far input x = (front colon : List ℕ) × SpellsName x.0 front × IsSpaced 58 colon × (input ≡ front ++ (colon ++ x.1)) × (¬ Contains x.0 0) × (found x.0 so_far ≡ None)

key_gets : (so_far : Fields) (input : List ℕ) → Gets (key_at so_far input) (KeyRead so_far input)
unfolding key_at
key_gets so_far input =
    bind_gets (name_at input) _ (NameRead input) (KeyRead so_far input) (name_gets input) (λ name a.
    cond_gets (is_some (found name.0 so_far)) _ _ (KeyRead so_far input) (λ _. tt) (λ new.
    bind_gets (spaced_at 58 name.1) _ (After (IsSpaced 58) name.1) (KeyRead so_far input) (spaced_gets 58 name.1) (λ inside b.
    (a.0, b.0, a.1, b.1, a.2 ∙ ap (λ (x : List ℕ). a.0 ++ x) b.2, a.3, not_found (found name.0 so_far) new))))

field_gets : (most : ℕ) (member : List ℕ → Read Tree) → Sound most member → (so_far : Fields) (input : List ℕ) → Gets (field_at member so_far input) (FieldRead most so_far input)
unfolding field_at
field_gets most member sound so_far input =
    bind_gets (key_at so_far input) _ (KeyRead so_far input) (FieldRead most so_far input) (key_gets so_far input) (λ name a.
    bind_gets (member name.1) _ (StandsAs most name.1) (FieldRead most so_far input) (sound name.1) (λ value c.
    let parts : input ≡ (a.0 ++ (a.1 ++ c.0)) ++ value.1 =
    a.4 ∙ ap (λ (x : List ℕ). a.0 ++ x) (ap (λ (x : List ℕ). a.1 ++ x) c.2) ∙ sym (simp append_assoc) in
    record {
      name = name.0;
      value = value.0;
      one = a.0 ++ (a.1 ++ c.0);
      grown = refl;
      new = a.6;
      clean = a.5;
      spelled = (a.0, a.1, c.0, a.2, a.3, c.1, refl);
      whole = parts;
      shallow = c.4;
    }))

-- a first field, those after it, and the closing brace
pub record FieldsRead (most : ℕ) (so_far : Fields) (input : List ℕ) (x : Fields × List ℕ) : Type 0 where
  pub name : List ℕ
  pub value : Tree
  pub others : Fields
  pub one : List ℕ
  pub later : List ℕ
  pub grown : x.0 ≡ joined (with_field so_far name value) others
  pub apart : IsDocument so_far → IsDocument x.0
  pub spelled : SpellsField name (Spells value) one
  pub after : SpellsLaterFields others later
  pub whole : input ≡ one ++ (later ++ x.1)
  pub shallow : value_levels value ≤ most
  pub others_shallow : fields_levels others ≤ most

fields_gets : (most : ℕ) (member : List ℕ → Read Tree) → Sound most member → (fuel : ℕ) (so_far : Fields) (input : List ℕ) → Gets (members_at (field_at member) 125 fuel so_far input) (FieldsRead most so_far input)
unfolding members_at
fields_gets most member sound zero so_far input = tt
fields_gets most member sound (suc fuel) so_far input =
    bind_gets (field_at member so_far input) _ (FieldRead most so_far input) (FieldsRead most so_far input) (field_gets most member sound so_far input) (λ got a.
    let apart = λ (before : IsDocument so_far). subst IsDocument (sym a.grown) (IsDocument-with_field so_far a.name a.value before a.clean a.new) in
    cond_gets (begins_with 125 (after_spaces got.1)) _ _ (FieldsRead most so_far input) (λ closed.
    let end = closed_front 125 got.1 closed in
    record {
      name = a.name;
      value = a.value;
      others = no_fields;
      one = a.one;
      later = end.0;
      grown = a.grown;
      apart = apart;
      spelled = a.spelled;
      after = end.1;
      whole = a.whole ∙ ap (λ (x : List ℕ). a.one ++ x) end.2;
      shallow = a.shallow;
      others_shallow = omega arith;
    }) (λ _.
    bind_gets (spaced_at 44 got.1) _ (After (IsSpaced 44) got.1) (FieldsRead most so_far input) (spaced_gets 44 got.1) (λ rest comma.
    gets_more (members_at (field_at member) 125 fuel got.0 rest) (FieldsRead most got.0 rest) (FieldsRead most so_far input) (fields_gets most member sound fuel got.0 rest) (λ x b.
    let parts : got.1 ≡ (comma.0 ++ (b.one ++ b.later)) ++ x.1 = comma.2 ∙ ap (λ (y : List ℕ). comma.0 ++ y) b.whole ∙ sym (simp append_assoc) in
    record {
      name = a.name;
      value = a.value;
      others = field b.name b.value b.others;
      one = a.one;
      later = comma.0 ++ (b.one ++ b.later);
      grown = b.grown ∙ ap (λ (fs : Fields). joined (with_field fs b.name b.value) b.others) a.grown;
      apart = λ before. b.apart (apart before);
      spelled = a.spelled;
      after = (comma.0, b.one, b.later, comma.1, b.spelled, b.after, refl);
      whole = a.whole ∙ ap (λ (y : List ℕ). a.one ++ y) parts;
      shallow = a.shallow;
      others_shallow = omega (arith, b.shallow, b.others_shallow);
    }))))

-- ---- items

pub record ItemsRead (most : ℕ) (so_far : Trees) (input : List ℕ) (x : Trees × List ℕ) : Type 0 where
  pub value : Tree
  pub others : Trees
  pub one : List ℕ
  pub later : List ℕ
  pub grown : x.0 ≡ joined_items (with_item so_far value) others
  pub spelled : Spells value one
  pub after : SpellsLaterItems others later
  pub whole : input ≡ one ++ (later ++ x.1)
  pub shallow : value_levels value ≤ most
  pub others_shallow : items_levels others ≤ most

-- an item, with the items that there are then
abbrev ItemRead : ℕ → Trees → List ℕ → Trees × List ℕ → Type 0
ItemRead most so_far input x = (value : Tree) × (x.0 ≡ with_item so_far value) × StandsAs most input (value, x.1)

item_gets : (most : ℕ) (member : List ℕ → Read Tree) → Sound most member → (so_far : Trees) (input : List ℕ) → Gets (item_at member so_far input) (ItemRead most so_far input)
unfolding item_at
item_gets most member sound so_far input =
    bind_gets (member input) _ (StandsAs most input) (ItemRead most so_far input) (sound input) (λ value a. (value.0, refl, a))

items_gets : (most : ℕ) (member : List ℕ → Read Tree) → Sound most member → (fuel : ℕ) (so_far : Trees) (input : List ℕ) → Gets (members_at (item_at member) 93 fuel so_far input) (ItemsRead most so_far input)
unfolding members_at
items_gets most member sound zero so_far input = tt
items_gets most member sound (suc fuel) so_far input =
    bind_gets (item_at member so_far input) _ (ItemRead most so_far input) (ItemsRead most so_far input) (item_gets most member sound so_far input) (λ got a.
    let stands = a.2 in
    cond_gets (begins_with 93 (after_spaces got.1)) _ _ (ItemsRead most so_far input) (λ closed.
    let end = closed_front 93 got.1 closed in
    record {
      value = a.0;
      others = no_items;
      one = stands.0;
      later = end.0;
      grown = a.1;
      spelled = stands.1;
      after = end.1;
      whole = stands.2 ∙ ap (λ (x : List ℕ). stands.0 ++ x) end.2;
      shallow = stands.4;
      others_shallow = omega arith;
    }) (λ _.
    bind_gets (spaced_at 44 got.1) _ (After (IsSpaced 44) got.1) (ItemsRead most so_far input) (spaced_gets 44 got.1) (λ rest comma.
    gets_more (members_at (item_at member) 93 fuel got.0 rest) (ItemsRead most got.0 rest) (ItemsRead most so_far input) (items_gets most member sound fuel got.0 rest) (λ x b.
    let parts : got.1 ≡ (comma.0 ++ (b.one ++ b.later)) ++ x.1 = comma.2 ∙ ap (λ (y : List ℕ). comma.0 ++ y) b.whole ∙ sym (simp append_assoc) in
    record {
      value = a.0;
      others = item b.value b.others;
      one = stands.0;
      later = comma.0 ++ (b.one ++ b.later);
      grown = b.grown ∙ ap (λ (ts : Trees). joined_items (with_item ts b.value) b.others) a.1;
      spelled = stands.1;
      after = (comma.0, b.one, b.later, comma.1, b.spelled, b.after, refl);
      whole = stands.2 ∙ ap (λ (y : List ℕ). stands.0 ++ y) parts;
      shallow = stands.4;
      others_shallow = omega (arith, b.shallow, b.others_shallow);
    }))))

-- ---- values

document_gets : (most : ℕ) (member : List ℕ → Read Tree) → Sound most member → (input : List ℕ) → Gets (document_at member input) (λ x. StandsAs (suc most) input (document x.0, x.1))
unfolding listed_at inside_at
document_gets most member sound input =
    bind_gets (mark_at 123 input) _ (λ rest. input ≡ 123 ∷ rest) (λ x. StandsAs (suc most) input (document x.0, x.1)) (mark_gets 123 input) (λ rest opened.
    let spaces = spaces_front rest in
    cond_gets (begins_with 125 (after_spaces rest)) _ _ (λ x. StandsAs (suc most) input (document x.0, x.1)) (λ closed.
    let end = closed_front 125 rest closed in
    (123 ∷ end.0, (tt, end.0, end.1, refl), opened ∙ ap (λ (x : List ℕ). 123 ∷ x) end.2, tt, omega arith)) (λ _.
    gets_more (members_at (field_at member) 125 (suc (length (after_spaces rest))) no_fields (after_spaces rest)) (FieldsRead most no_fields (after_spaces rest)) (λ x. StandsAs (suc most) input (document x.0, x.1)) (fields_gets most member sound (suc (length (after_spaces rest))) no_fields (after_spaces rest)) (λ x a.
    let made : x.0 ≡ field a.name a.value a.others = a.grown ∙ joined-is (with_field no_fields a.name a.value) a.others in
    let apart : IsDocument (field a.name a.value a.others) = subst IsDocument made (a.apart tt) in
    let inside : SpellsFields (field a.name a.value a.others) (spaces.0 ++ (a.one ++ a.later)) = (spaces.0, a.one, a.later, spaces.1, a.spelled, a.after, refl) in
    let whole : input ≡ (123 ∷ (spaces.0 ++ (a.one ++ a.later))) ++ x.1 =
    opened ∙ ap (λ (y : List ℕ). 123 ∷ y) (spaces.2 ∙ ap (λ (y : List ℕ). spaces.0 ++ y) a.whole ∙ sym (simp append_assoc)) in
    let stands : StandsAs (suc most) input (document (field a.name a.value a.others), x.1) = (123 ∷ (spaces.0 ++ (a.one ++ a.later)), (apart, spaces.0 ++ (a.one ++ a.later), inside, refl), whole, tt, omega (arith, a.shallow, a.others_shallow)) in
    subst (λ (fs : Fields). StandsAs (suc most) input (document fs, x.1)) (sym made) stands)))

array_gets : (most : ℕ) (member : List ℕ → Read Tree) → Sound most member → (input : List ℕ) → Gets (array_at member input) (λ x. StandsAs (suc most) input (array x.0, x.1))
unfolding listed_at inside_at
array_gets most member sound input =
    bind_gets (mark_at 91 input) _ (λ rest. input ≡ 91 ∷ rest) (λ x. StandsAs (suc most) input (array x.0, x.1)) (mark_gets 91 input) (λ rest opened.
    let spaces = spaces_front rest in
    cond_gets (begins_with 93 (after_spaces rest)) _ _ (λ x. StandsAs (suc most) input (array x.0, x.1)) (λ closed.
    let end = closed_front 93 rest closed in
    (91 ∷ end.0, (end.0, end.1, refl), opened ∙ ap (λ (x : List ℕ). 91 ∷ x) end.2, tt, omega arith)) (λ _.
    gets_more (members_at (item_at member) 93 (suc (length (after_spaces rest))) no_items (after_spaces rest)) (ItemsRead most no_items (after_spaces rest)) (λ x. StandsAs (suc most) input (array x.0, x.1)) (items_gets most member sound (suc (length (after_spaces rest))) no_items (after_spaces rest)) (λ x a.
    let made : x.0 ≡ item a.value a.others = a.grown ∙ joined_items-is (with_item no_items a.value) a.others in
    let inside : SpellsItems (item a.value a.others) (spaces.0 ++ (a.one ++ a.later)) = (spaces.0, a.one, a.later, spaces.1, a.spelled, a.after, refl) in
    let whole : input ≡ (91 ∷ (spaces.0 ++ (a.one ++ a.later))) ++ x.1 =
    opened ∙ ap (λ (y : List ℕ). 91 ∷ y) (spaces.2 ∙ ap (λ (y : List ℕ). spaces.0 ++ y) a.whole ∙ sym (simp append_assoc)) in
    let stands : StandsAs (suc most) input (array (item a.value a.others), x.1) = (91 ∷ (spaces.0 ++ (a.one ++ a.later)), (spaces.0 ++ (a.one ++ a.later), inside, refl), whole, tt, omega (arith, a.shallow, a.others_shallow)) in
    subst (λ (ts : Trees). StandsAs (suc most) input (array ts, x.1)) (sym made) stands)))

pub value_gets : (most : ℕ) → Sound most (value_at most)
unfolding value_at
value_gets zero = λ input. cond_gets (begins_with 123 input || begins_with 91 input) (fails TooDeep input) (scalar_at input) (StandsAs zero input) (λ _. tt) (λ _. scalar_gets zero input)
value_gets (suc most) = λ input.
    cond_gets (begins_with 123 input) _ _ (StandsAs (suc most) input) (λ _. bind_gets (document_at (value_at most) input) _ (λ x. StandsAs (suc most) input (document x.0, x.1)) (StandsAs (suc most) input) (document_gets most (value_at most) (value_gets most) input) (λ x got. got)) (λ _.
    cond_gets (begins_with 91 input) _ _ (StandsAs (suc most) input) (λ _. bind_gets (array_at (value_at most) input) _ (λ x. StandsAs (suc most) input (array x.0, x.1)) (StandsAs (suc most) input) (array_gets most (value_at most) (value_gets most) input) (λ x got. got)) (λ _. scalar_gets (suc most) input))

pub read_stands : (bytes front : List ℕ) (at : ℕ) (tree : Tree) (rest : List ℕ) → at ≤ length bytes → front ≡ drop at bytes → value_at 100 front ≡ Ok (tree, rest) → Stands bytes at tree (length bytes - length rest)
read_stands bytes front at tree rest within is read =
    let stands : StandsAs 100 front (tree, rest) = rw read at (value_gets 100 front) in
    record {
      spelling = stands.0;
      rest = rest;
      spelled = stands.1;
      shallow = stands.4;
      parts = sym is ∙ stands.2;
      whole = stands.3;
      place = omega (arith, within, length-drop at bytes, ap length is, ap length stands.2, length-append stands.0 rest);
    }
