-- What is read is spelled by the bytes read: values, fields, items and documents.
use Rattle.std.proofs.Common.{◌≡◌, ℕ, zero, suc, ◌≤◌, Bool, true, false, cond, ltb, List, [], ◌∷◌, ◌++◌, Contains, None, Result, Ok, Err, refl, sym, ap, subst, ◌∙◌, append_assoc, arith, inl, inr}
use Rattle.std.specs.Prelude.{is_some, nat_lt, ◌==◌, if◌then◌else◌}
use Rattle.std.specs.Int.{w32, w64, cast_signed}
use Rattle.std.specs.Str.{is_utf8}
use Rattle.std.proofs.lemmas.Bool.{cases_Bool, ltb-true, eqb-true}
use Rattle.std.proofs.lemmas.Int.{of_z-to_z}
use Rattle.std.proofs.Math.Facts.{sfits_to_z}
use Rattle.std.proofs.lemmas.List.{append-nil}
use Rattle.bson_doc.specs.Bind.{◌>>=◌}
use Rattle.bson_doc.proofs.BindLemmas.{bind_ok, guard_ok}
use Rattle.bson_doc.specs.Tree as tree
use Rattle.bson_doc.specs.Tree.{Tree, Fields, no_fields, field, found, with_field, IsDocument}
use Rattle.bson_doc.specs.Key.{type_byte}
use Rattle.bson_doc.proofs.DocLemmas.{IsDocument-with_field, not_found}
use Rattle.bson_codec.specs.declared.kind.Kind as declared
use Rattle.bson_codec.specs.declared.kind.Kind.TheVariants as kinds
use Rattle.bson_codec.specs.declared.error.DecodeError.{DecodeError}
use Rattle.bson_codec.specs.declared.error.DecodeError.TheVariants as rules
use Rattle.bson_doc.specs.Length.{value_levels, fields_levels}
use Rattle.bson_doc.proofs.SoundLemmas.{AreSoundFields-with_field}
use Rattle.bson_codec.specs.Numbers.{number_bytes}
use Rattle.bson_codec.specs.Reading.{Inner, number_at, bytes_at, byte_at, text_at, binary_at, boolean_at, kind_of, value_at, new_name, field_at, ends_at, fields_in, name_at, length_at}
use Rattle.bson_codec.specs.Sound.{IsSoundValue, AreSoundFields}
use Rattle.bson_codec.specs.Spelling.{element, value_bytes, fields_bytes}
use Rattle.bson_codec.proofs.PartLemmas.{IsBytes, guard_held, ok_is, Takes, Takes-then, wide4, wide8, number_takes, bytes_take, length_takes, text_takes, byte_takes, name_takes}

-- a value that was read, within so many levels
pub record ValueTakes (levels : ℕ) (bytes : List ℕ) (value : Tree) (rest : List ℕ) : Type 0 where
  pub takes : Takes bytes (value_bytes value) rest
  pub sound : IsSoundValue value
  pub in_levels : value_levels value ≤ levels

abbrev pub byte_of : declared.Kind → ℕ
byte_of kinds.Text = 2
byte_of kinds.Document = 3
byte_of kinds.Array = 4
byte_of kinds.Binary = 5
byte_of kinds.ObjectId = 7
byte_of kinds.Boolean = 8
byte_of kinds.Date = 9
byte_of kinds.Null = 10
byte_of kinds.Int32 = 16
byte_of kinds.Timestamp = 17
byte_of kinds.Int64 = 18

kind_step : (b n : ℕ) (k : declared.Kind) (other : Result declared.Kind DecodeError) (r : declared.Kind) → byte_of k ≡ n → (other ≡ Ok r → b ≡ byte_of r) → cond (b == n) (Ok k) other ≡ Ok r → b ≡ byte_of r
kind_step b n k other r names later e = elim (cases_Bool (b == n)) [
  | inl same ↦
      let is : k ≡ r = cc (rw same at e) in
      eqb-true b n same ∙ sym names ∙ ap byte_of is
  | inr apart ↦ later (rw apart at e)
]

pub kind_takes : (b : ℕ) (k : declared.Kind) → kind_of b ≡ Ok k → b ≡ byte_of k
unfolding kind_of
kind_takes b k e =
    kind_step b 2 kinds.Text _ k refl (kind_step b 3 kinds.Document _ k refl (kind_step b 4 kinds.Array _ k refl (kind_step b 5 kinds.Binary _ k refl
    (kind_step b 7 kinds.ObjectId _ k refl (kind_step b 8 kinds.Boolean _ k refl (kind_step b 9 kinds.Date _ k refl (kind_step b 10 kinds.Null _ k refl
    (kind_step b 16 kinds.Int32 _ k refl (kind_step b 17 kinds.Timestamp _ k refl (kind_step b 18 kinds.Int64 _ k refl (λ h. absurd (cc h)))))))))))) e

-- how what is inside is read
abbrev pub InnerTakes : ℕ → Inner → Type 0
InnerTakes levels inner = (is_array : Bool) (bytes : List ℕ) (value : Tree) (rest : List ℕ) → IsBytes bytes → inner is_array bytes ≡ Ok (value, rest)
    → ValueTakes levels bytes value rest × (type_byte value ≡ (if is_array then 4 else 3))

abbrev pub read_pair : Tree → List ℕ → Tree × List ℕ
read_pair value rest = (value, rest)

-- a number of a kind, made of the bytes' number
made_takes : (n levels : ℕ) (bytes : List ℕ) (make : ℕ → Tree) (value : Tree) (rest : List ℕ) (x : ℕ) (after : List ℕ)
    → Takes bytes (number_bytes n x) after → value_bytes (make x) ≡ number_bytes n x → IsSoundValue (make x) → value_levels (make x) ≤ levels → read_pair (make x) after ≡ read_pair value rest
    → ValueTakes levels bytes value rest × (type_byte value ≡ type_byte (make x))
made_takes n levels bytes make value rest x after t spelled sound flat is =
    subst (λ (p : Tree × List ℕ). ValueTakes levels bytes p.0 p.1 × (type_byte p.0 ≡ type_byte (make x))) is
    (record { takes = subst (λ (text : List ℕ). Takes bytes text after) (sym spelled) t; sound = sound; in_levels = flat }, refl)

int32_takes : (levels : ℕ) (inner : Inner) (bytes : List ℕ) (value : Tree) (rest : List ℕ) → IsBytes bytes → value_at inner kinds.Int32 bytes ≡ Ok (value, rest) → ValueTakes levels bytes value rest × (type_byte value ≡ 16)
int32_takes levels inner bytes value rest fits e =
    let b = bind_ok (number_at 4 bytes) (λ n. Ok (tree.int32 (cast_signed w32 n.0), n.1)) (value, rest) e in
    let t = number_takes 4 wide4 bytes b.0.0 b.0.1 fits b.1 in
    made_takes 4 levels bytes (λ x. tree.int32 (cast_signed w32 x)) value rest b.0.0 b.0.1 t.0 (ap (number_bytes 4) (of_z-to_z w32 b.0.0 t.1)) (sfits_to_z {w = w32} {n = b.0.0} (record { fits = t.1 })) (omega arith) (ok_is _ _ b.2)

int64_takes : (levels : ℕ) (inner : Inner) (bytes : List ℕ) (value : Tree) (rest : List ℕ) → IsBytes bytes → value_at inner kinds.Int64 bytes ≡ Ok (value, rest) → ValueTakes levels bytes value rest × (type_byte value ≡ 18)
int64_takes levels inner bytes value rest fits e =
    let b = bind_ok (number_at 8 bytes) (λ n. Ok (tree.int64 (cast_signed w64 n.0), n.1)) (value, rest) e in
    let t = number_takes 8 wide8 bytes b.0.0 b.0.1 fits b.1 in
    made_takes 8 levels bytes (λ x. tree.int64 (cast_signed w64 x)) value rest b.0.0 b.0.1 t.0 (ap (number_bytes 8) (of_z-to_z w64 b.0.0 t.1)) (sfits_to_z {w = w64} {n = b.0.0} (record { fits = t.1 })) (omega arith) (ok_is _ _ b.2)

date_takes : (levels : ℕ) (inner : Inner) (bytes : List ℕ) (value : Tree) (rest : List ℕ) → IsBytes bytes → value_at inner kinds.Date bytes ≡ Ok (value, rest) → ValueTakes levels bytes value rest × (type_byte value ≡ 9)
date_takes levels inner bytes value rest fits e =
    let b = bind_ok (number_at 8 bytes) (λ n. Ok (tree.date (cast_signed w64 n.0), n.1)) (value, rest) e in
    let t = number_takes 8 wide8 bytes b.0.0 b.0.1 fits b.1 in
    made_takes 8 levels bytes (λ x. tree.date (cast_signed w64 x)) value rest b.0.0 b.0.1 t.0 (ap (number_bytes 8) (of_z-to_z w64 b.0.0 t.1)) (sfits_to_z {w = w64} {n = b.0.0} (record { fits = t.1 })) (omega arith) (ok_is _ _ b.2)

timestamp_takes : (levels : ℕ) (inner : Inner) (bytes : List ℕ) (value : Tree) (rest : List ℕ) → IsBytes bytes → value_at inner kinds.Timestamp bytes ≡ Ok (value, rest) → ValueTakes levels bytes value rest × (type_byte value ≡ 17)
timestamp_takes levels inner bytes value rest fits e =
    let b = bind_ok (number_at 8 bytes) (λ n. Ok (tree.timestamp n.0, n.1)) (value, rest) e in
    let t = number_takes 8 wide8 bytes b.0.0 b.0.1 fits b.1 in
    made_takes 8 levels bytes (λ x. tree.timestamp x) value rest b.0.0 b.0.1 t.0 refl t.1 (omega arith) (ok_is _ _ b.2)

-- any other kind
plain_takes : (levels : ℕ) (bytes : List ℕ) (made value : Tree) (rest after : List ℕ) → Takes bytes (value_bytes made) after → IsSoundValue made → value_levels made ≤ levels → read_pair made after ≡ read_pair value rest → ValueTakes levels bytes value rest × (type_byte value ≡ type_byte made)
plain_takes levels bytes made value rest after t sound flat is =
    subst (λ (p : Tree × List ℕ). ValueTakes levels bytes p.0 p.1 × (type_byte p.0 ≡ type_byte made)) is (record { takes = t; sound = sound; in_levels = flat }, refl)

text_value_takes : (levels : ℕ) (inner : Inner) (bytes : List ℕ) (value : Tree) (rest : List ℕ) → IsBytes bytes → value_at inner kinds.Text bytes ≡ Ok (value, rest) → ValueTakes levels bytes value rest × (type_byte value ≡ 2)
text_value_takes levels inner bytes value rest fits e =
    let b = bind_ok (text_at bytes) (λ letters. Ok (tree.text letters.0, letters.1)) (value, rest) e in
    let t = text_takes bytes b.0.0 b.0.1 fits b.1 in
    plain_takes levels bytes (tree.text b.0.0) value rest b.0.1 t.0 t.1 (omega arith) (ok_is _ _ b.2)

object_id_takes : (levels : ℕ) (inner : Inner) (bytes : List ℕ) (value : Tree) (rest : List ℕ) → IsBytes bytes → value_at inner kinds.ObjectId bytes ≡ Ok (value, rest) → ValueTakes levels bytes value rest × (type_byte value ≡ 7)
object_id_takes levels inner bytes value rest fits e =
    let b = bind_ok (bytes_at 12 bytes) (λ id. Ok (tree.object_id id.0, id.1)) (value, rest) e in
    let t = bytes_take 12 bytes b.0.0 b.0.1 fits b.1 in
    plain_takes levels bytes (tree.object_id b.0.0) value rest b.0.1 t.0 t.1 (omega arith) (ok_is _ _ b.2)

boolean_bytes : (b : ℕ) → ltb b 2 ≡ true → value_bytes (tree.boolean (b == 1)) ≡ b ∷ []
boolean_bytes zero small = refl
boolean_bytes (suc zero) small = refl
boolean_bytes (suc (suc b)) small = absurd (omega (arith, ltb-true _ _ small))

boolean_takes : (levels : ℕ) (bytes : List ℕ) (value : Tree) (rest : List ℕ) → IsBytes bytes → boolean_at bytes ≡ Ok (value, rest) → ValueTakes levels bytes value rest × (type_byte value ≡ 8)
unfolding boolean_at
boolean_takes levels bytes value rest fits e =
    let b = bind_ok (byte_at bytes) (λ byte. cond (nat_lt byte.0 2) (Ok (tree.boolean (byte.0 == 1), byte.1)) (Err rules.Bool)) (value, rest) e in
    let g = guard_held (nat_lt b.0.0 2) rules.Bool (tree.boolean (b.0.0 == 1), b.0.1) (value, rest) b.2 in
    let t = byte_takes bytes b.0.0 b.0.1 fits b.1 in
    plain_takes levels bytes (tree.boolean (b.0.0 == 1)) value rest b.0.1 (subst (λ (text : List ℕ). Takes bytes text b.0.1) (sym (boolean_bytes b.0.0 g.0)) t) tt (omega arith) g.1

binary_takes : (levels : ℕ) (bytes : List ℕ) (value : Tree) (rest : List ℕ) → IsBytes bytes → binary_at bytes ≡ Ok (value, rest) → ValueTakes levels bytes value rest × (type_byte value ≡ 5)
unfolding binary_at
binary_takes levels bytes value rest fits e =
    let a = bind_ok (length_at 0 bytes) (λ n. byte_at n.1 >>= λ subtype. bytes_at n.0 subtype.1 >>= λ content. Ok (tree.binary subtype.0 content.0, content.1)) (value, rest) e in
    let b = bind_ok (byte_at a.0.1) (λ subtype. bytes_at a.0.0 subtype.1 >>= λ content. Ok (tree.binary subtype.0 content.0, content.1)) (value, rest) a.2 in
    let c = bind_ok (bytes_at a.0.0 b.0.1) (λ content. Ok (tree.binary b.0.0 content.0, content.1)) (value, rest) b.2 in
    let t0 = length_takes 0 bytes a.0.0 a.0.1 fits a.1 in
    let t1 = byte_takes a.0.1 b.0.0 b.0.1 t0.0.rest_fits b.1 in
    let t2 = bytes_take a.0.0 b.0.1 c.0.0 c.0.1 t1.rest_fits c.1 in
    let after = Takes-then a.0.1 (b.0.0 ∷ []) b.0.1 c.0.0 c.0.1 t1 t2.0 in
    let whole = Takes-then bytes (number_bytes 4 a.0.0) a.0.1 (b.0.0 ∷ c.0.0) c.0.1 t0.0 after in
    let spelled = subst (λ (n : ℕ). Takes bytes (number_bytes 4 n ++ b.0.0 ∷ c.0.0) c.0.1) (sym t2.1) whole in
    plain_takes levels bytes (tree.binary b.0.0 c.0.0) value rest c.0.1 spelled tt (omega arith) (ok_is _ _ c.2)

null_takes : (levels : ℕ) (inner : Inner) (bytes : List ℕ) (value : Tree) (rest : List ℕ) → IsBytes bytes → value_at inner kinds.Null bytes ≡ Ok (value, rest) → ValueTakes levels bytes value rest × (type_byte value ≡ 10)
null_takes levels inner bytes value rest fits e =
    plain_takes levels bytes tree.null value rest bytes (record { parts = refl; rest_fits = fits }) tt (omega arith) (ok_is _ _ e)

pub value_takes : (levels : ℕ) (inner : Inner) → InnerTakes levels inner → (kind : declared.Kind) (bytes : List ℕ) (value : Tree) (rest : List ℕ) → IsBytes bytes → value_at inner kind bytes ≡ Ok (value, rest) → ValueTakes levels bytes value rest × (type_byte value ≡ byte_of kind)
value_takes levels inner within kinds.Text bytes value rest fits e = text_value_takes levels inner bytes value rest fits e
value_takes levels inner within kinds.Document bytes value rest fits e = within false bytes value rest fits e
value_takes levels inner within kinds.Array bytes value rest fits e = within true bytes value rest fits e
value_takes levels inner within kinds.Binary bytes value rest fits e = binary_takes levels bytes value rest fits e
value_takes levels inner within kinds.ObjectId bytes value rest fits e = object_id_takes levels inner bytes value rest fits e
value_takes levels inner within kinds.Boolean bytes value rest fits e = boolean_takes levels bytes value rest fits e
value_takes levels inner within kinds.Date bytes value rest fits e = date_takes levels inner bytes value rest fits e
value_takes levels inner within kinds.Null bytes value rest fits e = null_takes levels inner bytes value rest fits e
value_takes levels inner within kinds.Int32 bytes value rest fits e = int32_takes levels inner bytes value rest fits e
value_takes levels inner within kinds.Timestamp bytes value rest fits e = timestamp_takes levels inner bytes value rest fits e
value_takes levels inner within kinds.Int64 bytes value rest fits e = int64_takes levels inner bytes value rest fits e

-- ---- fields

-- a field that was read after others
pub record FieldTakes (levels : ℕ) (seen : Fields) (bytes name : List ℕ) (value : Tree) (rest : List ℕ) : Type 0 where
  pub takes : Takes bytes (element (type_byte value) name (value_bytes value)) rest
  pub new : found name seen ≡ None
  pub valid : is_utf8 name ≡ true
  pub clean : ¬ Contains name 0
  pub sound : IsSoundValue value
  pub in_levels : value_levels value ≤ levels

element_takes : (bytes after_kind after_name rest name value : List ℕ) (kind : ℕ) → Takes bytes (kind ∷ []) after_kind → Takes after_kind (name ++ 0 ∷ []) after_name → Takes after_name value rest → Takes bytes (element kind name value) rest
element_takes bytes after_kind after_name rest name value kind first second third =
    let both = Takes-then bytes (kind ∷ []) after_kind (name ++ 0 ∷ []) after_name first second in
    let all = Takes-then bytes (kind ∷ (name ++ 0 ∷ [])) after_name value rest both third in
    subst (λ (t : List ℕ). Takes bytes (kind ∷ t) rest) (append_assoc name (0 ∷ []) value) all

abbrev after_new : Inner → declared.Kind → List ℕ × List ℕ → List ℕ → Result ((List ℕ × Tree) × List ℕ) DecodeError
after_new inner kind name new = value_at inner kind name.1 >>= λ value. Ok ((new, value.0), value.1)

abbrev after_name : Inner → Fields → declared.Kind → List ℕ × List ℕ → Result ((List ℕ × Tree) × List ℕ) DecodeError
after_name inner seen kind name = new_name seen name.0 >>= after_new inner kind name

abbrev after_kind : Inner → Fields → List ℕ → declared.Kind → Result ((List ℕ × Tree) × List ℕ) DecodeError
after_kind inner seen rest kind = name_at rest >>= after_name inner seen kind

abbrev field_read : List ℕ → Tree → List ℕ → (List ℕ × Tree) × List ℕ
field_read name value rest = ((name, value), rest)

field_takes : (levels : ℕ) (inner : Inner) → InnerTakes levels inner → (seen : Fields) (bytes : List ℕ) (next : (List ℕ × Tree) × List ℕ) → IsBytes bytes → field_at inner seen bytes ≡ Ok next → FieldTakes levels seen bytes next.0.0 next.0.1 next.1
unfolding field_at
field_takes levels inner within seen bytes next fits e =
    let a = bind_ok (byte_at bytes) (λ byte. kind_of byte.0 >>= after_kind inner seen byte.1) next e in
    let b = bind_ok (kind_of a.0.0) (after_kind inner seen a.0.1) next a.2 in
    let c = bind_ok (name_at a.0.1) (after_name inner seen b.0) next b.2 in
    let d = bind_ok (new_name seen c.0.0) (after_new inner b.0 c.0) next c.2 in
    let f = bind_ok (value_at inner b.0 c.0.1) (λ value. Ok ((d.0, value.0), value.1)) next d.2 in
    let first = byte_takes bytes a.0.0 a.0.1 fits a.1 in
    let names = name_takes a.0.1 c.0.0 c.0.1 first.rest_fits c.1 in
    let new = guard_ok (is_some (found c.0.0 seen)) rules.DuplicateName c.0.0 d.0 d.1 in
    let third = value_takes levels inner within b.0 c.0.1 f.0.0 f.0.1 names.takes.rest_fits f.1 in
    let same : a.0.0 ≡ type_byte f.0.0 = kind_takes a.0.0 b.0 b.1 ∙ sym third.1 in
    let kind : Takes bytes (type_byte f.0.0 ∷ []) a.0.1 = subst (λ (k : ℕ). Takes bytes (k ∷ []) a.0.1) same first in
    let made : FieldTakes levels seen bytes c.0.0 f.0.0 f.0.1 = record {
      takes = element_takes bytes a.0.1 c.0.1 f.0.1 c.0.0 (value_bytes f.0.0) (type_byte f.0.0) kind names.takes third.0.takes;
      new = not_found (found c.0.0 seen) new.0;
      valid = names.valid;
      clean = names.clean;
      sound = third.0.sound;
      in_levels = third.0.in_levels;
    } in
    let renamed : FieldTakes levels seen bytes d.0 f.0.0 f.0.1 = subst (λ (n : List ℕ). FieldTakes levels seen bytes n f.0.0 f.0.1) new.1 made in
    subst (λ (n : (List ℕ × Tree) × List ℕ). FieldTakes levels seen bytes n.0.0 n.0.1 n.1) (ok_is (field_read d.0 f.0.0 f.0.1) next f.2) renamed

pub fields_bytes-with : (seen : Fields) (name : List ℕ) (value : Tree) → fields_bytes (with_field seen name value) ≡ fields_bytes seen ++ element (type_byte value) name (value_bytes value)
fields_bytes-with no_fields name value = append-nil _
fields_bytes-with (field first one rest) name value =
    ap (λ (t : List ℕ). element (type_byte one) first (value_bytes one) ++ t) (fields_bytes-with rest name value) ∙ sym (append_assoc (element (type_byte one) first (value_bytes one)) (fields_bytes rest) _)

levels-with : (seen : Fields) (name : List ℕ) (value : Tree) (levels : ℕ) → fields_levels seen ≤ levels → value_levels value ≤ levels → fields_levels (with_field seen name value) ≤ levels
levels-with no_fields name value levels before one = omega arith
levels-with (field first other rest) name value levels before one = omega (arith, levels-with rest name value levels (omega arith) one)

pub ends_here : (bytes : List ℕ) → ends_at bytes ≡ Ok true → bytes ≡ 0 ∷ []
ends_here [] e = absurd cc
ends_here (zero ∷ []) e = refl
ends_here (zero ∷ b ∷ rest) e = absurd cc
ends_here (suc b ∷ rest) e = absurd (cc e)

-- all the fields, of which some were seen before
pub record FieldsTake (levels : ℕ) (seen : Fields) (bytes : List ℕ) (all : Fields) : Type 0 where
  pub parts : fields_bytes seen ++ bytes ≡ fields_bytes all ++ 0 ∷ []
  pub names : IsDocument all
  pub sound : AreSoundFields all
  pub in_levels : fields_levels all ≤ levels

abbrev after_end : ℕ → Inner → Fields → List ℕ → Bool → Result Fields DecodeError
after_end turns inner seen bytes ended =
    if ended then Ok seen else
    (field_at inner seen bytes >>= λ next. fields_in turns inner (with_field seen next.0.0 next.0.1) next.1)

pub fields_take : (turns levels : ℕ) (inner : Inner) → InnerTakes levels inner → (seen : Fields) (bytes : List ℕ) (all : Fields) → IsBytes bytes → fields_in turns inner seen bytes ≡ Ok all → IsDocument seen → AreSoundFields seen → fields_levels seen ≤ levels → FieldsTake levels seen bytes all
unfolding fields_in
fields_take zero levels inner within seen bytes all fits e names sound flat = absurd cc
fields_take (suc turns) levels inner within seen bytes all fits e names sound flat =
    let a = bind_ok (ends_at bytes) (after_end turns inner seen bytes) all e in
    elim (cases_Bool a.0) [
      | inl ended ↦
          let here : bytes ≡ 0 ∷ [] = ends_here bytes (a.1 ∙ ap (λ (b : Bool). Ok b) ended) in
          let is : seen ≡ all = ok_is seen all (sym (ap (after_end turns inner seen bytes) ended) ∙ a.2) in
          subst (λ (fields : Fields). FieldsTake levels seen bytes fields) is
          (record { parts = ap (λ (t : List ℕ). fields_bytes seen ++ t) here; names = names; sound = sound; in_levels = flat })
      | inr more ↦
          let step = sym (ap (after_end turns inner seen bytes) more) ∙ a.2 in
          let b = bind_ok (field_at inner seen bytes) (λ next. fields_in turns inner (with_field seen next.0.0 next.0.1) next.1) all step in
          let one = field_takes levels inner within seen bytes b.0 fits b.1 in
          let later = fields_take turns levels inner within (with_field seen b.0.0.0 b.0.0.1) b.0.1 all one.takes.rest_fits b.2
          (IsDocument-with_field seen b.0.0.0 b.0.0.1 names one.clean one.new) (AreSoundFields-with_field seen b.0.0.0 b.0.0.1 sound one.valid one.sound) (levels-with seen b.0.0.0 b.0.0.1 levels flat one.in_levels) in
          let moved : fields_bytes seen ++ bytes ≡ fields_bytes (with_field seen b.0.0.0 b.0.0.1) ++ b.0.1 =
          ap (λ (t : List ℕ). fields_bytes seen ++ t) one.takes.parts ∙ sym (append_assoc (fields_bytes seen) _ b.0.1) ∙ ap (λ (t : List ℕ). t ++ b.0.1) (sym (fields_bytes-with seen b.0.0.0 b.0.0.1)) in
          record { parts = moved ∙ later.parts; names = later.names; sound = later.sound; in_levels = later.in_levels }
    ]
