use Rattle.std.proofs.Common.{◌≡◌, ◌-◌, ◌+◌, ◌++◌, ◌∷◌, ◌||◌, true, false, List, ℕ, ap, sym, ◌∙◌, arith}
use Rattle.std.proofs.lemmas.Grind.{common_steps}
use Rattle.bson_doc.specs.Tree.{fields_from}
use Rattle.bson_doc.specs.View.{tree_of}
use Rattle.oplog_entry.specs.Lawful.{is_among}
use Rattle.doc_update.specs.Check.{all_names, given, names_of, has_twice}
use Rattle.doc_update.proofs.NameRules.{fields_from-first, seen-step, has_twice-names_of, has_twice-all_names}
use Rattle.doc_update.proofs.checks.has_twice.Goals as goal

pub operators-preserved : goal.operators-preserved
operators-preserved c =
    let fields = c.in-Some-default-Document.fields in
    let rest = all_names (fields_from (c.operators.operator - 1 + 1) c.args.operators.now) in
    let names : all_names (fields_from (c.operators.operator - 1) c.args.operators.now) ≡ names_of (fields_from c.names.place fields) ++ rest =
    ap all_names c.in-Some-default-Document.ensures
    ∙ ap (λ v. names_of (given (tree_of v)) ++ rest) c.in-Some-default-Document.field-0-1-is
    ∙ ap (λ fs. names_of fs ++ rest) (sym (fields_from-first fields c.names.place c.names-test.false)) in
    record { once = ap has_twice names ∙ c.names.invariant.once; known = λ q. c.names.invariant.known q ∙ ap (is_among q) (sym names) }

pub names-preserved : goal.names-preserved
names-preserved c =
    let fields = c.in-Some-default-Document.fields in
    let rest = all_names (fields_from (c.operators.operator - 1 + 1) c.args.operators.now) in
    let name = c.in_ok-from_str.field-0 in
    let names = names_of (fields_from c.names.place fields) ++ rest in
    let next : c.names.place - 1 + 1 ≡ c.names.place = omega arith in
    let turn : names_of (fields_from (c.names.place - 1) fields) ++ rest ≡ name ∷ names =
    ap (λ fs. names_of fs ++ rest) c.in-Some.ensures
    ∙ ap (λ m. c.in-Some.name.now ∷ (names_of (fields_from m fields) ++ rest)) next
    ∙ ap (λ (n : List ℕ). n ∷ names) (sym c.in_ok-from_str.ensures) in
    let known = c.names.invariant.known name in
    let added = c.in_ok-insert.ensures.added in
    let fresh = c.if-not-branch.false in
    let once = c.names.invariant.once in
    let new : is_among name names ≡ false = sym known ∙ grind (arith, common_steps) in
    record {
      once = ap has_twice turn ∙ ap (λ b. b || has_twice names) new ∙ once;
      known = λ q. seen-step name q names _ _ (c.in_ok-insert.ensures.updates.0 q) (c.names.invariant.known q) ∙ ap (is_among q) (sym turn);
    }

pub returns : goal.returns
returns c =
    sym (ap (λ fs. has_twice (all_names fs)) (sym (fields_from-first c.args.operators.now c.operators.operator c.operators-test.false)) ∙ c.operators.invariant.once)

pub returns-then-not-branch : goal.returns-then-not-branch
returns-then-not-branch c =
    let fields = c.in-Some-default-Document.fields in
    let rest = all_names (fields_from (c.operators.operator - 1 + 1) c.args.operators.now) in
    let name = c.in_ok-from_str.field-0 in
    let names = names_of (fields_from c.names.place fields) ++ rest in
    let next : c.names.place - 1 + 1 ≡ c.names.place = omega arith in
    let turn : names_of (fields_from (c.names.place - 1) fields) ++ rest ≡ name ∷ names =
    ap (λ fs. names_of fs ++ rest) c.in-Some.ensures
    ∙ ap (λ m. c.in-Some.name.now ∷ (names_of (fields_from m fields) ++ rest)) next
    ∙ ap (λ (n : List ℕ). n ∷ names) (sym c.in_ok-from_str.ensures) in
    let known = c.names.invariant.known name in
    let added = c.in_ok-insert.ensures.added in
    let seen = c.if-not-branch.true in
    let old : is_among name names ≡ true = sym known ∙ grind (arith, common_steps) in
    let here = has_twice-names_of fields (c.names.place - 1) rest (ap has_twice turn ∙ ap (λ b. b || has_twice names) old) in
    let all : all_names (fields_from (c.operators.operator - 1) c.args.operators.now) ≡ names_of fields ++ rest =
    ap all_names c.in-Some-default-Document.ensures ∙ ap (λ v. names_of (given (tree_of v)) ++ rest) c.in-Some-default-Document.field-0-1-is in
    sym (has_twice-all_names c.args.operators.now (c.operators.operator - 1) (ap has_twice all ∙ here))
