-- No text that continues differently after the place of a refusal has a value either.
use Rattle.std.proofs.Common.{◌≡◌, ℕ, ◌+◌, ◌-◌, ◌<◌, ◌≤◌, List, ◌++◌, length, take, drop, Err, refl, sym, ap, ◌∙◌, arith}
use Rattle.std.proofs.lemmas.List.{length-drop, length-take, take-append-drop, drop-take}
use Rattle.bson_doc.specs.Tree.{Tree}
use Rattle.doc_text.specs.declared.fault.Fault.{Fault}
use Rattle.doc_text.specs.declared.fault.Rule.{Rule}
use Rattle.doc_text.specs.declared.fault.Rule.TheVariants.{Unexpected, Number, Escape, Hex, DuplicateName, TooDeep, NameZero}
use Rattle.doc_text.specs.Fault.{Read, error_of}
use Rattle.doc_text.specs.Values.{value_at, in_text}
use Rattle.doc_text.specs.Spelling.{Stands}
use Rattle.doc_text.specs.Refusal.{BeginsNoValue, RulesOut}
use Rattle.doc_text.proofs.Locality.{IsLocal, read, Alike, Local, front_alike}
use Rattle.doc_text.proofs.LocalValues.{value_local}
use Rattle.doc_text.proofs.SpelledIsRead.{stands_answer}

-- two texts that are the same up to a place are so from an earlier one on
same_front : (at n : ℕ) (xs ys : List ℕ) → take (at + n) xs ≡ take (at + n) ys → take n (drop at xs) ≡ take n (drop at ys)
same_front at n xs ys same = sym (drop-take at n xs) ∙ ap (drop at) same ∙ drop-take at n ys

-- a reader that stops before the end of a prefix does so in every text with that prefix
stops_too : (f : List ℕ → Read Tree) → Local read f → (n : ℕ) (xs ys : List ℕ) (fault : Fault) → f xs ≡ Err fault → IsLocal fault.rule → length xs - n < fault.left → take n ys ≡ take n xs → (e : Fault) × (f ys ≡ Err e)
stops_too f looks n xs ys fault refused local far same =
    let alike : Alike read (drop n xs) (drop n ys) (f (take n xs ++ drop n xs)) (f (take n xs ++ drop n ys)) = front_alike read f looks (take n xs) (drop n xs) (drop n ys) in
    let here : f (take n xs ++ drop n xs) ≡ Err fault = rw (take-append-drop n xs) refused in
    let too = (rw here at alike) local (omega (arith, length-drop n xs)) in
    let whole : take n xs ++ drop n ys ≡ ys = rw (← same) (take-append-drop n ys) in
    (too.0, ap f (sym whole) ∙ too.1)

-- as many bytes are seen as there are up to the place
seen : (at n len left : ℕ) → at + left ≤ len → 0 < left → n ≡ len - left + 1 - at → (len - at - n < left) × (len - left + 1 ≡ at + n)
seen at n len left small some is = (omega arith, omega arith)

as_long : (n : ℕ) (xs ys : List ℕ) → take n xs ≡ take n ys → n ≤ length ys → n ≤ length xs
as_long n xs ys same long = omega (arith, ap length same, length-take n xs, length-take n ys)

no_value : (bytes : List ℕ) (at : ℕ) (tree : Tree) (end : ℕ) (fault : Fault) → at ≤ length bytes → Stands bytes at tree end → value_at 100 (drop at bytes) ≡ Err fault → ⊥
no_value bytes at tree end fault within stands refused = cc (stands_answer bytes at tree end within stands, ap (in_text (length bytes)) refused)

goes_nowhere : (bytes : List ℕ) (at : ℕ) (fault : Fault) → at ≤ length bytes → value_at 100 (drop at bytes) ≡ Err fault → IsLocal fault.rule → BeginsNoValue bytes at (length bytes - fault.left)
goes_nowhere bytes at fault within refused local = λ other tree end inside same stands.
    let n = length bytes - fault.left + 1 - at in
    let small : fault.left ≤ length (drop at bytes) = (rw refused at ((value_local 100).within (drop at bytes))) local in
    let long : length (drop at bytes) ≡ length bytes - at = length-drop at bytes in
    let counts = seen at n (length bytes) fault.left (omega arith) (omega arith) refl in
    let fronts : take n (drop at other) ≡ take n (drop at bytes) = same_front at n other bytes (rw counts.1 at same) in
    let too = stops_too (value_at 100) (value_local 100) n (drop at bytes) (drop at other) fault refused local (rw long counts.0) fronts in
    let reached = as_long (length bytes - fault.left + 1) other bytes same (omega arith) in
    no_value other at tree end too.0 (omega arith) stands too.1

by_rule : (bytes : List ℕ) (at place : ℕ) (rule : Rule) → (IsLocal rule → BeginsNoValue bytes at place) → RulesOut bytes at (error_of rule place)
by_rule bytes at place Unexpected nowhere = nowhere tt
by_rule bytes at place Number nowhere = tt
by_rule bytes at place Escape nowhere = nowhere tt
by_rule bytes at place Hex nowhere = nowhere tt
by_rule bytes at place DuplicateName nowhere = tt
by_rule bytes at place TooDeep nowhere = nowhere tt
by_rule bytes at place NameZero nowhere = nowhere tt

pub rules_out : (bytes front : List ℕ) (at : ℕ) (fault : Fault) → at ≤ length bytes → front ≡ drop at bytes → value_at 100 front ≡ Err fault → RulesOut bytes at (error_of fault.rule (length bytes - fault.left))
rules_out bytes front at fault within is refused =
    by_rule bytes at (length bytes - fault.left) fault.rule (goes_nowhere bytes at fault within (ap (value_at 100) (sym is) ∙ refused))
