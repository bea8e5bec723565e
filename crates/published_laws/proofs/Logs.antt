-- Ends of logs, and what stands at one place of two logs.
use Rattle.std.proofs.Common.{◌≡◌, ◌∙◌, ◌+◌, inl, inr, ap, sym, subst, refl, arith, ℕ, suc, List, [], ◌∷◌, ◌++◌, append_assoc, append-nil, length, length-append}
use Rattle.std.proofs.lemmas.Bool.{cases_order}
use Rattle.rs_optime.specs.Later.{earlier_of}
use Rattle.rs_optime.specs.declared.optime.OpTime.{OpTime}
use Rattle.rs_optime.proofs.Optimes.{at_most_antisym, at_most_earlier, at_most_from, at_most_refl, at_most_trans, before_at_most, earlier_left, earlier_right}
use Rattle.oplog_entry.specs.Visible.{ZERO, last_of, log_up_to}
use Rattle.oplog_entry.specs.declared.entry.Entry.{Entry}
use Rattle.commit_machine.specs.Words.{AtMost, Has, OnOneBranch, Rises}
use Rattle.commit_machine.specs.Nodes.{Snapshot, State, Was}
use Rattle.commit_machine.proofs.Facts.{Invariant}
use Rattle.commit_machine.proofs.Lists.{has_last_of, has_right, last_append, last_is_point, rises_across, up_to_last}
use Rattle.commit_machine.proofs.Optimes.{follows_before}
use Rattle.commit_machine.proofs.Static.{same_branch}

-- ---- the earlier of optimes

pub earlier_is : (a b : OpTime) → AtMost a b → earlier_of a b ≡ a
earlier_is a b within = at_most_antisym (earlier_of a b) a (earlier_left a b) (at_most_earlier a a b (at_most_refl a) within)

pub earlier_twice : (a b c : OpTime) → AtMost c b → earlier_of (earlier_of a b) c ≡ earlier_of a c
earlier_twice a b c within =
    at_most_antisym (earlier_of (earlier_of a b) c) (earlier_of a c)
    (at_most_earlier (earlier_of (earlier_of a b) c) a c (at_most_trans _ (earlier_of a b) a (earlier_left (earlier_of a b) c) (earlier_left a b)) (earlier_right (earlier_of a b) c))
    (at_most_earlier (earlier_of a c) (earlier_of a b) c
    (at_most_earlier (earlier_of a c) a b (earlier_left a c) (at_most_trans (earlier_of a c) c b (earlier_right a c) within))
    (earlier_right a c))

pub zero_first : (o : OpTime) → AtMost ZERO o
zero_first o = elim (cases_order 0 o.term) [
  | inl same ↦ at_most_from ZERO o (inr (same, omega arith))
  | inr other ↦ elim other [ inl less ↦ at_most_from ZERO o (inl less) | inr more ↦ absurd (omega (arith, more)) ]
]

-- ---- ends

-- what ends a log is no earlier than what ended it before the last entry
pub last_before : (front : List Entry) (entry : Entry) (more : List Entry) → Rises (front ++ entry ∷ more) → AtMost (last_of front) (last_of (front ++ entry ∷ []))
last_before front entry more rises = subst (λ (o : OpTime). AtMost (last_of front) o) (sym (last_append front entry [])) (elim (last_is_point front) [
  | inl zero_is ↦ subst (λ (o : OpTime). AtMost o entry.optime) (sym zero_is) (zero_first entry.optime)
  | inr there ↦ before_at_most (last_of front) entry.optime (follows_before (last_of front) entry.optime (rises_across (last_of front) entry.optime front (entry ∷ more) rises there (inl refl)))
])

-- ---- what stands at one place

-- of two prefixes that are equally long, on one branch, each is the other
level_same : (one two rest : List Entry) → two ≡ one ++ rest → length one ≡ length two → one ≡ two
level_same one two [] is level = sym (append-nil one) ∙ sym is
level_same one two (entry ∷ rest) is level =
    let longer : length two ≡ length one + suc (length rest) = ap length is ∙ length-append one (entry ∷ rest) in absurd (omega (arith, longer, level))

level_branch : (one two : List Entry) → OnOneBranch one two → length one ≡ length two → one ≡ two
level_branch one two (inl begins) level = level_same one two begins.0 begins.1 level
level_branch one two (inr begins) level = sym (level_same two one begins.0 begins.1 (sym level))

up_to_here : (front : List Entry) (entry : Entry) (rest log : List Entry) → Rises log → log ≡ front ++ entry ∷ rest → log_up_to entry.optime log ≡ front ++ entry ∷ []
up_to_here front entry rest log rises is =
    let last_is : last_of (front ++ entry ∷ []) ≡ entry.optime = last_append front entry [] in
    ap (λ (o : OpTime). log_up_to o log) (sym last_is)
    ∙ up_to_last (front ++ entry ∷ []) log rises (rest, is ∙ sym (append_assoc front (entry ∷ []) rest))
    (has_last_of entry.optime (front ++ entry ∷ []) (has_right entry.optime front (entry ∷ []) (inl refl)))

here : (front : List Entry) (entry : Entry) (rest log : List Entry) → log ≡ front ++ entry ∷ rest → Has entry.optime log
here front entry rest log is = subst (λ (l : List Entry). Has entry.optime l) (sym is) (has_right entry.optime front (entry ∷ rest) (inl refl))

-- entries of one term at one place of two logs are at one optime
pub same_place : (state : State) → Invariant state → (v : ℕ) (y : Snapshot) → Was state v y → (m : ℕ) (x : Snapshot) → Was state m x
    → (front rest : List Entry) (entry : Entry) → y.log ≡ front ++ entry ∷ rest → (same more : List Entry) (found : Entry) → x.log ≡ same ++ found ∷ more
    → length same ≡ length front → found.optime.term ≡ entry.optime.term → found.optime ≡ entry.optime
same_place state kept v y was m x was_too front rest entry is same more found is_too level term =
    sym (last_append same found []) ∙ ap last_of (sym one) ∙ last_append front entry []
  where
    branch : OnOneBranch (front ++ entry ∷ []) (same ++ found ∷ [])
    branch = subst (λ (l : List Entry). OnOneBranch l (same ++ found ∷ [])) (up_to_here front entry rest y.log (kept.log_rises v y was) is)
        (subst (λ (l : List Entry). OnOneBranch (log_up_to entry.optime y.log) l) (up_to_here same found more x.log (kept.log_rises m x was_too) is_too)
        (same_branch state kept v y was m x was_too entry.optime found.optime (here front entry rest y.log is) (here same found more x.log is_too) (sym term)))

    long : (l : List Entry) (e : Entry) → length (l ++ e ∷ []) ≡ length l + 1
    long l e = length-append l (e ∷ [])

    one : front ++ entry ∷ [] ≡ same ++ found ∷ []
    one = level_branch (front ++ entry ∷ []) (same ++ found ∷ []) branch
        (let a : length (front ++ entry ∷ []) ≡ length front + 1 = long front entry in
        let b : length (same ++ found ∷ []) ≡ length same + 1 = long same found in omega (arith, a, b, level))

-- ---- logs that differ

pub longer : (entry : Entry) (log : List Entry) → [] ≡ entry ∷ log → ⊥
longer entry log same = let a : 0 ≡ suc (length log) = ap length same in omega (arith, a)

pub shorter : (one two : Entry) → one ∷ two ∷ [] ≡ one ∷ [] → ⊥
shorter one two same = let a : 2 ≡ 1 = ap length same in omega (arith, a)
