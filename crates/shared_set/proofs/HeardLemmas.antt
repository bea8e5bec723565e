-- What a pass has heard of events, of all that was tried.
use Rattle.std.proofs.Common.{◌≡◌, ◌∙◌, ◌+◌, ◌<◌, ◌==◌, ap, sym, subst, refl, arith, inl, inr, ℕ, zero, suc, Bool, true, false, if◌then◌else◌, length, List, [], ◌∷◌, ◌++◌, append_assoc, append-nil, length-append, nat_lt, ltb-true, ltb-false, eq-eqb}
use Rattle.std.specs.List.{AllByRecursion, Contains}
use Rattle.std.proofs.lemmas.List.{nil_from_length}
use mathlib.Core.List.{IsPrefix}
use mathlib.Core.Logic.{dite}
use native.Mathlib.Decide.{ℕ_discrete}
use Rattle.set_model.specs.declared.command.Command.{Command}
use Rattle.set_model.specs.declared.command.Event.{Event}
use Rattle.set_world.specs.World.{Set}
use Rattle.turn_board.specs.declared.view.View.{View}
use Rattle.turn_board.specs.History.{Stand, calls_by, events, longer, names, times}
use Rattle.turn_board.specs.Views.{called, joined}
use Rattle.turn_board.proofs.Sums.{calls_append as turn_calls, one_if_other}
use Rattle.shared_set.specs.declared.attempt.Attempt.{Attempt}
use Rattle.shared_set.specs.declared.attempt.Attempt.TheVariants.{Done, Undone}
use Rattle.shared_set.specs.Attempts.{IsInSome, done_calls, done_in, done_turns, undone_calls, undone_in}
use Rattle.shared_set.specs.Passes.{heard}

-- ---- lists one after the other

pub done_append : (xs ys : List Attempt) → done_in (xs ++ ys) ≡ done_in xs ++ done_in ys
done_append [] ys = refl
done_append (Done event ∷ xs) ys = ap (λ (l : List Event). event ∷ l) (done_append xs ys)
done_append (Undone line command ∷ xs) ys = done_append xs ys

pub undone_append : (xs ys : List Attempt) → undone_in (xs ++ ys) ≡ undone_in xs ++ undone_in ys
undone_append [] ys = refl
undone_append (Done event ∷ xs) ys = undone_append xs ys
undone_append (Undone line command ∷ xs) ys = ap (λ (l : List (ℕ × Command)). (line, command) ∷ l) (undone_append xs ys)

pub turns_append : (ts us : List (ℕ × Attempt)) → done_turns (ts ++ us) ≡ done_turns ts ++ done_turns us
turns_append [] us = refl
turns_append ((pass, Done event) ∷ ts) us = ap (λ (l : List (ℕ × Event)). (pass, event) ∷ l) (turns_append ts us)
turns_append ((pass, Undone line command) ∷ ts) us = turns_append ts us

pub calls_append : (cs ds : List (ℕ × List Attempt)) → done_calls (cs ++ ds) ≡ done_calls cs ++ done_calls ds
calls_append [] ds = refl
calls_append (c ∷ cs) ds = ap (λ (l : List (ℕ × List Event)). (c.0, done_in c.1) ∷ l) (calls_append cs ds)

pub undone_calls_append : (cs ds : List (ℕ × List Attempt)) → undone_calls (cs ++ ds) ≡ undone_calls cs ++ undone_calls ds
undone_calls_append [] ds = refl
undone_calls_append (c ∷ cs) ds = ap (λ (l : List (List (ℕ × Command))). undone_in c.1 ∷ l) (undone_calls_append cs ds)

pub turns_begin : (ts us : List (ℕ × Attempt)) → IsPrefix ts us → IsPrefix (done_turns ts) (done_turns us)
turns_begin ts us begins = (done_turns begins.0, sym (turns_append ts begins.0) ∙ ap done_turns begins.1)

-- ---- the events of the turns

pub events_done : (ts : List (ℕ × Attempt)) → events (done_turns ts) ≡ done_in (events ts)
events_done [] = refl
events_done ((pass, Done event) ∷ ts) = ap (λ (l : List Event). event ∷ l) (events_done ts)
events_done ((pass, Undone line command) ∷ ts) = events_done ts

pub calls_done : (p : ℕ) (ts : List (ℕ × Attempt)) → calls_by p (done_turns ts) ≡ done_in (calls_by p ts)
calls_done p [] = refl
calls_done p ((pass, Done event) ∷ ts) = go (p == pass) (calls_done p ts)
  where
    go : (b : Bool) → calls_by p (done_turns ts) ≡ done_in (calls_by p ts)
        → (if b then event ∷ calls_by p (done_turns ts) else calls_by p (done_turns ts)) ≡ done_in (if b then Done event ∷ calls_by p ts else calls_by p ts)
    go true same = ap (λ (l : List Event). event ∷ l) same
    go false same = same
calls_done p ((pass, Undone line command) ∷ ts) = go (p == pass) (calls_done p ts)
  where
    go : (b : Bool) → calls_by p (done_turns ts) ≡ done_in (calls_by p ts)
        → calls_by p (done_turns ts) ≡ done_in (if b then Undone line command ∷ calls_by p ts else calls_by p ts)
    go true same = same
    go false same = same

pub stand_done : (ts : List (ℕ × Attempt)) (cs : List (ℕ × List Attempt)) → Stand ts cs → Stand (done_turns ts) (done_calls cs)
stand_done ts [] stand = tt
stand_done ts (c ∷ cs) stand = (calls_done c.0 ts ∙ ap done_in stand.0, stand_done ts cs stand.1)

pub names_done : (cs : List (ℕ × List Attempt)) → names (done_calls cs) ≡ names cs
names_done [] = refl
names_done (c ∷ cs) = ap (λ (l : List ℕ). c.0 ∷ l) (names_done cs)

-- ---- two passes in one

-- two beginnings of one list: the longer one has the longer one's events
pub longer_done : (ts us : List (ℕ × Attempt)) → IsPrefix ts (longer ts us) → IsPrefix us (longer ts us) → done_turns (longer ts us) ≡ longer (done_turns ts) (done_turns us)
longer_done ts us of_ts of_us = go (nat_lt (length ts) (length us)) of_ts of_us
  where
    shorter : (xs ys : List (ℕ × Event)) → IsPrefix xs ys → ys ≡ longer xs ys
    shorter xs ys begins = on (nat_lt (length xs) (length ys)) refl
      where
        on : (b : Bool) → nat_lt (length xs) (length ys) ≡ b → ys ≡ (if b then ys else xs)
        on true is = refl
        on false is =
            let least = ltb-false (length xs) (length ys) is in
            let n = length-append xs begins.0 in
            let m = ap (λ (l : List (ℕ × Event)). length l) begins.1 in
            let none : begins.0 ≡ [] = nil_from_length begins.0 (omega (arith, least, n, m)) in
            sym begins.1 ∙ ap (λ (l : List (ℕ × Event)). xs ++ l) none ∙ append-nil xs

    same : (xs ys : List (ℕ × Event)) → IsPrefix ys xs → xs ≡ longer xs ys
    same xs ys begins = on (nat_lt (length xs) (length ys)) refl
      where
        on : (b : Bool) → nat_lt (length xs) (length ys) ≡ b → xs ≡ (if b then ys else xs)
        on true is =
            let less = ltb-true (length xs) (length ys) is in
            let n = length-append ys begins.0 in
            let m = ap (λ (l : List (ℕ × Event)). length l) begins.1 in
            absurd (omega (arith, less, n, m))
        on false is = refl

    go : (b : Bool) → IsPrefix ts (if b then us else ts) → IsPrefix us (if b then us else ts) → done_turns (if b then us else ts) ≡ longer (done_turns ts) (done_turns us)
    go true begins also = shorter (done_turns ts) (done_turns us) (turns_begin ts us begins)
    go false begins also = same (done_turns ts) (done_turns us) (turns_begin us ts also)

pub joined_heard : {D : Type 0} (v w : View Attempt (Set D)) → IsPrefix v.turns (longer v.turns w.turns) → IsPrefix w.turns (longer v.turns w.turns) → heard (joined v w) ≡ joined (heard v) (heard w)
joined_heard {D} v w of_v of_w = λ i. record {
  parts = v.parts + w.parts;
  stage = v.stage;
  fixed = v.fixed;
  begun = (heard v).begun;
  turns = longer_done v.turns w.turns of_v of_w i;
  told = [];
  calls = calls_append v.calls w.calls i;
  answers = v.answers ++ w.answers;
}

-- ---- one turn more

pub called_done : {D : Type 0} (v : View Attempt (Set D)) (p : ℕ) (event : Event) (past : List Attempt) (others : List (ℕ × List Attempt))
    → heard (called v p (Done event) past others) ≡ called (heard v) p event (done_in past) (done_calls others)
called_done {D} v p event past others = λ i. record {
  parts = v.parts;
  stage = v.stage;
  fixed = v.fixed;
  begun = (heard v).begun;
  turns = turns_append v.turns ((p, Done event) ∷ []) i;
  told = done_turns v.told;
  calls = (p, done_append past (Done event ∷ []) i) ∷ done_calls others;
  answers = v.answers;
}

pub called_undone : {D : Type 0} (v : View Attempt (Set D)) (p line : ℕ) (command : Command) (past : List Attempt) (others : List (ℕ × List Attempt)) → v.calls ≡ (p, past) ∷ others
    → heard (called v p (Undone line command) past others) ≡ heard v
called_undone {D} v p line command past others is = λ i. record {
  parts = v.parts;
  stage = v.stage;
  fixed = v.fixed;
  begun = (heard v).begun;
  turns = (turns_append v.turns ((p, Undone line command) ∷ []) ∙ append-nil (done_turns v.turns)) i;
  told = done_turns v.told;
  calls = (ap (λ (es : List Event). (p, es) ∷ done_calls others) (done_append past (Undone line command ∷ []) ∙ append-nil (done_in past)) ∙ ap done_calls (sym is)) i;
  answers = v.answers;
}

-- ---- what was tried in vain is some pass's

-- what stands in a list that grew
contains_first : {A : Type 0} (x : A) (xs : List A) → Contains (x ∷ xs) x
contains_first x xs = (0, omega arith, refl)

contains_later : {A : Type 0} (y x : A) (xs : List A) → Contains xs x → Contains (y ∷ xs) x
contains_later y x xs (k, within, is) = (suc k, omega (arith, within), is)

contains_among : {A : Type 0} (x : A) (xs ys : List A) → Contains (xs ++ x ∷ ys) x
contains_among x [] ys = contains_first x ys
contains_among x (y ∷ xs) ys = contains_later y x (xs ++ x ∷ ys) (contains_among x xs ys)

-- the line of one that was tried in vain
line_tried : ℕ × Command → Attempt → ℕ × Command
line_tried other (Done event) = other
line_tried other (Undone line command) = (line, command)

not_done : (event : Event) (line : ℕ) (command : Command) → Done event ≡ Undone line command → ⊥
not_done event line command is = cc is

undone_among : (xs : List Attempt) (line : ℕ) (command : Command) → Contains xs (Undone line command) → Contains (undone_in xs) (line, command)
unfolding line_tried
undone_among [] line command (k, within, is) = absurd (omega (arith, within))
undone_among (Done event ∷ xs) line command (zero, within, is) = absurd (not_done event line command is)
undone_among (Done event ∷ xs) line command (suc k, within, is) = undone_among xs line command (k, omega (arith, within), is)
undone_among (Undone l c ∷ xs) line command (zero, within, is) = (0, omega arith, ap (line_tried (line, command)) is)
undone_among (Undone l c ∷ xs) line command (suc k, within, is) =
    contains_later (l, c) (line, command) (undone_in xs) (undone_among xs line command (k, omega (arith, within), is))

-- an attempt of a pass is one of its calls
among_calls : (p : ℕ) (attempt : Attempt) (front back : List (ℕ × Attempt)) → Contains (calls_by p (front ++ (p, attempt) ∷ back)) attempt
among_calls p attempt front back =
    subst (λ (l : List Attempt). Contains l attempt)
    (sym (turn_calls p front ((p, attempt) ∷ back) ∙ ap (λ (b : Bool). calls_by p front ++ (if b then attempt ∷ calls_by p back else calls_by p back)) (eq-eqb p p refl)))
    (contains_among attempt (calls_by p front) (calls_by p back))

-- a pass that is named among these has its calls there
named_tried : (ts : List (ℕ × Attempt)) (p line : ℕ) (command : Command) → Contains (calls_by p ts) (Undone line command) → (cs : List (ℕ × List Attempt)) → Stand ts cs → 0 < times p (names cs)
    → IsInSome (undone_calls cs) (line, command)
named_tried ts p line command has [] stand named = absurd (omega (arith, named))
named_tried ts p line command has (c ∷ cs) stand named = dite (ℕ_discrete p c.0)
    (λ same. inl (undone_among c.1 line command (subst (λ (l : List Attempt). Contains l (Undone line command)) (ap (λ (q : ℕ). calls_by q ts) same ∙ stand.0) has)))
    (λ other. let none = one_if_other p c.0 other in inr (named_tried ts p line command has cs stand.1 (omega (arith, none, named))))

-- what was tried in vain, was so by one of the passes, where these made all turns
pub all_tried : (ts : List (ℕ × Attempt)) (cs : List (ℕ × List Attempt)) → Stand ts cs → ((p : ℕ) → times p (names cs) ≡ 0 → calls_by p ts ≡ [])
    → AllByRecursion (IsInSome (undone_calls cs)) (undone_in (events ts))
all_tried ts cs stand no_others = go [] ts refl
  where
    one : (p line : ℕ) (command : Command) → Contains (calls_by p ts) (Undone line command) → IsInSome (undone_calls cs) (line, command)
    one p line command has = dite (ℕ_discrete (times p (names cs)) 0)
        (λ none. absurd (let within = (subst (λ (l : List Attempt). Contains l (Undone line command)) (no_others p none) has).1 in omega (arith, within)))
        (λ some_of. named_tried ts p line command has cs stand (omega (arith, some_of)))

    go : (front back : List (ℕ × Attempt)) → ts ≡ front ++ back → AllByRecursion (IsInSome (undone_calls cs)) (undone_in (events back))
    go front [] is = tt
    go front ((p, Done event) ∷ back) is = go (front ++ (p, Done event) ∷ []) back (is ∙ sym (append_assoc front ((p, Done event) ∷ []) back))
    go front ((p, Undone line command) ∷ back) is = (
      one p line command (subst (λ (l : List (ℕ × Attempt)). Contains (calls_by p l) (Undone line command)) (sym is) (among_calls p (Undone line command) front back)),
      go (front ++ (p, Undone line command) ∷ []) back (is ∙ sym (append_assoc front ((p, Undone line command) ∷ []) back)),
    )
