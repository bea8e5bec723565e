-- What was tried on a set's disks, done or not.
use Rattle.std.proofs.Common.{◌≡◌, ◌∙◌, ℕ, zero, suc, ◌<◌, ap, sym, subst, refl, arith, inl, inr, true, List, [], ◌∷◌, ◌++◌, length, append_assoc, append-nil}
use Rattle.std.specs.Prelude.{slice_index_or}
use Rattle.std.specs.List.{AllByRecursion, Contains}
use Rattle.rs_disk.specs.State.{State}
use Rattle.set_model.specs.declared.command.Command.{Command}
use Rattle.set_model.specs.declared.command.Event.{Event}
use Rattle.set_model.specs.Limits.{is_for}
use Rattle.set_model.specs.World.{World, step}
use Rattle.set_world.specs.Disks.{DisksUndone}
use Rattle.set_world.specs.Went.{AllUndone, DisksRun}
use Rattle.set_world.specs.World.{Set}
use Rattle.shared_set.specs.declared.attempt.Attempt.{Attempt}
use Rattle.shared_set.specs.declared.attempt.Attempt.TheVariants.{Done, Undone}
use Rattle.shared_set.specs.Attempts.{AttemptsLeave, IsInSome, WentOnBy, done_in, one_more, undone_in}
use Rattle.set_program.specs.Blocks.{TriedBlock, TriedList}

-- a command that wasn't done, and then the events with such commands
undone_first : {D : Type 0} (state : D → State) (world : World) (command : Command) (events : List Event) (old between new : List D) → is_for (length world.nodes) command ≡ true
    → DisksUndone state world command old between → DisksRun state world events between new → DisksRun state world events old new
undone_first state world command [] old between new fits used (undone, all) = (command ∷ undone, (between, fits, used, all))
undone_first state world command (event ∷ later) old between new fits used (undone, before, tail, all, stepped, rest) =
    (command ∷ undone, before, tail, (between, fits, used, all), stepped, rest)

-- so the events ran, with some commands that weren't done
pub attempts_run : {D : Type 0} (state : D → State) (world : World) (tried : List Attempt) (old new : List D) → AttemptsLeave state world tried old new → DisksRun state world (done_in tried) old new
attempts_run state world [] old new same = ([], same)
attempts_run state world (Done event ∷ later) old new (between, stepped, rest) =
    ([], old, between, refl, stepped, attempts_run state (step world event).world later between new rest)
attempts_run state world (Undone line command ∷ later) old new (between, fits, used, rest) =
    undone_first state world command (done_in later) old between new fits used (attempts_run state world later between new rest)

-- and the other way: of commands that weren't done the lines aren't told
all_undone_tried : {D : Type 0} (state : D → State) (world : World) (commands : List Command) (tried : List Attempt) (old between new : List D) → AllUndone state world commands old between
    → AttemptsLeave state world tried between new → (all : List Attempt) × (done_in all ≡ done_in tried) × AttemptsLeave state world all old new
all_undone_tried {D} state world [] tried old between new same rest = (tried, refl, subst (λ (ds : List D). AttemptsLeave state world tried ds new) same rest)
all_undone_tried state world (command ∷ more) tried old between new (mid, fits, used, all) rest =
    let later = all_undone_tried state world more tried mid between new all rest in
    (Undone 0 command ∷ later.0, later.1, (mid, fits, used, later.2))

pub run_tried : {D : Type 0} (state : D → State) (world : World) (events : List Event) (old new : List D) → DisksRun state world events old new
    → (tried : List Attempt) × (done_in tried ≡ events) × AttemptsLeave state world tried old new
run_tried state world [] old new (undone, all) = all_undone_tried state world undone [] old new new all refl
run_tried state world (event ∷ later) old new (undone, before, tail, all, stepped, rest) =
    let more = run_tried state (step world event).world later tail new rest in
    let first = all_undone_tried state world undone (Done event ∷ more.0) old before new all (tail, stepped, more.2) in
    (first.0, first.1 ∙ ap (λ (es : List Event). event ∷ es) more.1, first.2)

-- ---- the lines of a block

in_more : {A : Type 0} (lists more : List (List A)) (item : A) → IsInSome lists item → IsInSome (lists ++ more) item
in_more [] more item has = absurd has
in_more (own ∷ lists) more item (inl has) = inl has
in_more (own ∷ lists) more item (inr has) = inr (in_more lists more item has)

in_last : {A : Type 0} (lists : List (List A)) (last : List A) (item : A) → Contains last item → IsInSome (lists ++ last ∷ []) item
in_last [] last item has = inl has
in_last (own ∷ lists) last item has = inr (in_last lists last item has)

each_so : {A : Type 0} (P Q : A → Type 0) → ((x : A) → P x → Q x) → (xs : List A) → AllByRecursion P xs → AllByRecursion Q xs
each_so P Q so [] all = tt
each_so P Q so (x ∷ xs) all = (so x all.0, each_so P Q so xs all.1)

all_after : {A : Type 0} (P : A → Type 0) (xs ys : List A) → AllByRecursion P xs → AllByRecursion P ys → AllByRecursion P (xs ++ ys)
all_after P [] ys first second = second
all_after P (x ∷ xs) ys first second = (first.0, all_after P xs ys first.1 second)

pub tried_none : (lists : List (List (ℕ × Command))) (before : List (List (ℕ × Command))) → TriedBlock lists before before
tried_none lists before = ([], sym (append-nil before), tt)

-- the passes of a block, and one of a list more
pub tried_block : (lists others : List (List (ℕ × Command))) (last : List (ℕ × Command)) (v v' w u z : List (List (ℕ × Command))) → lists ≡ others ++ last ∷ [] → v' ≡ v → TriedBlock others v' w → TriedList last u → z ≡ w ++ u
    → TriedBlock lists v z
tried_block lists others last v v' w u z lists_are left (joined, w_is, all) (own, u_is, of_last) both = (
  joined ++ own ∷ [],
  both ∙ ap (λ l. l ++ u) (w_is ∙ ap (λ l. l ++ joined) left) ∙ ap (λ l. (v ++ joined) ++ l) u_is ∙ append_assoc v joined (own ∷ []),
  subst (λ (ls : List (List (ℕ × Command))). AllByRecursion (AllByRecursion (IsInSome ls)) (joined ++ own ∷ [])) (sym lists_are)
      (all_after (AllByRecursion (IsInSome (others ++ last ∷ []))) joined (own ∷ [])
      (each_so (AllByRecursion (IsInSome others)) (AllByRecursion (IsInSome (others ++ last ∷ []))) (each_so (IsInSome others) (IsInSome (others ++ last ∷ [])) (λ line has. in_more others (last ∷ []) line has)) joined all)
      (each_so (Contains last) (IsInSome (others ++ last ∷ [])) (λ line has. in_last others last line has) own of_last, tt)),
)

-- a pass that tried no line in vain, and one that tried one
pub tried_no_line : (lines : List (ℕ × Command)) (after : List (List (ℕ × Command))) → after ≡ [] ∷ [] → TriedList lines after
tried_no_line lines after is = ([], is, tt)

pub tried_line : (lines : List (ℕ × Command)) (line : ℕ × Command) (before after : List (List (ℕ × Command))) → Contains lines line → before ≡ [] ∷ [] → after ≡ one_more line before → TriedList lines after
tried_line lines line before after has fresh is = (line ∷ [], is ∙ ap (λ l. one_more line l) fresh, (has, tt))

-- what all passes tried in vain is of the block's lines
of_lists : (lists joined : List (List (ℕ × Command))) (line : ℕ × Command) → AllByRecursion (AllByRecursion (IsInSome lists)) joined → IsInSome joined line → IsInSome lists line
of_lists lists [] line all has = absurd has
of_lists lists (own ∷ joined) line all (inl (k, within, is)) = subst (λ (l : ℕ × Command). IsInSome lists l) is (at own k line within all.0)
  where
    at : (xs : List (ℕ × Command)) (k : ℕ) (d : ℕ × Command) → k < length xs → AllByRecursion (IsInSome lists) xs → IsInSome lists (slice_index_or xs k d)
    at [] k d within all = absurd (omega (arith, within))
    at (x ∷ xs) zero d within all = all.0
    at (x ∷ xs) (suc k) d within all = at xs k d (omega (arith, within)) all.1
of_lists lists (own ∷ joined) line all (inr has) = of_lists lists joined line all.1 has

all_of_lists : (lists before after : List (List (ℕ × Command))) (undone : List (ℕ × Command)) → before ≡ [] ∷ [] → TriedBlock lists before after → AllByRecursion (IsInSome after) undone
    → AllByRecursion (IsInSome lists) undone
all_of_lists lists before after undone fresh (joined, is, all) tried =
    each_so (IsInSome after) (IsInSome lists) (λ line has. one line (subst (λ ls. IsInSome ls line) (is ∙ ap (λ l. l ++ joined) fresh) has)) undone tried
  where
    one : (line : ℕ × Command) → IsInSome (([] ∷ []) ++ joined) line → IsInSome lists line
    one line (inl (k, within, same)) = absurd (omega (arith, within))
    one line (inr has) = of_lists lists joined line all has

pub by_lists : {D : Type 0} (state : D → State) (lists before after : List (List (ℕ × Command))) (old new : Set D) (by : WentOnBy state after old new) → before ≡ [] ∷ [] → TriedBlock lists before after
    → AllByRecursion (IsInSome lists) (undone_in by.all)
by_lists state lists before after old new by fresh tried = all_of_lists lists before after (undone_in by.all) fresh tried by.tried

-- the item at a place of a list stands in it
pub line_there : (items lines : List (ℕ × Command)) → items ≡ lines → (n : ℕ) (x : ℕ × Command) → n < length items → x ≡ slice_index_or items n x → Contains lines x
line_there items lines same n x within is = subst (λ (l : List (ℕ × Command)). Contains l x) same (n, within, sym is)
