-- The lines of parts, played one after another.
use Rattle.std.proofs.Common.{ℕ, suc, ◌≡◌, ◌+◌, ◌≤◌, Bool, true, List, [], ◌∷◌, ◌++◌, length, length-append, append_assoc, refl, ap, sym, subst, arith, inl, inr, ◌∙◌}
use Rattle.std.specs.Prelude.{map, take, ⊤}
use Rattle.std.specs.List.{AllPass}
use Rattle.std.proofs.lemmas.List.{append-nil}
use Rattle.rs_disk.specs.State.{State}
use Rattle.set_model.specs.declared.command.Command.{Command}
use Rattle.set_model.specs.declared.command.Event.{Event}
use Rattle.set_model.specs.declared.reply.Reply.{Reply}
use Rattle.set_model.specs.Run.{Sizes, opening, run}
use Rattle.set_model.proofs.RunLemmas.{run-append}
use Rattle.fault_script.specs.declared.script.Part.{Part}
use Rattle.fault_script.specs.declared.script.Part.TheVariants.{Line, Par}
use Rattle.fault_script.specs.Script.{lines_in, lines_of}
use Rattle.set_world.specs.World.{Set}
use Rattle.set_world.specs.Disks.{DisksUndone, IsStep, NothingDone}
use Rattle.set_world.specs.Went.{DisksPlay}
use Rattle.shared_set.specs.Attempts.{AttemptsLeave}
use Rattle.set_program.specs.Disks.{DisksPlayed}
use Rattle.set_program.specs.Orders.{Follows, IsOrderOf}
use Rattle.set_program.specs.Parts.{AllStepped, DisksCut, DisksGo, SomeStepped, Stepped, SteppedSome, can_be_run}
use Rattle.set_program.specs.Steps.{line_of, reply_to}
use Rattle.set_program.proofs.DisksLemmas.{one_played, played_on}
use Rattle.set_program.proofs.PartOrders.{follows_in_part, follows_more, front_parts, line_comes, part_at, part_room}

-- ---- replies

-- one event more is one reply more
pub replies-append : (sizes : Sizes) (events : List Event) (event : Event) → (run sizes (events ++ event ∷ [])).replies ≡ (run sizes events).replies ++ (event.line, reply_to sizes events event) ∷ []
replies-append sizes events event = ap (λ r. r.replies) (run-append sizes events event)

-- more events have more replies
pub replies-more : (sizes : Sizes) (events more : List Event) → (replies : List (ℕ × Reply)) × ((run sizes (events ++ more)).replies ≡ (run sizes events).replies ++ replies)
replies-more sizes events [] = ([], ap (λ (es : List Event). (run sizes es).replies) (append-nil events) ∙ sym (append-nil (run sizes events).replies))
replies-more sizes events (event ∷ more) =
    let later = replies-more sizes (events ++ event ∷ []) more in (
      (event.line, reply_to sizes events event) ∷ later.0,
      ap (λ (es : List Event). (run sizes es).replies) (sym (append_assoc events (event ∷ []) more)) ∙ later.1
          ∙ ap (λ (rs : List (ℕ × Reply)). rs ++ later.0) (replies-append sizes events event)
          ∙ append_assoc (run sizes events).replies ((event.line, reply_to sizes events event) ∷ []) later.0,
    )

-- each event has one reply
pub replies-count : (sizes : Sizes) (events more : List Event) → length (run sizes (events ++ more)).replies ≡ length (run sizes events).replies + length more
replies-count sizes events [] =
    let same = ap (λ (es : List Event). length (run sizes es).replies) (append-nil events) in
    omega (arith, same)
replies-count sizes events (event ∷ more) =
    let later = replies-count sizes (events ++ event ∷ []) more in
    let same = ap (λ (es : List Event). length (run sizes es).replies) (sym (append_assoc events (event ∷ []) more)) in
    let one = ap (λ (rs : List (ℕ × Reply)). length rs) (replies-append sizes events event) in
    let two = length-append (run sizes events).replies ((event.line, reply_to sizes events event) ∷ []) in
    omega (arith, later, same, one, two)

-- ---- a line

one_line : {D : Type 0} (state : D → State) (line : ℕ) (command : Command) (reply : Reply) (old new : Set D) (is : IsStep state old new line command reply) → map line_of (is.event ∷ []) ≡ (line, command) ∷ []
one_line state line command reply old new is =
    ap (λ (n : ℕ). (n, is.event.command) ∷ []) is.line_is ∙ ap (λ (c : Command). (line, c) ∷ []) is.command_is

-- it is played
pub line_stepped : {D : Type 0} (state : D → State) (line : ℕ) (command : Command) (reply : Reply) (old new : Set D) (before after : List (ℕ × Reply))
    → IsStep state old new line command reply → new.sizes ≡ old.sizes → new.whole ≡ old.whole → after ≡ before ++ (line, reply) ∷ [] → Stepped state (Line line command) old new before after
line_stepped state line command reply old new before after is sizes whole kept = record {
  sizes = sizes;
  added = is.event ∷ [];
  events = is.history;
  order = one_line state line command reply old new is;
  replies = (line, reply) ∷ [];
  told = record {
    longer = ap (λ (es : List Event). (run old.sizes es).replies) is.history ∙ replies-append old.sizes old.history is.event
        ∙ ap (λ (n : ℕ). (run old.sizes old.history).replies ++ (n, reply_to old.sizes old.history is.event) ∷ []) is.line_is
        ∙ ap (λ (r : Reply). (run old.sizes old.history).replies ++ (line, r) ∷ []) (sym is.reply_is);
  };
  kept = kept;
  disks = one_played state old new line command reply is;
  whole = λ was. whole ∙ was;
}

-- it is played, and there is no memory for its reply
pub line_untold : {D : Type 0} (state : D → State) (line : ℕ) (command : Command) (reply : Reply) (old new : Set D) → IsStep state old new line command reply
    → new.sizes ≡ old.sizes → SteppedSome state (Line line command) old new
line_untold state line command reply old new is sizes = record {
  sizes = sizes;
  added = is.event ∷ [];
  events = is.history;
  lines = (line, command) ∷ [];
  order = refl;
  front = one_line state line command reply old new is;
  disks = inl (one_played state old new line command reply is);
}

-- it isn't played
pub line_undone : {D : Type 0} (state : D → State) (line : ℕ) (command : Command) (old new : Set D) → NothingDone state old new command → new.sizes ≡ old.sizes
    → SteppedSome state (Line line command) old new
line_undone state line command old new is sizes = record {
  sizes = sizes;
  added = [];
  events = is.history ∙ sym (append-nil old.history);
  lines = (line, command) ∷ [];
  order = refl;
  front = refl;
  disks = inr (refl, is.disks);
}

-- ---- parts

-- a test that all items pass
pub head_passes : {A : Type 0} (p : A → Bool) (x : A) (xs : List A) → AllPass p (x ∷ xs) → p x ≡ true
head_passes p x xs all = all 0 x (omega arith)

pub tail_passes : {A : Type 0} (p : A → Bool) (x : A) (xs : List A) → AllPass p (x ∷ xs) → AllPass p xs
tail_passes p x xs all k d within = all (suc k) d (omega (arith, within))

-- of the parts these are done, from the first event on, and others are left
pub record DoneUpTo {D : Type 0} (state : D → State) (whole left : List Part) (old new : Set D) : Type 0 where
  pub done : List Part
  pub whole_is : whole ≡ done ++ left
  pub fits : AllPass (can_be_run old.sizes.nodes) left
  pub sizes : new.sizes ≡ old.sizes
  pub follows : Follows done new.history
  pub disks : DisksPlayed state old.disks new

pub nothing_done : {D : Type 0} (state : D → State) (whole left : List Part) (set : Set D) → set.history ≡ [] → left ≡ whole → AllPass (can_be_run set.sizes.nodes) whole → DoneUpTo state whole left set set
nothing_done state whole left set start same fits = record {
  done = [];
  whole_is = sym same;
  fits = subst (λ (ps : List Part). AllPass (can_be_run set.sizes.nodes) ps) (sym same) fits;
  sizes = refl;
  follows = ap (map line_of) start;
  disks = subst (λ (es : List Event). DisksPlay state (opening set.sizes).world es set.disks set.disks) (sym start) refl;
}

-- nothing is left
pub all_done : {D : Type 0} (state : D → State) (whole left : List Part) (old new : Set D) → (up_to : DoneUpTo state whole left old new) → left ≡ [] → Follows whole new.history
all_done state whole left old new up_to none =
    subst (λ (ps : List Part). Follows ps new.history) (sym (up_to.whole_is ∙ ap (λ (ps : List Part). up_to.done ++ ps) none ∙ append-nil up_to.done)) up_to.follows

-- the next of those that are left
module _ {D : Type 0} (state : D → State) (whole left : List Part) (old mid : Set D) (up_to : DoneUpTo state whole left old mid) (part : Part) (rest : List Part) (next : left ≡ part ∷ rest) where
  pub passes : can_be_run mid.sizes.nodes part ≡ true
  passes = subst (λ (s : Sizes). can_be_run s.nodes part ≡ true) (sym up_to.sizes)
      (head_passes (can_be_run old.sizes.nodes) part rest (subst (λ (ps : List Part). AllPass (can_be_run old.sizes.nodes) ps) next up_to.fits))

  pub split : whole ≡ up_to.done ++ part ∷ rest
  split = up_to.whole_is ∙ ap (λ (ps : List Part). up_to.done ++ ps) next

  pub room : length (lines_in whole) ≤ 200000 → length mid.history + length (lines_of part) ≤ 200000
  room few = part_room up_to.done rest whole part mid.history split up_to.follows few

  -- it is played
  pub done_more : (new : Set D) (added : List Event) → new.sizes ≡ mid.sizes → new.history ≡ mid.history ++ added → IsOrderOf part (map line_of added) → DisksPlayed state old.disks new
      → DoneUpTo state whole rest old new
  done_more new added sizes events order disks = record {
    done = up_to.done ++ part ∷ [];
    whole_is = split ∙ sym (append_assoc up_to.done (part ∷ []) rest);
    fits = tail_passes (can_be_run old.sizes.nodes) part rest (subst (λ (ps : List Part). AllPass (can_be_run old.sizes.nodes) ps) next up_to.fits);
    sizes = sizes ∙ up_to.sizes;
    follows = follows_more up_to.done part mid.history added up_to.follows new.history events order;
    disks = disks;
  }

  -- memory runs out in it
  cut : (this : Part) (new : Set D) (added : List Event) (lines : List (ℕ × Command)) (Out : Type 0) → Out → whole ≡ up_to.done ++ this ∷ rest → new.sizes ≡ mid.sizes → new.history ≡ mid.history ++ added
      → IsOrderOf this lines → map line_of added ≡ take (length added) lines → DisksCut state this (run mid.sizes mid.history).world added mid.disks new.disks → DisksGo state whole old.disks new Out
  cut (Line number command) new added lines Out out is sizes events order front (inl played) = inl (played_on state old.disks mid new added sizes events played up_to.disks)
  cut (Line number command) new added lines Out out is sizes events order front (inr (none, undone)) = inr (
    out,
    inl (record {
      last = mid.disks;
      played = subst (λ (es : List Event). DisksPlay state (opening new.sizes).world es old.disks mid.disks) (sym same)
          (subst (λ (s : Sizes). DisksPlay state (opening s).world mid.history old.disks mid.disks) (sym sizes) up_to.disks);
      line = number;
      command = command;
      next = line_comes up_to.done rest whole number command new.history is (subst (λ (es : List Event). Follows up_to.done es) (sym same) up_to.follows);
      undone = subst (λ (es : List Event). DisksUndone state (run new.sizes es).world command mid.disks new.disks) (sym same)
          (subst (λ (s : Sizes). DisksUndone state (run s mid.history).world command mid.disks new.disks) (sym sizes) undone);
    }),
  )
    where
      same : new.history ≡ mid.history
      same = events ∙ ap (λ (es : List Event). mid.history ++ es) none ∙ append-nil mid.history
  cut (Par threads) new added lines Out out is sizes events order front (tried, done, undone, left) = inr (
    out,
    inr (record {
      earlier = mid.history;
      tried = tried;
      events_are = events ∙ ap (λ (es : List Event). mid.history ++ es) (sym done);
      block = record {
        done = length up_to.done;
        follows = subst (λ (ps : List Part). Follows ps mid.history) (sym (front_parts up_to.done rest whole (Par threads) is)) up_to.follows;
        threads = threads;
        block = part_at up_to.done rest whole (Par threads) is;
        lines = lines;
        merge = order;
        front = subst (λ (es : List Event). map line_of es ≡ take (length es) lines) (sym done) front;
        undone = undone;
      };
      begun = mid.disks;
      played = subst (λ (s : Sizes). DisksPlay state (opening s).world mid.history old.disks mid.disks) (sym sizes) up_to.disks;
      ran = subst (λ (s : Sizes). AttemptsLeave state (run s mid.history).world tried mid.disks new.disks) (sym sizes) left;
    }),
  )

  pub cut_disks : (new : Set D) (Out : Type 0) → Out → SteppedSome state part mid new → DisksGo state whole old.disks new Out
  cut_disks new Out out some = cut part new some.added some.lines Out out split some.sizes some.events some.order some.front some.disks

-- ---- parts whose replies are kept

pub record SteppedUpTo {D : Type 0} (state : D → State) (whole left : List Part) (old new : Set D) (replies : List (ℕ × Reply)) : Type 0 where
  pub up_to : DoneUpTo state whole left old new
  pub told : replies ≡ (run new.sizes new.history).replies

pub nothing_stepped : {D : Type 0} (state : D → State) (whole left : List Part) (set : Set D) (replies : List (ℕ × Reply)) → set.history ≡ [] → replies ≡ [] → left ≡ whole → AllPass (can_be_run set.sizes.nodes) whole
    → SteppedUpTo state whole left set set replies
nothing_stepped state whole left set replies start empty same fits = record {
  up_to = nothing_done state whole left set start same fits;
  told = empty ∙ ap (λ (es : List Event). (run set.sizes es).replies) (sym start);
}

module _ {D : Type 0} (state : D → State) (whole left : List Part) (old mid : Set D) (replies : List (ℕ × Reply)) (so_far : SteppedUpTo state whole left old mid replies) where
  pub all_stepped : left ≡ [] → AllStepped state whole old mid replies
  all_stepped none = record {
    sizes = so_far.up_to.sizes;
    follows = all_done state whole left old mid so_far.up_to none;
    told = so_far.told;
    disks = inl so_far.up_to.disks;
  }

  pub next_stepped : (part : Part) (rest : List Part) → left ≡ part ∷ rest → (new : Set D) (after : List (ℕ × Reply)) → Stepped state part mid new replies after → SteppedUpTo state whole rest old new after
  next_stepped part rest next new after stepped = record {
    up_to = done_more state whole left old mid so_far.up_to part rest next new stepped.added stepped.sizes stepped.events stepped.order
        (played_on state old.disks mid new stepped.added stepped.sizes stepped.events stepped.disks so_far.up_to.disks);
    told = stepped.kept ∙ ap (λ (rs : List (ℕ × Reply)). rs ++ stepped.replies) so_far.told ∙ sym stepped.told.longer ∙ ap (λ (s : Sizes). (run s new.history).replies) (sym stepped.sizes);
  }

  pub next_stops : (part : Part) (rest : List Part) → left ≡ part ∷ rest → (new : Set D) → SteppedSome state part mid new → SomeStepped state whole old new
  next_stops part rest next new some = record {
    sizes = some.sizes ∙ so_far.up_to.sizes;
    follows = follows_in_part so_far.up_to.done part mid.history some.added so_far.up_to.follows whole rest (split state whole left old mid so_far.up_to part rest next) new.history some.lines some.events some.order some.front;
    disks = cut_disks state whole left old mid so_far.up_to part rest next new ⊤ tt some;
  }
