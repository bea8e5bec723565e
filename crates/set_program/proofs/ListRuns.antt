-- A list that is run with a pass of its own, line by line.
use Rattle.std.proofs.Common.{ℕ, ◌≡◌, ◌+◌, ◌≤◌, ◌<◌, ◌==◌, Bool, true, false, if◌then◌else◌, List, [], ◌∷◌, ◌++◌, length, take, drop, refl, ap, sym, subst, ◌∙◌, arith, append_assoc, append-nil, eq-eqb, length-append, take-append-drop}
use Rattle.std.specs.Prelude.{map, slice_index_or, Result, Ok, Err, Vec}
use Rattle.std.proofs.lemmas.List.{map-append, take_all, take_more}
use Rattle.std.specs.declared.alloc.Global.{Global}
use mathlib.Core.List.{IsPrefix}
use Rattle.set_model.specs.declared.command.Command.{Command}
use Rattle.set_model.specs.declared.command.Event.{Event}
use Rattle.set_model.specs.declared.reply.Reply.{Reply}
use Rattle.set_model.specs.Run.{Sizes}
use Rattle.turn_board.specs.declared.view.View.{View}
use Rattle.turn_board.specs.History.{Stand, calls_by, events}
use Rattle.turn_board.specs.Views.{seen}
use Rattle.turn_board.proofs.Sums.{events_append, prefix_same}
use Rattle.set_world.specs.declared.error.StepError.{StepError}
use Rattle.set_world.specs.declared.error.StepError.TheVariants.{HistoryFull, Memory}
use Rattle.shared_set.specs.Calls.{Steps, Waits}
use Rattle.set_program.specs.Steps.{line_of, reply_to}
use Rattle.set_program.specs.Blocks.{AreOf, AreOfSome, EndsList, IsNew, RanList, TellsList, told_of}
use Rattle.set_program.proofs.ToldMerge.{told_count, told_more, told_stays}

module _ {A : Type 0} where
  pub prefix_further : (xs ys zs : List A) → IsPrefix xs ys → IsPrefix ys zs → IsPrefix xs zs
  prefix_further xs ys zs p q = (p.0 ++ q.0, sym (append_assoc xs p.0 q.0) ∙ ap (λ (l : List A). l ++ q.0) p.1 ∙ q.1)

  pub prefix_length : (xs ys : List A) → IsPrefix xs ys → length xs ≤ length ys
  prefix_length xs ys p = let n = length-append xs p.0 in let m = ap (λ (l : List A). length l) p.1 in omega (arith, n, m)

  pub prefix_equal : (xs ys : List A) → ys ≡ xs → IsPrefix xs ys
  prefix_equal xs ys is = ([], append-nil xs ∙ sym is)

  pub prefix_of : (n : ℕ) (xs : List A) → IsPrefix (take n xs) xs
  prefix_of n xs = (drop n xs, take-append-drop n xs)

module _ {E : Type 0} where
  pub calls_more : (p : ℕ) (ts us : List (ℕ × E)) → calls_by p (ts ++ us) ≡ calls_by p ts ++ calls_by p us
  calls_more p [] us = refl
  calls_more p (t ∷ ts) us = go (p == t.0) (calls_more p ts us)
    where
      go : (b : Bool) → calls_by p (ts ++ us) ≡ calls_by p ts ++ calls_by p us
          → (if b then t.1 ∷ calls_by p (ts ++ us) else calls_by p (ts ++ us)) ≡ (if b then t.1 ∷ calls_by p ts else calls_by p ts) ++ calls_by p us
      go true more = ap (λ (l : List E). t.1 ∷ l) more
      go false more = more

  pub calls_own : (p : ℕ) (ts : List (ℕ × E)) (e : E) → calls_by p (ts ++ (p, e) ∷ []) ≡ calls_by p ts ++ e ∷ []
  calls_own p ts e = calls_more p ts ((p, e) ∷ []) ∙ ap (λ (b : Bool). calls_by p ts ++ (if b then e ∷ [] else [])) (eq-eqb p p refl)

  -- further turns show the same calls first
  pub seen_further : (ts us : List (ℕ × E)) (p : ℕ) (cs : List E) → IsPrefix ts us → IsPrefix cs (calls_by p ts) → IsPrefix cs (calls_by p us)
  seen_further ts us p cs begins h =
      prefix_further cs (calls_by p ts) (calls_by p us) h (calls_by p begins.0, sym (calls_more p ts begins.0) ∙ ap (λ (l : List (ℕ × E)). calls_by p l) begins.1)

module _ (sizes : Sizes) where
  told_own : (p : ℕ) (before : List Event) (ts : List (ℕ × Event)) (e : Event)
      → told_of sizes (λ q. p == q) before (ts ++ (p, e) ∷ []) ≡ told_of sizes (λ q. p == q) before ts ++ (length (before ++ events ts), e.line, reply_to sizes (before ++ events ts) e) ∷ []
  told_own p before ts e = told_more sizes (λ q. p == q) before ts ((p, e) ∷ [])
      ∙ ap (λ (b : Bool). told_of sizes (λ q. p == q) before ts ++ (if b then (length (before ++ events ts), e.line, reply_to sizes (before ++ events ts) e) ∷ [] else [])) (eq-eqb p p refl)

module _ {F : Type 0} (sizes : Sizes) where
  -- ---- one line more

  pub list_none : (v : View Event F) → IsNew v → TellsList sizes [] v v []
  list_none v new = record {
    ran = record {
      pass = new.0;
      events = [];
      later = [];
      lines = refl;
      calls = new.1;
      begun = refl;
      turns = sym (append-nil v.turns);
      unheard = new.2;
      seen = ([], refl);
      parts = refl;
      answers = refl;
    };
    told_is = refl;
  }

  module _ (v u : View Event F) (lines : List (ℕ × Command)) (told : List (ℕ × ℕ × Reply)) (so : TellsList sizes lines v u told) (turns : List (ℕ × Event)) (begins : IsPrefix u.turns turns) where
    -- the turns after those that the pass began with
    abbrev after : List (ℕ × Event)
    after = so.ran.later ++ begins.0

    turns_are : turns ≡ v.turns ++ after
    turns_are = sym begins.1 ∙ ap (λ (l : List (ℕ × Event)). l ++ begins.0) so.ran.turns ∙ append_assoc v.turns so.ran.later begins.0

    all_after : u.begun ++ events turns ≡ seen v ++ events after
    all_after = (λ i. so.ran.begun i ++ events (turns_are i)) ∙ ap (λ (l : List Event). v.begun ++ l) (events_append v.turns after) ∙ sym (append_assoc v.begun (events v.turns) (events after))

    calls_after : calls_by so.ran.pass after ≡ calls_by so.ran.pass turns
    calls_after = sym (ap (calls_by so.ran.pass) turns_are ∙ calls_more so.ran.pass v.turns after ∙ ap (λ (l : List Event). l ++ calls_by so.ran.pass after) so.ran.unheard)

    told_after : calls_by so.ran.pass turns ≡ so.ran.events → told ≡ told_of sizes (λ q. so.ran.pass == q) (seen v) after
    told_after stand =
        let count = told_count sizes so.ran.pass (seen v) after in
        let same = ap (λ (l : List Event). length l) (calls_after ∙ stand) in
        so.told_is ∙ sym (told_stays sizes so.ran.pass (length so.ran.events) (seen v) so.ran.later after (begins.0, refl) (prefix_length so.ran.events (calls_by so.ran.pass so.ran.later) so.ran.seen))
        ∙ take_all (length so.ran.events) (told_of sizes (λ q. so.ran.pass == q) (seen v) after) (omega (arith, count, same))

  module _ (v u w : View Event F) (lines : List (ℕ × Command)) (told : List (ℕ × ℕ × Reply)) (so : TellsList sizes lines v u told) where
    pub list_step : (line : ℕ) (command : Command) (place : ℕ) (reply : Reply) → Steps sizes u w line command place reply
        → TellsList sizes (lines ++ (line, command) ∷ []) v w (told ++ (place, line, reply) ∷ [])
    list_step line command place reply s =
        let one : (so.ran.pass, so.ran.events) ∷ [] ≡ (s.pass, s.past) ∷ s.others = sym so.ran.calls ∙ s.calls in
        let pass_is : so.ran.pass ≡ s.pass = ap (λ (l : List (ℕ × List Event)). (slice_index_or l 0 (0, [])).0) one in
        let past_is : so.ran.events ≡ s.past = ap (λ (l : List (ℕ × List Event)). (slice_index_or l 0 (0, [])).1) one in
        let others_is : [] ≡ s.others = ap (λ (l : List (ℕ × List Event)). drop 1 l) one in
        let mid = after v u lines told so s.turns s.meets.begins in
        let turns_is = turns_are v u lines told so s.turns s.meets.begins in
        let stands : calls_by s.pass s.turns ≡ s.past = (subst (λ (l : List (ℕ × List Event)). Stand s.turns l) s.calls s.meets.calls).0 in
        let stands_so : calls_by so.ran.pass s.turns ≡ so.ran.events = ap (λ (p : ℕ). calls_by p s.turns) pass_is ∙ stands ∙ sym past_is in
        let stand : calls_by s.pass mid ≡ s.past = ap (λ (p : ℕ). calls_by p mid) (sym pass_is) ∙ calls_after v u lines told so s.turns s.meets.begins ∙ stands_so ∙ past_is in
        let before : told ≡ told_of sizes (λ q. s.pass == q) (seen v) mid = told_after v u lines told so s.turns s.meets.begins stands_so
        ∙ ap (λ (p : ℕ). told_of sizes (λ q. p == q) (seen v) mid) pass_is in
        let more : length (told_of sizes (λ q. s.pass == q) (seen v) (mid ++ (s.pass, s.event) ∷ [])) ≡ length (s.past ++ s.event ∷ []) =
        told_count sizes s.pass (seen v) (mid ++ (s.pass, s.event) ∷ []) ∙ ap (λ (l : List Event). length l) (calls_own s.pass mid s.event ∙ ap (λ (l : List Event). l ++ s.event ∷ []) stand) in
        subst (λ (z : View Event F). TellsList sizes (lines ++ (line, command) ∷ []) v z (told ++ (place, line, reply) ∷ [])) (sym s.now) (record {
          ran = record {
            pass = s.pass;
            events = s.past ++ s.event ∷ [];
            later = mid ++ (s.pass, s.event) ∷ [];
            lines = map-append line_of s.past (s.event ∷ []) ∙ ap (λ (l : List Event). map line_of l ++ line_of s.event ∷ []) (sym past_is)
                ∙ ap (λ (l : List (ℕ × Command)). l ++ line_of s.event ∷ []) so.ran.lines ∙ (λ i. lines ++ (s.line_is i, s.command_is i) ∷ []);
            calls = ap (λ (l : List (ℕ × List Event)). (s.pass, s.past ++ s.event ∷ []) ∷ l) (sym others_is);
            begun = so.ran.begun;
            turns = ap (λ (l : List (ℕ × Event)). l ++ (s.pass, s.event) ∷ []) turns_is ∙ append_assoc v.turns mid ((s.pass, s.event) ∷ []);
            unheard = ap (λ (p : ℕ). calls_by p v.turns) (sym pass_is) ∙ so.ran.unheard;
            seen = prefix_equal (s.past ++ s.event ∷ []) (calls_by s.pass (mid ++ (s.pass, s.event) ∷ [])) (calls_own s.pass mid s.event ∙ ap (λ (l : List Event). l ++ s.event ∷ []) stand);
            parts = so.ran.parts;
            answers = so.ran.answers;
          };
          told_is = ap (λ (l : List (ℕ × ℕ × Reply)). l ++ (place, line, reply) ∷ []) before
              ∙ (λ i. told_of sizes (λ q. s.pass == q) (seen v) mid ++ (s.place_is i, sym s.line_is i, s.reply_is i) ∷ [])
              ∙ ap (λ (es : List Event). told_of sizes (λ q. s.pass == q) (seen v) mid ++ (length es, s.event.line, reply_to sizes es s.event) ∷ []) (all_after v u lines told so s.turns s.meets.begins)
              ∙ sym (told_own sizes s.pass (seen v) mid s.event)
              ∙ sym (take_all (length (s.past ++ s.event ∷ [])) (told_of sizes (λ q. s.pass == q) (seen v) (mid ++ (s.pass, s.event) ∷ [])) (omega (arith, more)));
        })

    -- nothing was done
    pub list_waits : Waits sizes u w → RanList (AreOf lines) v w
    list_waits s =
        let stand : calls_by so.ran.pass s.turns ≡ so.ran.events = (subst (λ (l : List (ℕ × List Event)). Stand s.turns l) so.ran.calls s.meets.calls).0 in
        let mid = after v u lines told so s.turns s.meets.begins in
        subst (λ (z : View Event F). RanList (AreOf lines) v z) (sym s.now) (record {
          pass = so.ran.pass;
          events = so.ran.events;
          later = mid;
          lines = so.ran.lines;
          calls = so.ran.calls;
          begun = so.ran.begun;
          turns = turns_are v u lines told so s.turns s.meets.begins;
          unheard = so.ran.unheard;
          seen = prefix_equal so.ran.events (calls_by so.ran.pass mid) (calls_after v u lines told so s.turns s.meets.begins ∙ stand);
          parts = so.ran.parts;
          answers = so.ran.answers;
        })

  -- some lines of a list
  pub list_some : (v w : View Event F) (lines all : List (ℕ × Command)) → IsPrefix lines all → RanList (AreOf lines) v w → RanList (AreOfSome all) v w
  list_some v w lines all front so = record {
    pass = so.pass;
    events = so.events;
    later = so.later;
    lines = subst (λ (l : List (ℕ × Command)). IsPrefix l all) (sym so.lines) front;
    calls = so.calls;
    begun = so.begun;
    turns = so.turns;
    unheard = so.unheard;
    seen = so.seen;
    parts = so.parts;
    answers = so.answers;
  }

  pub list_broken : (v w : View Event F) (all : List (ℕ × Command)) (error : StepError) → RanList (AreOfSome all) v w → (error ≡ HistoryFull → length (seen w) ≡ 4294967295)
      → EndsList sizes all v w (Err error)
  list_broken v w all Memory some full = some
  list_broken v w all HistoryFull some full = (some, full refl)

  pub list_is_some : (v w : View Event F) (all : List (ℕ × Command)) (result : Result (Vec (ℕ × ℕ × Reply) Global) StepError) → EndsList sizes all v w result
      → RanList (AreOfSome all) v w
  list_is_some v w all (Ok told) ends = list_some v w all all (prefix_same all) ends.ran
  list_is_some v w all (Err Memory) ends = ends
  list_is_some v w all (Err HistoryFull) ends = ends.0

  -- ---- a loop over the lines

  module _ (v u w : View Event F) (items lines : List (ℕ × Command)) (same : items ≡ lines) (n : ℕ) (told : List (ℕ × ℕ × Reply)) (so : TellsList sizes (take n items) v u told) where
    pub list_fails : (error : StepError) → Waits sizes u w → (error ≡ HistoryFull → length (seen w) ≡ 4294967295) → EndsList sizes lines v w (Err error)
    list_fails error waits full =
        list_broken v w lines error (list_some v w (take n items) lines (subst (λ (l : List (ℕ × Command)). IsPrefix (take n items) l) same (prefix_of n items)) (list_waits v u w (take n items) told so waits)) full

    module _ (x : ℕ × Command) (within : n < length items) (is : x ≡ slice_index_or items n x) (place : ℕ) (reply : Reply) (steps : Steps sizes u w x.0 x.1 place reply) where
      one_more : take n items ++ x ∷ [] ≡ take (n + 1) items
      one_more = ap (λ (y : ℕ × Command). take n items ++ y ∷ []) is ∙ sym (take_more items n x within)

      more : TellsList sizes (take n items ++ x ∷ []) v w (told ++ (place, x.0, reply) ∷ [])
      more = list_step v u w (take n items) told so x.0 x.1 place reply steps

      pub list_next : (kept : List (ℕ × ℕ × Reply)) → kept ≡ told ++ (place, x.0, reply) ∷ [] → TellsList sizes (take (n + 1) items) v w kept
      list_next kept is_kept = subst (λ (l : List (ℕ × Command)). TellsList sizes l v w kept) one_more (subst (λ (t : List (ℕ × ℕ × Reply)). TellsList sizes (take n items ++ x ∷ []) v w t) (sym is_kept) more)

      pub list_unkept : RanList (AreOfSome lines) v w
      list_unkept = list_some v w (take n items ++ x ∷ []) lines (subst (λ (l : List (ℕ × Command)). IsPrefix l lines) (sym one_more) (subst (λ (l : List (ℕ × Command)). IsPrefix (take (n + 1) items) l) same (prefix_of (n + 1) items))) more.ran

    pub list_whole : length items ≤ n → TellsList sizes lines v u told
    list_whole over = subst (λ (l : List (ℕ × Command)). TellsList sizes l v u told) (take_all n items over ∙ same) so
