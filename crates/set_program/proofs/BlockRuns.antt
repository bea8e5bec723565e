-- The lists of a block, whose passes are joined one after another.
use Rattle.std.proofs.Common.{ℕ, zero, suc, ◌≡◌, ◌+◌, ◌≤◌, ◌<◌, ◌==◌, ◌&&◌, Bool, true, false, if◌then◌else◌, List, [], ◌∷◌, ◌++◌, length, drop, refl, ap, sym, subst, ◌∙◌, arith, append_assoc, append-nil, length-append, nat_lt, ltb-true, ltb-false}
use Rattle.std.specs.Prelude.{All, slice_index_or, Result, Ok, Err, IfOk, Vec}
use Rattle.std.specs.List.{AllPass, AllZip, list_all}
use Rattle.std.specs.List.Sorted.{IsNonDecreasingBy}
use Rattle.std.proofs.lemmas.List.Sorted.{IsNonDecreasingBy-take}
use Rattle.std.specs.declared.alloc.Global.{Global}
use mathlib.Core.Logic.{dite}
use mathlib.Core.List.{IsPrefix}
use native.Mathlib.Decide.{dec_le}
use Rattle.set_model.specs.declared.command.Command.{Command}
use Rattle.set_model.specs.declared.command.Event.{Event}
use Rattle.set_model.specs.declared.reply.Reply.{Reply}
use Rattle.set_model.specs.Limits.{IsRun}
use Rattle.set_model.specs.Run.{Sizes}
use Rattle.fault_script.specs.Merge.{Interleaves}
use Rattle.turn_board.specs.declared.view.View.{View}
use Rattle.turn_board.specs.History.{calls_by, events, names, times}
use Rattle.turn_board.specs.Views.{half, joined, less_one, numbered_as, seen}
use Rattle.turn_board.proofs.Sums.{prefix_same, times_append}
use Rattle.set_world.specs.declared.error.StepError.{StepError}
use Rattle.set_world.specs.declared.error.StepError.TheVariants.{HistoryFull, Memory}
use Rattle.set_program.specs.Blocks.{AreOf, AreOfSome, EndsBlock, EndsList, IsSeen, IsToldOf, IsUnheard, KeepsRun, KeepsShort, Merges, RanBlock, RanList, Rises, TellsBlock, TellsList, told_of}
use Rattle.set_program.proofs.ToldMerge.{rises_to, told_rises, told_stays}
use Rattle.set_program.proofs.ListRuns.{list_is_some, prefix_further, prefix_length, seen_further}
use Rattle.set_program.proofs.MergeLemmas.{merge_more}

module _ {A : Type 0} (P : A → Type 0) where
  all_head : (x : A) (xs : List A) → All P (x ∷ xs) → P x
  all_head x xs h = h 0 x (omega arith)

  all_tail : (x : A) (xs : List A) → All P (x ∷ xs) → All P xs
  all_tail x xs h = λ k d within. h (suc k) d (omega arith)

  all_cons : (x : A) (xs : List A) → P x → All P xs → All P (x ∷ xs)
  all_cons x xs p h zero d within = p
  all_cons x xs p h (suc k) d within = h k d (omega arith)

  all_push : (xs : List A) (y : A) → All P xs → P y → All P (xs ++ y ∷ [])
  all_push [] y h p = all_cons y [] p (λ k d within. absurd (omega arith))
  all_push (x ∷ xs) y h p = all_cons x (xs ++ y ∷ []) (all_head x xs h) (all_push xs y (all_tail x xs h) p)

zip_push : {A B : Type 0} (R : A → B → Type 0) (xs : List A) (ys : List B) (x : A) (y : B) → AllZip R xs ys → R x y → AllZip R (xs ++ x ∷ []) (ys ++ y ∷ [])
zip_push R [] [] x y h r = (r, tt)
zip_push R [] (z ∷ ys) x y h r = absurd h
zip_push R (z ∷ xs) [] x y h r = absurd h
zip_push R (z ∷ xs) (t ∷ ys) x y h r = (h.0, zip_push R xs ys x y h.1 r)

count_events : {E : Type 0} (ts : List (ℕ × E)) → length (events ts) ≡ length ts
count_events [] = refl
count_events (t ∷ ts) = let later = count_events ts in omega (arith, later)

module _ {F : Type 0} where
  seen_count : (v : View Event F) → length (seen v) ≡ length v.begun + length v.turns
  seen_count v = length-append v.begun (events v.turns) ∙ ap (λ n. length v.begun + n) (count_events v.turns)

  -- a pass has seen what the one before it had
  seen_more : (v w : View Event F) → w.begun ≡ v.begun → IsPrefix v.turns w.turns → length (seen v) ≤ length (seen w)
  seen_more v w same begins =
      let n = seen_count v in
      let m = seen_count w in
      let b = ap (λ (l : List Event). length l) same in
      let t = prefix_length v.turns w.turns begins in
      omega (arith, n, m, b, t)

  -- what two passes have seen together is as long as the longer of both
  seen_joined : (v w : View Event F) → w.begun ≡ v.begun
      → (length (seen v) ≤ length (seen w) → length (seen (joined v w)) ≡ length (seen w)) × (length (seen w) ≤ length (seen v) → length (seen (joined v w)) ≡ length (seen v))
  seen_joined v w same = go (nat_lt (length v.turns) (length w.turns)) refl
    where
      go : (b : Bool) → nat_lt (length v.turns) (length w.turns) ≡ b
          → (length (seen v) ≤ length (seen w) → length (v.begun ++ events (if b then w.turns else v.turns)) ≡ length (seen w))
          × (length (seen w) ≤ length (seen v) → length (v.begun ++ events (if b then w.turns else v.turns)) ≡ length (seen v))
      go true is =
          let n = seen_count v in let m = seen_count w in let b = ap (λ (l : List Event). length l) same in
          let t = length-append v.begun (events w.turns) in let c = count_events w.turns in
          let less = ltb-true (length v.turns) (length w.turns) is in
          (λ le. omega (arith, m, b, t, c), λ le. absurd (omega (arith, n, m, b, less, le)))
      go false is =
          let n = seen_count v in let m = seen_count w in let b = ap (λ (l : List Event). length l) same in
          let least = ltb-false (length v.turns) (length w.turns) is in
          (λ le. omega (arith, n, m, b, least, le), λ le. refl)

-- what was told of calls stays so with further turns
module _ (sizes : Sizes) (before : List Event) (ts us : List (ℕ × Event)) (begins : IsPrefix ts us) where
  still_told : (cs : ℕ × List Event) (told : List (ℕ × ℕ × Reply)) → IsSeen ts cs → IsToldOf sizes before ts cs told → IsToldOf sizes before us cs told
  still_told cs told at is = is ∙ sym (told_stays sizes cs.0 (length cs.1) before ts us begins (prefix_length cs.1 (calls_by cs.0 ts) at))

  all_still_told : (cs : List (ℕ × List Event)) (each : List (List (ℕ × ℕ × Reply))) → All (IsSeen ts) cs → AllZip (IsToldOf sizes before ts) cs each → AllZip (IsToldOf sizes before us) cs each
  all_still_told [] [] at is = tt
  all_still_told [] (told ∷ each) at is = absurd is
  all_still_told (c ∷ cs) [] at is = absurd is
  all_still_told (c ∷ cs) (told ∷ each) at is = (still_told c told (all_head (IsSeen ts) c cs at) is.0, all_still_told cs each (all_tail (IsSeen ts) c cs at) is.1)

-- what follows the same begins the same
pub same_after : {A : Type 0} (xs ys zs : List A) → xs ++ ys ≡ xs ++ zs → ys ≡ zs
same_after [] ys zs same = same
same_after (x ∷ xs) ys zs same = same_after xs ys zs (ap (λ l. drop 1 l) same)

all_further : (ts us : List (ℕ × Event)) → IsPrefix ts us → (cs : List (ℕ × List Event)) → All (IsSeen ts) cs → All (IsSeen us) cs
all_further ts us begins cs at = λ k d within. seen_further ts us (slice_index_or cs k d).0 (slice_index_or cs k d).1 begins (at k d within)

-- each pass ran all its lines: so it ran some
some_of_each : (lists : List (List (ℕ × Command))) (cs : List (ℕ × List Event)) → AllZip (λ (list : List (ℕ × Command)) (c : ℕ × List Event). AreOf list c.1) lists cs
    → AllZip (λ (list : List (ℕ × Command)) (c : ℕ × List Event). AreOfSome list c.1) lists cs
some_of_each [] [] h = tt
some_of_each [] (c ∷ cs) h = absurd h
some_of_each (list ∷ lists) [] h = absurd h
some_of_each (list ∷ lists) (c ∷ cs) h = (subst (λ (l : List (ℕ × Command)). IsPrefix l list) (sym h.0) (prefix_same list), some_of_each lists cs h.1)

module _ {F : Type 0} (sizes : Sizes) where
  -- no list
  pub block_none : (v : View Event F) (told : Vec (ℕ × ℕ × Reply) Global) → told.items ≡ [] → EndsBlock sizes [] v v (Ok told)
  block_none v told none = record {
    ran = record {
      joined = [];
      later = [];
      calls = sym (append-nil v.calls);
      once = λ p some_of. absurd (omega arith);
      lines = tt;
      turns = sym (append-nil v.turns);
      unheard = λ k d within. absurd (omega arith);
      seen = λ k d within. absurd (omega arith);
      parts = refl;
      answers = prefix_same v.answers;
    };
    each = [];
    of_each = tt;
    merged = none;
    rises = subst (λ (l : List (ℕ × ℕ × Reply)). IsNonDecreasingBy (λ t. t.0) l) (sym none) (λ i j d le within. absurd (omega arith));
  }

  pub block_is_some : (lists : List (List (ℕ × Command))) (v w : View Event F) (result : Result (Vec (ℕ × ℕ × Reply) Global) StepError) → EndsBlock sizes lists v w result → RanBlock AreOfSome lists v w
  block_is_some lists v w (Ok told) ends = record {
    joined = ends.ran.joined;
    later = ends.ran.later;
    calls = ends.ran.calls;
    once = ends.ran.once;
    lines = some_of_each lists ends.ran.joined ends.ran.lines;
    turns = ends.ran.turns;
    unheard = ends.ran.unheard;
    seen = ends.ran.seen;
    parts = ends.ran.parts;
    answers = ends.ran.answers;
  }
  block_is_some lists v w (Err Memory) ends = ends
  block_is_some lists v w (Err HistoryFull) ends = ends.0

  -- ---- one list more

  module _ (others : List (List (ℕ × Command))) (last : List (ℕ × Command)) (v w u : View Event F) (number : ℕ) (some_parts : 1 < v.parts)
      (begun_w : w.begun ≡ v.begun) (begun_u : u.begun ≡ v.begun) (of_w : IsPrefix w.turns (joined w u).turns) (of_u : IsPrefix u.turns (joined w u).turns)
      (one_each : (p : ℕ) → times p (names (joined w u).calls) ≤ 1) where
    -- what was seen after the turns of v
    abbrev later_is : (later : List (ℕ × Event)) → w.turns ≡ v.turns ++ later → (joined w u).turns ≡ v.turns ++ (later ++ of_w.0)
    later_is later turns = sym of_w.1 ∙ ap (λ (l : List (ℕ × Event)). l ++ of_w.0) turns ∙ append_assoc v.turns later of_w.0

    later_of_u : (later own : List (ℕ × Event)) → w.turns ≡ v.turns ++ later → u.turns ≡ v.turns ++ own → IsPrefix own (later ++ of_w.0)
    later_of_u later own turns turns_u =
        (of_u.0, same_after v.turns (own ++ of_u.0) (later ++ of_w.0) (sym (append_assoc v.turns own of_u.0) ∙ ap (λ (l : List (ℕ × Event)). l ++ of_u.0) (sym turns_u) ∙ of_u.1 ∙ later_is later turns))

    abbrev calls_are : (cs : List (ℕ × List Event)) (c : ℕ × List Event) → w.calls ≡ v.calls ++ cs → u.calls ≡ c ∷ [] → (joined w u).calls ≡ v.calls ++ (cs ++ c ∷ [])
    calls_are cs c of_each own = ap (λ (l : List (ℕ × List Event)). l ++ u.calls) of_each ∙ ap (λ (l : List (ℕ × List Event)). (v.calls ++ cs) ++ l) own ∙ append_assoc v.calls cs (c ∷ [])

    once_more : (cs : List (ℕ × List Event)) → (joined w u).calls ≡ v.calls ++ cs → (p : ℕ) → 0 < times p (names cs) → times p (names (joined w u).calls) ≡ 1
    once_more cs is p some_of =
        let most = one_each p in
        let both = ap (λ (l : List (ℕ × List Event)). times p (names l)) is ∙ times_append p v.calls cs in
        omega (arith, most, both, some_of)

    abbrev ran_more : (So : List (ℕ × Command) → List Event → Type 0) → RanBlock So others (less_one v) w → (own : RanList (So last) (numbered_as (half v) number) u)
        → RanBlock So (others ++ last ∷ []) v (joined w u)
    ran_more So ran own = record {
      joined = ran.joined ++ (own.pass, own.events) ∷ [];
      later = ran.later ++ of_w.0;
      calls = calls_are ran.joined (own.pass, own.events) ran.calls own.calls;
      once = once_more (ran.joined ++ (own.pass, own.events) ∷ []) (calls_are ran.joined (own.pass, own.events) ran.calls own.calls);
      lines = zip_push (λ (list : List (ℕ × Command)) (c : ℕ × List Event). So list c.1) others ran.joined last (own.pass, own.events) ran.lines own.lines;
      turns = later_is ran.later ran.turns;
      unheard = all_push (IsUnheard v) ran.joined (own.pass, own.events) ran.unheard own.unheard;
      seen = all_push (IsSeen (ran.later ++ of_w.0)) ran.joined (own.pass, own.events) (all_further ran.later (ran.later ++ of_w.0) (of_w.0, refl) ran.joined ran.seen)
          (seen_further own.later (ran.later ++ of_w.0) own.pass own.events (later_of_u ran.later own.later ran.turns own.turns) own.seen);
      parts = let p = ran.parts in let q = own.parts in omega (arith, p, q, some_parts);
      answers = prefix_further v.answers w.answers (w.answers ++ u.answers) ran.answers (u.answers, refl);
    }

    same_begun : u.begun ≡ w.begun
    same_begun = begun_u ∙ sym begun_w

    tells_more : (one other all : List (ℕ × ℕ × Reply)) → TellsBlock sizes others (less_one v) w one → TellsList sizes last (numbered_as (half v) number) u other
        → Interleaves one other all → IsNonDecreasingBy (λ t. t.0) all → TellsBlock sizes (others ++ last ∷ []) v (joined w u) all
    tells_more one other all first second merged rises = record {
      ran = ran_more AreOf first.ran second.ran;
      each = first.each ++ other ∷ [];
      of_each = zip_push (IsToldOf sizes (seen v) (first.ran.later ++ of_w.0)) first.ran.joined first.each (second.ran.pass, second.ran.events) other
          (all_still_told sizes (seen v) first.ran.later (first.ran.later ++ of_w.0) (of_w.0, refl) first.ran.joined first.each first.ran.seen first.of_each)
          (still_told sizes (seen v) second.ran.later (first.ran.later ++ of_w.0) (later_of_u first.ran.later second.ran.later first.ran.turns second.ran.turns) (second.ran.pass, second.ran.events) other second.ran.seen second.told_is);
      merged = merge_more first.each other one all first.merged merged;
      rises = rises;
    }

    module _ (short_w : KeepsShort (less_one v) w) (short_u : KeepsShort (numbered_as (half v) number) u) where
      pub short_more : KeepsShort v (joined w u)
      short_more least =
          let both = seen_joined w u same_begun in
          let a = short_w least in
          let b = short_u least in
          go both.0 both.1 a b
        where
          go : (length (seen w) ≤ length (seen u) → length (seen (joined w u)) ≡ length (seen u)) → (length (seen u) ≤ length (seen w) → length (seen (joined w u)) ≡ length (seen w))
              → length (seen w) ≤ 4294967295 → length (seen u) ≤ 4294967295 → length (seen (joined w u)) ≤ 4294967295
          go f g a b = dite (dec_le (length (seen w)) (length (seen u))) (λ le. let s = f le in omega (arith, s, b)) (λ more. let s = g (omega (arith, more)) in omega (arith, s, a))

      -- what one of them found full is full
      full_first : IsPrefix v.turns w.turns → length (seen w) ≡ 4294967295 → length (seen (joined w u)) ≡ 4294967295
      full_first begins full =
          let least = seen_more v w begun_w begins in
          let b = short_u (omega (arith, least, full)) in
          let s = (seen_joined w u same_begun).1 (omega (arith, b, full)) in
          omega (arith, s, full)

      full_second : IsPrefix v.turns u.turns → length (seen u) ≡ 4294967295 → length (seen (joined w u)) ≡ 4294967295
      full_second begins full =
          let least = seen_more v u begun_u begins in
          let a = short_w (omega (arith, least, full)) in
          let s = (seen_joined w u same_begun).0 (omega (arith, a, full)) in
          omega (arith, s, full)

      module _ (other : Result (Vec (ℕ × ℕ × Reply) Global) StepError) (second : EndsList sizes last (numbered_as (half v) number) u other) where
        some_more : (one : Result (Vec (ℕ × ℕ × Reply) Global) StepError) → EndsBlock sizes others (less_one v) w one → RanBlock AreOfSome (others ++ last ∷ []) v (joined w u)
        some_more one first = ran_more AreOfSome (block_is_some others (less_one v) w one first) (list_is_some sizes (numbered_as (half v) number) u last other second)

      pub ends_more : (one other result : Result (Vec (ℕ × ℕ × Reply) Global) StepError) → EndsBlock sizes others (less_one v) w one → EndsList sizes last (numbered_as (half v) number) u other
          → Merges one other result → EndsBlock sizes (others ++ last ∷ []) v (joined w u) result
      ends_more (Ok one) (Ok other) (Ok all) first second merges = tells_more one.items other.items all.items first second merges.0 merges.1
      ends_more (Ok one) (Ok other) (Err Memory) first second merges = some_more (Ok other) second (Ok one) first
      ends_more (Ok one) (Ok other) (Err HistoryFull) first second merges = absurd (cc merges)
      ends_more (Ok one) (Err Memory) result first second merges =
          subst (λ r. EndsBlock sizes (others ++ last ∷ []) v (joined w u) r) (sym merges) (some_more (Err Memory) second (Ok one) first)
      ends_more (Ok one) (Err HistoryFull) result first second merges =
          subst (λ r. EndsBlock sizes (others ++ last ∷ []) v (joined w u) r) (sym merges) (some_more (Err HistoryFull) second (Ok one) first, full_second (second.0.later, sym second.0.turns) second.1)
      ends_more (Err Memory) other result first second merges =
          subst (λ r. EndsBlock sizes (others ++ last ∷ []) v (joined w u) r) (sym merges) (some_more other second (Err Memory) first)
      ends_more (Err HistoryFull) other result first second merges =
          subst (λ r. EndsBlock sizes (others ++ last ∷ []) v (joined w u) r) (sym merges) (some_more other second (Err HistoryFull) first, full_first (first.0.later, sym first.0.turns) first.1)

-- what a list is told rises
pub list_rises : {F : Type 0} (sizes : Sizes) (lines : List (ℕ × Command)) (v w : View Event F) (result : Result (Vec (ℕ × ℕ × Reply) Global) StepError) → EndsList sizes lines v w result
    → IfOk result (λ told. Rises told.items)
list_rises sizes lines v w (Ok told) ends =
    let all = told_of sizes (λ p. ends.ran.pass == p) (seen v) ends.ran.later in
    subst Rises (sym ends.told_is) (IsNonDecreasingBy-take (λ (t : ℕ × ℕ × Reply). t.0) (length ends.ran.events) all (rises_to all (told_rises sizes (λ p. ends.ran.pass == p) (seen v) ends.ran.later)))
list_rises sizes lines v w (Err error) ends = tt

pub block_rises : {F : Type 0} (sizes : Sizes) (lists : List (List (ℕ × Command))) (v w : View Event F) (result : Result (Vec (ℕ × ℕ × Reply) Global) StepError) → EndsBlock sizes lists v w result
    → IfOk result (λ told. Rises told.items)
block_rises sizes lists v w (Ok told) ends = ends.rises
block_rises sizes lists v w (Err error) ends = tt

-- the last list beside the others, in the words of the calls
pub block_ends : {F : Type 0} (sizes : Sizes) (lists others : List (List (ℕ × Command))) (last : List (ℕ × Command)) (v v' w own u z : View Event F) (number : ℕ) (one other result : Result (Vec (ℕ × ℕ × Reply) Global) StepError)
    → lists ≡ others ++ last ∷ [] → 1 < v.parts → v' ≡ less_one v → own ≡ numbered_as (half v) number → z ≡ joined w u → w.begun ≡ v.begun → u.begun ≡ v.begun
    → IsPrefix w.turns z.turns → IsPrefix u.turns z.turns → ((p : ℕ) → times p (names z.calls) ≤ 1) → KeepsShort v' w → KeepsShort own u → EndsBlock sizes others v' w one → EndsList sizes last own u other → Merges one other result
    → EndsBlock sizes lists v z result
block_ends {F} sizes lists others last v v' w own u z number one other result lists_are some_parts left given both begun_w begun_u of_w of_u one_each short_w short_u first second merges =
    subst (λ (l : List (List (ℕ × Command))). EndsBlock sizes l v z result) (sym lists_are)
    (subst (λ (y : View Event F). EndsBlock sizes (others ++ last ∷ []) v y result) (sym both)
    (ends_more sizes others last v w u number some_parts begun_w begun_u
    (subst (λ (y : View Event F). IsPrefix w.turns y.turns) both of_w) (subst (λ (y : View Event F). IsPrefix u.turns y.turns) both of_u)
    (subst (λ (y : View Event F). (p : ℕ) → times p (names y.calls) ≤ 1) both one_each) (subst (λ (y : View Event F). KeepsShort y w) left short_w) (subst (λ (y : View Event F). KeepsShort y u) given short_u)
    one other result (subst (λ (y : View Event F). EndsBlock sizes others y w one) left first) (subst (λ (y : View Event F). EndsList sizes last y u other) given second) merges))

pub block_runs : {F : Type 0} (sizes : Sizes) (v v' w own u z : View Event F) (number : ℕ) → v' ≡ less_one v → own ≡ numbered_as (half v) number → z ≡ joined w u → w.begun ≡ v.begun → u.begun ≡ v.begun
    → KeepsRun sizes v' w → KeepsRun sizes own u → KeepsRun sizes v z
block_runs {F} sizes v v' w own u z number left given both begun_w begun_u run_w run_u defined = subst (λ (y : View Event F). IsRun sizes (seen y)) (sym both)
    (joined_runs (nat_lt (length w.turns) (length u.turns)))
  where
    joined_runs : (b : Bool) → IsRun sizes (w.begun ++ events (if b then u.turns else w.turns))
    joined_runs true = subst (λ (l : List Event). IsRun sizes (l ++ events u.turns)) (begun_u ∙ sym begun_w) (run_u (subst (λ (y : View Event F). IsRun sizes (seen y)) (sym given) defined))
    joined_runs false = run_w (subst (λ (y : View Event F). IsRun sizes (seen y)) (sym left) defined)

-- ---- which lines may be run

both_true : (a b : Bool) → a && b ≡ true → (a ≡ true) × (b ≡ true)
both_true true true is = (refl, refl)
both_true true false is = absurd (cc is)
both_true false b is = absurd (cc is)

all_passed : {A : Type 0} (test : A → Bool) (xs : List A) → list_all test xs ≡ true → AllPass test xs
all_passed test [] is k d within = absurd (omega arith)
all_passed test (x ∷ xs) is zero d within = (both_true (test x) (list_all test xs) is).0
all_passed test (x ∷ xs) is (suc k) d within = all_passed test xs (both_true (test x) (list_all test xs) is).1 k d (omega arith)

pub fits_others : {A : Type 0} (test : A → Bool) (lists others : List (List A)) (last : List A) → lists ≡ others ++ last ∷ [] → AllPass (list_all test) lists → AllPass (list_all test) others
fits_others {A} test lists others last is h = front others (subst (λ l. AllPass (list_all test) l) is h)
  where
    front : (others : List (List A)) → AllPass (list_all test) (others ++ last ∷ []) → AllPass (list_all test) others
    front [] h k d within = absurd (omega arith)
    front (x ∷ others) h zero d within = h 0 d (omega arith)
    front (x ∷ others) h (suc k) d within = front others (λ j e at. h (suc j) e (omega (arith, at))) k d (omega arith)

pub fits_last : {A : Type 0} (test : A → Bool) (lists others : List (List A)) (last : List A) → lists ≡ others ++ last ∷ [] → AllPass (list_all test) lists → AllPass test last
fits_last {A} test lists others last is h = all_passed test last (at_end others (subst (λ l. AllPass (list_all test) l) is h))
  where
    at_end : (others : List (List A)) → AllPass (list_all test) (others ++ last ∷ []) → list_all test last ≡ true
    at_end [] h = h 0 last (omega arith)
    at_end (x ∷ others) h = at_end others (λ j e at. h (suc j) e (omega (arith, at)))
