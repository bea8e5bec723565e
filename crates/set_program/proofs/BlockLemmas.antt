-- What the end of a shared set shows of a block that ran on it alone.
use Rattle.std.proofs.Common.{ℕ, suc, ◌≡◌, ◌≤◌, ◌==◌, true, false, List, [], ◌∷◌, ◌++◌, length, take, refl, ap, sym, subst, ◌∙◌, arith, append_assoc, append-nil}
use Rattle.std.specs.Prelude.{All, map}
use Rattle.std.specs.List.{AllZip}
use Rattle.std.proofs.lemmas.List.{take-append-le, take_all}
use mathlib.Core.Logic.{dite}
use mathlib.Core.List.{IsPrefix}
use native.Mathlib.Decide.{ℕ_discrete}
use Rattle.set_model.specs.declared.command.Command.{Command}
use Rattle.set_model.specs.declared.command.Event.{Event}
use Rattle.set_model.specs.declared.reply.Reply.{Reply}
use Rattle.set_model.specs.Run.{Sizes, run}
use Rattle.fault_script.specs.Merge.{IsMerge}
use Rattle.turn_board.specs.declared.view.View.{View}
use Rattle.turn_board.specs.History.{Stand, calls_by, events, names, times}
use Rattle.turn_board.specs.Views.{opened, seen}
use Rattle.turn_board.proofs.Sums.{one_if_other}
use Rattle.shared_set.specs.Calls.{Closes}
use Rattle.set_program.specs.Blocks.{AreOf, AreOfSome, IsSeen, IsToldOf, RanBlock, TellsBlock, told_of}
use Rattle.set_program.specs.Steps.{Adds, GoesOn, line_of, reply_to}
use Rattle.set_program.proofs.MergeLemmas.{merge_goes_on, merge_mapped, turns_merge, without_empty}
use Rattle.set_program.proofs.ToldMerge.{all_told, is_in, out_of_names, rises_from, told_count, told_everything, told_stays}
use Rattle.set_program.proofs.ListRuns.{prefix_length}
use Rattle.set_program.proofs.StepLemmas.{replies-append}

-- all turns are told the replies of their events
told_replies : (sizes : Sizes) (before : List Event) (ts : List (ℕ × Event))
    → (run sizes (before ++ events ts)).replies ≡ (run sizes before).replies ++ map (λ (t : ℕ × ℕ × Reply). (t.1, t.2)) (told_of sizes (λ p. true) before ts)
told_replies sizes before [] = ap (λ (es : List Event). (run sizes es).replies) (append-nil before) ∙ sym (append-nil (run sizes before).replies)
told_replies sizes before (t ∷ ts) =
    ap (λ (es : List Event). (run sizes es).replies) (sym (append_assoc before (t.1 ∷ []) (events ts)))
    ∙ told_replies sizes (before ++ t.1 ∷ []) ts
    ∙ ap (λ (rs : List (ℕ × Reply)). rs ++ map (λ (t : ℕ × ℕ × Reply). (t.1, t.2)) (told_of sizes (λ p. true) (before ++ t.1 ∷ []) ts)) (replies-append sizes before t.1)
    ∙ append_assoc (run sizes before).replies ((t.1.line, reply_to sizes before t.1) ∷ []) (map (λ (t : ℕ × ℕ × Reply). (t.1, t.2)) (told_of sizes (λ p. true) (before ++ t.1 ∷ []) ts))

-- the lines of each pass
lines_of_all : (lists : List (List (ℕ × Command))) (cs : List (ℕ × List Event)) → AllZip (λ (list : List (ℕ × Command)) (c : ℕ × List Event). AreOf list c.1) lists cs
    → map (λ (es : List Event). map line_of es) (map (λ (c : ℕ × List Event). c.1) cs) ≡ lists
lines_of_all [] [] h = refl
lines_of_all [] (c ∷ cs) h = absurd h
lines_of_all (list ∷ lists) [] h = absurd h
lines_of_all (list ∷ lists) (c ∷ cs) h = λ i. h.0 i ∷ lines_of_all lists cs h.1 i

fronts_of_all : (lists : List (List (ℕ × Command))) (cs : List (ℕ × List Event)) → AllZip (λ (list : List (ℕ × Command)) (c : ℕ × List Event). AreOfSome list c.1) lists cs
    → AllZip (λ (list front : List (ℕ × Command)). IsPrefix front list) lists (map (λ (es : List Event). map line_of es) (map (λ (c : ℕ × List Event). c.1) cs))
fronts_of_all [] [] h = tt
fronts_of_all [] (c ∷ cs) h = absurd h
fronts_of_all (list ∷ lists) [] h = absurd h
fronts_of_all (list ∷ lists) (c ∷ cs) h = (h.0, fronts_of_all lists cs h.1)

-- what each pass was told is all that it is told in the end
told_whole : (sizes : Sizes) (before : List Event) (ts us : List (ℕ × Event)) (cs : List (ℕ × List Event)) (each : List (List (ℕ × ℕ × Reply))) → IsPrefix ts us → Stand us cs → All (IsSeen ts) cs
    → AllZip (λ (c : ℕ × List Event) (told : List (ℕ × ℕ × Reply)). told ≡ take (length c.1) (told_of sizes (λ p. c.0 == p) before ts)) cs each
    → AllZip (λ (c : ℕ × List Event) (told : List (ℕ × ℕ × Reply)). told ≡ told_of sizes (λ p. c.0 == p) before us) cs each
told_whole sizes before ts us [] [] begins stand at is = tt
told_whole sizes before ts us [] (told ∷ each) begins stand at is = absurd is
told_whole sizes before ts us (c ∷ cs) [] begins stand at is = absurd is
told_whole sizes before ts us (c ∷ cs) (told ∷ each) begins stand at is =
    let count = told_count sizes c.0 before us in
    let same = ap (λ (l : List Event). length l) stand.0 in (
      is.0 ∙ sym (told_stays sizes c.0 (length c.1) before ts us begins (prefix_length c.1 (calls_by c.0 ts) (at 0 c (omega arith))))
          ∙ take_all (length c.1) (told_of sizes (λ p. c.0 == p) before us) (omega (arith, count, same)),
      told_whole sizes before ts us cs each begins stand.1 (λ k d within. at (suc k) d (omega arith)) is.1,
    )

module _ {F : Type 0} (sizes : Sizes) (lists : List (List (ℕ × Command))) (fixed : List F) (begun : List Event) (v w : View Event F) (history : List Event)
    (fresh : v ≡ opened fixed begun) (same : w.begun ≡ begun) (closes : Closes sizes w history) where
  -- all calls are those of the passes that were joined
  module _ (So : List (ℕ × Command) → List Event → Type 0) (ran : RanBlock So lists v w) where
    calls_are : w.calls ≡ (0, []) ∷ ran.joined
    calls_are = ran.calls ∙ ap (λ (u : View Event F). u.calls ++ ran.joined) fresh

    stand : Stand closes.turns ((0, []) ∷ ran.joined)
    stand = subst (λ (l : List (ℕ × List Event)). Stand closes.turns l) calls_are closes.meets.calls

    once : (p : ℕ) → times p (names ((0, []) ∷ ran.joined)) ≤ 1
    once = subst (λ (l : List (ℕ × List Event)). (p : ℕ) → times p (names l) ≤ 1) calls_are closes.once

    no_others : (p : ℕ) → times p (names ((0, []) ∷ ran.joined)) ≡ 0 → calls_by p closes.turns ≡ []
    no_others = subst (λ (l : List (ℕ × List Event)). (p : ℕ) → times p (names l) ≡ 0 → calls_by p closes.turns ≡ []) calls_are closes.no_others

    merge : IsMerge (map (λ (es : List Event). map line_of es) (map (λ (c : ℕ × List Event). c.1) ran.joined)) (map line_of (events closes.turns))
    merge = merge_mapped line_of (map (λ (c : ℕ × List Event). c.1) ran.joined) (events closes.turns)
        (without_empty (map (λ (c : ℕ × List Event). c.1) ran.joined) (events closes.turns) (turns_merge ((0, []) ∷ ran.joined) closes.turns stand once no_others))

    history_is : history ≡ begun ++ events closes.turns
    history_is = closes.history_is ∙ ap (λ (l : List Event). l ++ events closes.turns) same

    adds : Adds (map line_of (events closes.turns)) begun history
    adds = record { added = events closes.turns; events = history_is; lines_are = refl }

  -- its events are a merge of the lists
  pub block_adds : RanBlock AreOf lists v w → (lines : List (ℕ × Command)) × IsMerge lists lines × Adds lines begun history
  block_adds ran = (
    map line_of (events closes.turns),
    subst (λ (l : List (List (ℕ × Command))). IsMerge l (map line_of (events closes.turns))) (lines_of_all lists ran.joined ran.lines) (merge AreOf ran),
    adds AreOf ran,
  )

  -- after an error they are the first ones of a merge of the lists
  pub block_adds_some : RanBlock AreOfSome lists v w → (lines next : List (ℕ × Command)) × IsMerge lists next × (lines ≡ take (length lines) next) × Adds lines begun history
  block_adds_some ran =
      let lines = map line_of (events closes.turns) in
      let more = merge_goes_on lists (map (λ (es : List Event). map line_of es) (map (λ (c : ℕ × List Event). c.1) ran.joined)) lines (fronts_of_all lists ran.joined ran.lines) (merge AreOfSome ran) in (
        lines,
        lines ++ more.0,
        more.1,
        sym (take-append-le (length lines) lines more.0 (omega arith) ∙ take_all (length lines) lines (omega arith)),
        adds AreOfSome ran,
      )

  -- what was told are the replies of its events
  pub block_told : (told : List (ℕ × ℕ × Reply)) → TellsBlock sizes lists v w told → GoesOn sizes begun history (map (λ t. (t.1, t.2)) told)
  block_told told tells =
      let ran = tells.ran in
      let cs = ran.joined in
      let turns_is : w.turns ≡ ran.later = ran.turns ∙ ap (λ (u : View Event F). u.turns ++ ran.later) fresh in
      let seen_is : seen v ≡ begun = ap (λ (u : View Event F). seen u) fresh ∙ append-nil begun in
      let is_told = told_whole sizes begun ran.later closes.turns cs tells.each (subst (λ (l : List (ℕ × Event)). IsPrefix l closes.turns) turns_is closes.meets.begins) (stand AreOf ran).1 ran.seen
      (subst (λ (b : List Event). AllZip (IsToldOf sizes b ran.later) cs tells.each) seen_is tells.of_each) in
      let all = all_told sizes cs tells.each begun closes.turns told is_told (λ p. let most = once AreOf ran p in omega (arith, most)) tells.merged (rises_from told tells.rises) in
      let every = told_everything sizes (λ p. is_in cs p) begun closes.turns (λ p out. outside p out) in
      record {
        longer = ap (λ (es : List Event). (run sizes es).replies) (history_is AreOf ran) ∙ told_replies sizes begun closes.turns
            ∙ ap (λ (l : List (ℕ × ℕ × Reply)). (run sizes begun).replies ++ map (λ (t : ℕ × ℕ × Reply). (t.1, t.2)) l) (sym (all ∙ every));
      }
    where
      outside : (p : ℕ) → is_in tells.ran.joined p ≡ false → calls_by p closes.turns ≡ []
      outside p out = dite (ℕ_discrete p 0)
          (λ zero_is. subst (λ (q : ℕ). calls_by q closes.turns ≡ []) (sym zero_is) (stand AreOf tells.ran).0)
          (λ ne. no_others AreOf tells.ran p (let first = one_if_other p 0 ne in let rest = out_of_names tells.ran.joined p out in omega (arith, first, rest)))
