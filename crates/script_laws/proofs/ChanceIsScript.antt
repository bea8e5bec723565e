-- A script by chance is a script of its set.
use Rattle.std.proofs.Common.{◌≡◌, ℕ, zero, suc, ◌+◌, ◌*◌, ◌≤◌, ◌<◌, ◌==◌, Bool, true, false, cond, List, [], ◌∷◌, ◌++◌, length, Some, Result, Ok, refl, ap, sym, subst, ◌∙◌, arith, append_assoc, suc-mul}
use Rattle.std.specs.Prelude.{codes}
use Rattle.std.specs.Fmt.{decimal}
use Rattle.std.specs.List.{list_all, flat_map}
use Rattle.std.specs.Str.Lines.{lines}
use Rattle.chance_script.specs.declared.happening.Happening.{Happening}
use Rattle.chance_script.specs.declared.happening.Happening.TheVariants.{Insert, Update, Delete, Flush, Pull, Election, Common, Checkpoint, Restart, StepDown, Clock}
use Rattle.fault_script.specs.declared.reading.Reading.{Reading}
use Rattle.script_words.specs.declared.set.SetLine.{SetLine}
use Rattle.script_words.specs.declared.shape.Shape.TheVariants.{Words}
use Rattle.chance_script.specs.Generated.{happening, happenings, ask_with, vote_of, votes_of, taken_text, told_text, text_of, generated}
use Rattle.script_laws.specs.Laws.{IsScriptFor}
use Rattle.script_words.specs.Set.{most_voters, set_line, sizes_at}
use Rattle.fault_script.specs.Script.{start, with_sizes, with_line, and_then, script_from, script}
use Rattle.script_words.specs.Words.{has_shape}
use Rattle.script_laws.proofs.ChanceAsks.{texts, flushes, fetches, campaigns, drains, checkpoints, crashes, restarts, steps_down, applies, clocks, hears, reports, compares, delivers}
use Rattle.script_laws.proofs.ChanceDrawn.{AreApart, IsWithin, happens_within}
use Rattle.chance_script.proofs.HappeningLemmas.{text_more}
use Rattle.script_laws.proofs.ChanceLines.{is_text, text_is, one_line, commands_read, lines_joined, AreCommands, no_command, more_commands, at_most}
use Rattle.script_laws.proofs.ChanceWords.{word_is_text, word_is, only_word, is_written, last_number}
use Rattle.script_laws.proofs.ChanceWrites.{inserts, updates, deletes}

-- ---- the lines of one event

also : {nodes first later : ℕ} {one other : List ℕ} → AreCommands nodes first one → AreCommands nodes later other → AreCommands nodes (first + later) (one ++ other)
also {nodes} {first} {later} {one} {other} front back = more_commands nodes first later one other front back

upright : (nodes node other : ℕ) → AreApart nodes node other → AreApart nodes other node
upright nodes node other apart = (apart.1, apart.0, λ same. apart.2 (sym same))

delivered : (nodes node other : ℕ) → nodes ≤ 50 → AreApart nodes node other → AreCommands nodes 1 (ask_with (codes "deliver") node other)
delivered nodes node other few apart = delivers nodes node other apart.0 apart.1 few apart.2

vote : (nodes candidate voter : ℕ) → nodes ≤ 50 → candidate < nodes → voter < nodes → AreCommands nodes 2 (vote_of candidate voter)
vote nodes candidate voter few one other = by_test (voter == candidate) refl
  where
    by_test : (b : Bool) → (voter == candidate) ≡ b → AreCommands nodes 2 (cond b [] (ask_with (codes "deliver") candidate voter ++ ask_with (codes "deliver") voter candidate))
    by_test true same = at_most nodes 0 2 [] (omega arith) (no_command nodes)
    by_test false different =
        let apart : AreApart nodes candidate voter = (one, other, λ same. absurd (grind arith)) in
        also (delivered nodes candidate voter few apart) (delivered nodes voter candidate few (upright nodes candidate voter apart))

votes : (nodes candidate count : ℕ) → nodes ≤ 50 → candidate < nodes → count ≤ nodes → AreCommands nodes (2 * count) (votes_of candidate count)
votes nodes candidate zero few one within = no_command nodes
votes nodes candidate (suc voter) few one within =
    at_most nodes (2 * voter + 2) (2 * suc voter) (votes_of candidate (suc voter)) (omega arith) (also (votes nodes candidate voter few one (omega arith)) (vote nodes candidate voter few one (omega arith)))

taken : (nodes node source : ℕ) → nodes ≤ 50 → AreApart nodes node source → AreCommands nodes 5 (taken_text node source)
taken nodes node source few apart =
    let back = upright nodes node source apart in
    let from_source = delivered nodes source node few back in
    also (also (also (also (hears nodes source node back.0 back.1 few back.2) from_source) (fetches nodes node apart.0 few)) (delivered nodes node source few apart)) from_source

told : (nodes node source : ℕ) → nodes ≤ 50 → AreApart nodes node source → AreCommands nodes 4 (told_text node source)
told nodes node source few apart =
    also (also (also (applies nodes node apart.0 few) (flushes nodes node apart.0 few)) (reports nodes node source apart.0 apart.1 few apart.2)) (delivered nodes node source few apart)

-- one event has at most so many lines: those of an election, or the nine of a pull
abbrev most_lines : ℕ → ℕ
most_lines nodes = 2 * nodes + 9

few_more : (nodes few : ℕ) (text : List ℕ) → few ≤ most_lines nodes → AreCommands nodes few text → AreCommands nodes (most_lines nodes) text
few_more nodes few text within all = at_most nodes few (most_lines nodes) text within all

event_lines : (nodes event : ℕ) (here : Happening) → nodes ≤ 50 → event < 5000 → IsWithin nodes event here → AreCommands nodes (most_lines nodes) (text_of nodes here)
unfolding text_of
event_lines nodes event (Insert node id) few early within = few_more nodes 1 _ (omega arith) (inserts nodes node id within.0 few (omega (arith, within.1)))
event_lines nodes event (Update node id) few early within = few_more nodes 1 _ (omega arith) (updates nodes node id within.0 few (omega (arith, within.1)))
event_lines nodes event (Delete node id) few early within = few_more nodes 1 _ (omega arith) (deletes nodes node id within.0 few (omega (arith, within.1)))
event_lines nodes event (Flush node) few early within = few_more nodes 1 _ (omega arith) (flushes nodes node within few)
event_lines nodes event (Pull node source) few early within = few_more nodes 9 _ (omega arith) (also (taken nodes node source few within) (told nodes node source few within))
event_lines nodes event (Election node) few early within =
    few_more nodes (1 + 2 * nodes + 1 + 1) _ (omega arith) (also (also (also (campaigns nodes node within few) (votes nodes node nodes few within (omega arith))) (drains nodes node within few)) (flushes nodes node within few))
event_lines nodes event (Common node other) few early within =
    few_more nodes 3 _ (omega arith) (also (also (compares nodes node other within.0 within.1 few within.2) (delivered nodes node other few within)) (delivered nodes other node few (upright nodes node other within)))
event_lines nodes event (Checkpoint node) few early within = few_more nodes 1 _ (omega arith) (checkpoints nodes node within few)
event_lines nodes event (Restart node) few early within = few_more nodes 2 _ (omega arith) (also (crashes nodes node within few) (restarts nodes node within few))
event_lines nodes event (StepDown node) few early within = few_more nodes 1 _ (omega arith) (steps_down nodes node within few)
event_lines nodes event (Clock node seconds) few early within = few_more nodes 1 _ (omega arith) (clocks nodes node seconds within.0 few within.1)

-- ---- all lines

all_lines : (seed events nodes : ℕ) → events ≤ 5000 → 1 ≤ nodes → nodes ≤ 50 → AreCommands nodes (2 * (events * nodes) + 9 * events) (flat_map (text_of nodes) (happenings nodes seed events).0)
all_lines seed zero nodes short some few = at_most nodes 0 (2 * (zero * nodes) + 9 * zero) [] (omega arith) (no_command nodes)
all_lines seed (suc event) nodes short some few =
    let before = happenings nodes seed event in
    let here = happening nodes event before.1 in
    let so_far : ℕ = 2 * (event * nodes) + 9 * event in
    let lines_before = all_lines seed event nodes (omega arith) some few in
    let lines_here = event_lines nodes event here.0 few (omega arith) (happens_within nodes event before.1 some) in
    let both = more_commands nodes so_far (most_lines nodes) (flat_map (text_of nodes) before.0) (text_of nodes here.0) lines_before lines_here in
    at_most nodes (so_far + most_lines nodes) (2 * (suc event * nodes) + 9 * suc event) _ (omega (arith, suc-mul event nodes))
    (subst (λ (text : List ℕ). AreCommands nodes (so_far + most_lines nodes) text) (sym (text_more nodes before.0 here.0)) both)

-- how many that is at most, by the events times the nodes and by the events
few_enough : (product events : ℕ) → product ≤ 50000 → events ≤ 5000 → 2 * product + 9 * events ≤ 199999
few_enough product events many short = omega (arith, many, short)

-- ---- the first line

abbrev first_line : ℕ → List ℕ
first_line nodes = codes "set" ++ 32 ∷ decimal nodes

abbrev sizes_of_all : ℕ → SetLine
sizes_of_all nodes = record { nodes = nodes; voters = most_voters nodes; members = nodes }

first_plain : (nodes : ℕ) → nodes ≤ 50 → list_all is_text (first_line nodes) ≡ true
first_plain nodes few = texts (codes "set ") (decimal nodes) refl (word_is_text (decimal nodes) (is_written nodes (omega arith)).inside)

sizes_are : (nodes : ℕ) → 1 ≤ nodes → nodes ≤ 50 → set_line (first_line nodes) ≡ Ok (sizes_of_all nodes)
unfolding set_line sizes_at
sizes_are nodes some few =
    let written = is_written nodes (omega arith) in
    let shaped : has_shape (Words 1 3) (Some (decimal nodes)) ≡ true = rw (only_word (decimal nodes) written.inside) refl in
    rw (word_is (codes "set") (decimal nodes) refl, shaped, last_number 1 50 nodes (omega arith) some few) refl

first_read : (nodes : ℕ) → 1 ≤ nodes → nodes ≤ 50 → with_line 1 start (first_line nodes) ≡ Ok (with_sizes start (sizes_of_all nodes))
unfolding with_line
first_read nodes some few =
    let written = is_written nodes (omega arith) in
    rw (text_is 1 (first_line nodes) (omega arith) (omega (arith, written.short)) (first_plain nodes few), sizes_are nodes some few) refl

-- ---- the whole

-- a script by chance is read, and its set has the nodes that were asked for
pub is_script : (seed events nodes : ℕ) → events ≤ 5000 → 1 ≤ nodes → nodes ≤ 50 → events * nodes ≤ 50000
    → IsScriptFor nodes (generated seed events nodes)
unfolding script
is_script seed events nodes short some few product =
    let text = flat_map (text_of nodes) (happenings nodes seed events).0 in
    let all = all_lines seed events nodes short some few in
    let total : 2 * (events * nodes) + 9 * events ≤ 199999 = few_enough (events * nodes) events product short in
    let within : length all.parts ≤ 199999 = omega (arith, all.few, total) in
    let read = commands_read (sizes_of_all nodes) all.parts 2 (with_sizes start (sizes_of_all nodes)) all.each (omega (arith, within)) refl refl in
    let spelled : generated seed events nodes ≡ first_line nodes ++ 10 ∷ text = simp append_assoc in
    let parts : lines text ≡ all.parts = ap lines all.spelled ∙ lines_joined nodes all.parts all.each in
    let cut : lines (generated seed events nodes) ≡ first_line nodes ∷ all.parts = ap lines spelled ∙ one_line (first_line nodes) text (first_plain nodes few) ∙ ap (λ (ls : List (List ℕ)). first_line nodes ∷ ls) parts in
    let first : script_from 1 start (first_line nodes ∷ all.parts) ≡ script_from 2 (with_sizes start (sizes_of_all nodes)) all.parts =
    ap (λ (r : Result Reading _). and_then 1 r (λ (next : Reading). script_from 2 next all.parts)) (first_read nodes some few) in
    (read.0, ap (script_from 1 start) cut ∙ first ∙ read.1, read.2, read.3, read.4)
