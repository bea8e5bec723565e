-- A random script, from a number.
--
-- Numbers are drawn from PCG32 (`Lcg64Xsh32` of `rand_pcg`), seeded by that number: each is the next word,
-- modulo how many numbers there are to choose from. For each event, counted from 0, a kind of 16 is drawn,
-- then the node A where it happens, then another node B, and then a last number X if its lines have one. A
-- set of one node has no B: nothing is drawn for it, and A flushes instead.
--
--     0 to 3    insert A t {_id: EVENT, n: 0}
--     4         update A t X {$inc: {n: 1}}        X is from 0 to EVENT
--     5         delete A t X                       X is from 0 to EVENT
--     6         flush A
--     7 to 9    A hears of B, fetches from it, applies (with 4 workers), flushes and reports to B
--     10        A campaigns, each other node votes, A drains and flushes
--     11        A asks B which entries both have
--     12        checkpoint A
--     13        crash A, restart A
--     14        stepdown A
--     15        clock A X                          X is from 0 to 999
use Rattle.std.specs.Prelude.{ℕ, zero, suc, ◌+◌, ◌-◌, ◌%◌, ◌==◌, nat_lt, List, [], ◌∷◌, ◌++◌, Option, None, Some, codes, if◌then◌else◌}
use Rattle.std.specs.Fmt.{decimal}
use Rattle.std.specs.List.{flat_map}
use Rattle.rand_core.specs.Pcg32Seed.{pcg32_seed}
use Rattle.rand_pcg.specs.Lcg.{Lcg}
use Rattle.rand_pcg.specs.Pcg.{pcg32, pcg32_of_seed}
use Rattle.chance_script.specs.declared.happening.Happening.{Happening}
use Rattle.chance_script.specs.declared.happening.Happening.TheVariants.{Insert, Update, Delete, Flush, Pull, Election, Common, Checkpoint, Restart, StepDown, Clock}

-- ---- what is drawn

abbrev pub seeded : ℕ → Lcg
seeded seed = pcg32_of_seed (pcg32_seed 16 seed)

-- a number below a limit, and the generator after it
abbrev pub drawn : ℕ → Lcg → ℕ × Lcg
drawn count generator = ((pcg32 generator).0 % count, (pcg32 generator).1)

-- another node of the set, and the generator after it
abbrev pub other_node : (nodes node : ℕ) → Lcg → Option ℕ × Lcg
other_node nodes node generator =
    if nat_lt 1 nodes
    then (Some ((node + 1 + (drawn (nodes - 1) generator).0) % nodes), (drawn (nodes - 1) generator).1)
    else (None, generator)

-- a last number, for what happens at this node
abbrev pub with_last : (ℕ → Happening) → ℕ × Lcg → Happening × Lcg
with_last happens (last, generator) = (happens last, generator)

abbrev pub pull_from : ℕ → Option ℕ → Happening
pull_from node None = Flush node
pull_from node (Some source) = Pull node source

abbrev pub common_with : ℕ → Option ℕ → Happening
common_with node None = Flush node
common_with node (Some other) = Common node other

-- what happens at a node, by the kind drawn
abbrev pub of_kind : (kind event node : ℕ) → Option ℕ → Lcg → Happening × Lcg
of_kind kind event node other generator =
    if nat_lt kind 4 then (Insert node event, generator)
    else if kind == 4 then with_last (Update node) (drawn (event + 1) generator)
    else if kind == 5 then with_last (Delete node) (drawn (event + 1) generator)
    else if kind == 6 then (Flush node, generator)
    else if nat_lt kind 10 then (pull_from node other, generator)
    else if kind == 10 then (Election node, generator)
    else if kind == 11 then (common_with node other, generator)
    else if kind == 12 then (Checkpoint node, generator)
    else if kind == 13 then (Restart node, generator)
    else if kind == 14 then (StepDown node, generator)
    else with_last (Clock node) (drawn 1000 generator)

-- the event of this number in a set of this size
abbrev pub at_node : (kind event node : ℕ) → Option ℕ × Lcg → Happening × Lcg
at_node kind event node (other, generator) = of_kind kind event node other generator

abbrev pub of_this_kind : (nodes event kind : ℕ) → ℕ × Lcg → Happening × Lcg
of_this_kind nodes event kind (node, generator) = at_node kind event node (other_node nodes node generator)

abbrev pub after_kind : (nodes event : ℕ) → ℕ × Lcg → Happening × Lcg
after_kind nodes event (kind, generator) = of_this_kind nodes event kind (drawn nodes generator)

unfoldable pub happening : (nodes event : ℕ) → Lcg → Happening × Lcg
happening nodes event generator = after_kind nodes event (drawn 16 generator)

-- one more event
abbrev pub with_event : List Happening → Happening × Lcg → List Happening × Lcg
with_event events (event, generator) = (events ++ event ∷ [], generator)

-- this many events, and the generator after them
abbrev pub happenings : (nodes seed count : ℕ) → List Happening × Lcg
happenings nodes seed zero = ([], seeded seed)
happenings nodes seed (suc event) =
    with_event (happenings nodes seed event).0 (happening nodes event (happenings nodes seed event).1)

-- ---- its lines

-- a line that asks a node for something
abbrev pub ask : (word : List ℕ) (node : ℕ) (after : List ℕ) → List ℕ
ask word node after = word ++ codes " n" ++ decimal node ++ after ++ codes "\n"

-- the same, naming another node
abbrev pub ask_with : (word : List ℕ) (node other : ℕ) → List ℕ
ask_with word node other = ask word node (codes " n" ++ decimal other)

-- a node votes for a candidate
abbrev pub vote_of : (candidate voter : ℕ) → List ℕ
vote_of candidate voter =
    if voter == candidate then []
    else ask_with (codes "deliver") candidate voter ++ ask_with (codes "deliver") voter candidate

-- the first nodes do it, this many
abbrev pub votes_of : (candidate count : ℕ) → List ℕ
votes_of candidate zero = []
votes_of candidate (suc voter) = votes_of candidate voter ++ vote_of candidate voter

-- a node hears of its source and takes what it lacks
abbrev pub taken_text : (node source : ℕ) → List ℕ
taken_text node source =
    ask_with (codes "heartbeat") source node ++ ask_with (codes "deliver") source node
    ++ ask (codes "fetch") node [] ++ ask_with (codes "deliver") node source
    ++ ask_with (codes "deliver") source node

-- it applies and stores what it took, and reports
abbrev pub told_text : (node source : ℕ) → List ℕ
told_text node source =
    ask (codes "apply") node (codes " 4") ++ ask (codes "flush") node []
    ++ ask_with (codes "report") node source ++ ask_with (codes "deliver") node source

unfoldable pub text_of : (nodes : ℕ) → Happening → List ℕ
text_of nodes (Insert node id) =
    ask (codes "insert") node (codes " t {_id: " ++ decimal id ++ codes ", n: 0}")
text_of nodes (Update node id) =
    ask (codes "update") node (codes " t " ++ decimal id ++ codes " {$inc: {n: 1}}")
text_of nodes (Delete node id) = ask (codes "delete") node (codes " t " ++ decimal id)
text_of nodes (Flush node) = ask (codes "flush") node []
text_of nodes (Pull node source) = taken_text node source ++ told_text node source
text_of nodes (Election node) =
    ask (codes "campaign") node [] ++ votes_of node nodes ++ ask (codes "drain") node []
    ++ ask (codes "flush") node []
text_of nodes (Common node other) =
    ask_with (codes "common") node other ++ ask_with (codes "deliver") node other
    ++ ask_with (codes "deliver") other node
text_of nodes (Checkpoint node) = ask (codes "checkpoint") node []
text_of nodes (Restart node) = ask (codes "crash") node [] ++ ask (codes "restart") node []
text_of nodes (StepDown node) = ask (codes "stepdown") node []
text_of nodes (Clock node seconds) = ask (codes "clock") node (codes " " ++ decimal seconds)

-- ---- the whole

-- the first line
abbrev pub set_text : ℕ → List ℕ
set_text nodes = codes "set " ++ decimal nodes ++ codes "\n"

-- the bytes of the script of a seed, by the number of its events and of its set's nodes
abbrev pub generated : (seed events nodes : ℕ) → List ℕ
generated seed events nodes = set_text nodes ++ flat_map (text_of nodes) (happenings nodes seed events).0
