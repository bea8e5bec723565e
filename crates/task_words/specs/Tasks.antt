-- What the words after the program's name ask for.
--
--     run                        the script of the source is run
--     trace                      the same, and in place of the replies the trace of its run is put
--     linear NODE COLL ID        the same as `run`, and then a linear read is done, and its result put
--     watch COLL TOKEN NODE..    the same as `run`, and then changes are put that nodes have after a token
--     sync NODE                  the same as `run`, and then a new member is made of what a node committed
--     chaos SEED EVENTS NODES    a generated script is run, and its summary put
--     check                      nothing is run: it is put whether the source's bytes are a trace
--
-- SEED, EVENTS and NODES are one to twenty decimal digits: a number of 64 bits, one up to 5,000, and one from
-- 1 to 50. EVENTS times NODES is at most 50,000.
use Rattle.std.specs.Prelude.{ℕ, Bool, false, ⊤, ◌≤◌, ◌*◌, ◌&&◌, nat_le, nat_lt, List, [], ◌∷◌, length, Option, None, Some, option_map, codes, if◌then◌else◌}
use Rattle.std.specs.Char.{is_ascii_digit}
use Rattle.std.specs.List.{list_all}
use Rattle.std.specs.Str.{bytes_eq}
use Rattle.std.specs.Str.Parse.{digits_value}
use Rattle.change_words.specs.Asked.{node_of, watch_of}
use Rattle.change_words.specs.declared.asked.Watch.{Watch}
use Rattle.linear_words.specs.Asked.{linear_of}
use Rattle.linear_words.specs.declared.asked.Linear.{Linear}
use Rattle.task_words.specs.declared.words.Task.{Task}
use Rattle.task_words.specs.declared.words.Wanted.{Wanted}
use Rattle.task_words.specs.declared.words.Task.TheVariants.{Run, Trace, Chaos, Sync, Linear as ReadsLinear, Watch as Watches}

abbrev pub if_within : (least most : ℕ) → ℕ → Option ℕ
if_within least most number = if nat_le least number && nat_le number most then Some number else None

abbrev pub number_word : (least most : ℕ) → List ℕ → Option ℕ
number_word least most word =
    if nat_lt 0 (length word) && nat_le (length word) 20 && list_all is_ascii_digit word
    then if_within least most (digits_value 10 word)
    else None

abbrev pub with_numbers : Option ℕ → Option ℕ → Option ℕ → Option Wanted
with_numbers (Some seed) (Some events) (Some nodes) =
    if nat_le (events * nodes) 50000 then Some (record { seed = seed; events = events; nodes = nodes })
    else None
with_numbers (Some seed) (Some events) None = None
with_numbers (Some seed) None nodes = None
with_numbers None events nodes = None

-- the script that SEED, EVENTS and NODES ask for
abbrev pub wanted_of : (seed events nodes : List ℕ) → Option Wanted
wanted_of seed events nodes =
    with_numbers (number_word 0 18446744073709551615 seed) (number_word 0 5000 events)
    (number_word 1 50 nodes)

-- ---- each word, by those after it

-- a word on its own
abbrev pub alone : Task → List (List ℕ) → Option Task
alone task [] = Some task
alone task (word ∷ words) = None

abbrev pub chaos_task : List (List ℕ) → Option Task
chaos_task [] = None
chaos_task (seed ∷ []) = None
chaos_task (seed ∷ events ∷ []) = None
chaos_task (seed ∷ events ∷ nodes ∷ []) =
    option_map (λ (wanted : Wanted). Chaos wanted.seed wanted.events wanted.nodes)
    (wanted_of seed events nodes)
chaos_task (seed ∷ events ∷ nodes ∷ more ∷ others) = None

abbrev pub watch_task : List (List ℕ) → Option Task
watch_task [] = None
watch_task (collection ∷ []) = None
watch_task (collection ∷ token ∷ nodes) =
    option_map (λ (watch : Watch). Watches watch) (watch_of collection token nodes)

abbrev pub linear_task : List (List ℕ) → Option Task
linear_task [] = None
linear_task (node ∷ []) = None
linear_task (node ∷ collection ∷ []) = None
linear_task (node ∷ collection ∷ id ∷ []) =
    option_map (λ (linear : Linear). ReadsLinear linear) (linear_of node collection id)
linear_task (node ∷ collection ∷ id ∷ more ∷ others) = None

abbrev pub sync_task : List (List ℕ) → Option Task
sync_task [] = None
sync_task (node ∷ []) = option_map (λ (number : ℕ). Sync number) (node_of node)
sync_task (node ∷ more ∷ others) = None

abbrev pub word_task : List ℕ → List (List ℕ) → Option Task
word_task name words =
    if bytes_eq name (codes "run") then alone Run words
    else if bytes_eq name (codes "trace") then alone Trace words
    else if bytes_eq name (codes "linear") then linear_task words
    else if bytes_eq name (codes "watch") then watch_task words
    else if bytes_eq name (codes "sync") then sync_task words
    else if bytes_eq name (codes "chaos") then chaos_task words
    else None

abbrev pub task_of : List (List ℕ) → Option Task
task_of [] = None
task_of (name ∷ words) = word_task name words

-- the source's bytes are checked, and nothing is run
abbrev pub is_check : List (List ℕ) → Bool
is_check [] = false
is_check (name ∷ []) = bytes_eq name (codes "check")
is_check (name ∷ more ∷ others) = false

-- ---- tasks

-- what is generated has at most 5,000 events, in a set of 1 to 50 nodes, and their product is at most 50,000
abbrev pub IsBounded : Task → Type 0
IsBounded Run = ⊤
IsBounded Trace = ⊤
IsBounded (ReadsLinear linear) = ⊤
IsBounded (Watches watch) = ⊤
IsBounded (Sync node) = ⊤
IsBounded (Chaos seed events nodes) = (events ≤ 5000) × (1 ≤ nodes) × (nodes ≤ 50) × (events * nodes ≤ 50000)
