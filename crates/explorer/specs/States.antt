-- What the states of a search are.
use Rattle.std.specs.Prelude.{⊤, reverse, take, ◌≡◌, ◌≤◌, ◌<◌, ◌+◌, ◌*◌, ◌++◌, ◌==◌, ◌&&◌, ℕ, zero, suc, Bool, true, false, List, [], ◌∷◌, Option, None, Some, is_some, IfSome, length, slice_get, if◌then◌else◌}
use Rattle.std.specs.List.{list_any}
use Rattle.rs_optime.specs.Membership.{In}
use Rattle.repl_msg.specs.declared.message.Message.{Message}
use Rattle.set_model.specs.declared.command.Event.{Event}
use Rattle.set_model.specs.Node.{Node}
use Rattle.explore_words.specs.declared.question.Act.{Act}
use Rattle.explore_words.specs.declared.question.Question.{Question}
use Rattle.question_laws.specs.Covered.{goes_on}
use Rattle.question_laws.specs.Doing.{act_done, world_after}
use Rattle.question_laws.specs.Following.{Follows, LeadsTo, Meets, Standing, start, used_more}
use Rattle.question_laws.specs.Meeting.{Leaves, unseen}
use Rattle.explore_steps.specs.declared.course.Course.{Course}
use Rattle.explore_steps.specs.declared.doing.Doing.{Doing as Tried}
use Rattle.explore_steps.specs.declared.doing.First.{First}
use Rattle.explore_steps.specs.declared.doing.First.TheVariants.{Nothing, Live, Dead}
use Rattle.explore_steps.specs.Courses.{BeginsWith, left_after}
use Rattle.explore_steps.specs.Keeping.{AreKept}
use Rattle.explore_steps.specs.Reaching.{IsReachedBefore}
use Rattle.explore_steps.specs.Tables.{AreNoted, AreNumbered, Grow, IsCell, Tables, tables_of}
use Rattle.explore_tables.specs.Numbers.{times}
use Rattle.explorer.specs.declared.search.Here.{Here}
use Rattle.explorer.specs.declared.search.Origin.{Origin}
use Rattle.explorer.specs.declared.search.Search.{Search}
use Rattle.explorer.specs.declared.search.Stop.{Stop}
use Rattle.explorer.specs.declared.search.Stop.TheVariants.{Met, Full}
use Rattle.explorer.specs.Exploring.{most_lines}
use Rattle.explorer.specs.Levels.{AreExpanded, AreSearched, IsCoveredIn}
use Rattle.explorer.specs.Standings.{AreLed, IsLed, IsRowOf, LeadsBy, MayGoOn, StandFor}

-- ---- the table of states

-- how many events may follow where so many acts are to be done
abbrev pub room : Question → ℕ → ℕ
room question acts = acts * most_lines question.acts

-- so many acts led to the state of this number
abbrev pub IsAfter : List Origin → ℕ → ℕ → Type 0
IsAfter origins zero number = number ≡ 0
IsAfter origins (suc acts) number =
    (origin : Origin) × (slice_get origins number ≡ Some origin) × (0 < number)
    × IsAfter origins acts origin.from

-- The state of this number is after at most so many acts, and so many more may follow.
pub record IsWithin (question : Question) (origins : List Origin) (done more number : ℕ) (standing : Standing)
    : Type 0 where
  pub acts : ℕ
  pub few : acts ≤ done
  pub after : IsAfter origins acts number
  pub goes_on : MayGoOn (room question more) question standing

-- it comes from an older one
pub record ComesFrom (tables : Tables) (question : Question) (standings : List Standing) (number : ℕ)
    (origin : Origin) (standing : Standing) : Type 0 where
  pub older : origin.from < number
  pub from : Standing
  pub there : slice_get standings origin.from ≡ Some from
  pub led : IsLed tables question from origin.doing standing

-- The states of a search stand for these standings, one by one: each is after at most `done` acts, and `more`
-- may follow.
pub record AreStates (question : Question) (done more : ℕ) (search : Search) (standings : List Standing)
    : Type 0 where
  pub kept : AreKept question search.steps
  pub notes : search.notes_dead ≡ list_any goes_on question.acts
  pub course : search.course.notes_dead ≡ search.notes_dead
  pub width : search.states.width ≡ question.sizes.nodes + 2
  pub count : length search.states.rows ≡ length standings
  pub origins : length search.origins.items ≡ length standings
  pub most : length standings ≤ search.most
  pub rows :
      (number : ℕ) (row : List ℕ) (standing : Standing) → slice_get search.states.rows number ≡ Some row
      → slice_get standings number ≡ Some standing
      → IsRowOf (tables_of search.steps) search.used question search.notes_dead row standing
  pub within :
      (number : ℕ) (standing : Standing) → slice_get standings number ≡ Some standing
      → IsWithin question search.origins.items done more number standing
  pub begin : slice_get standings 0 ≡ Some (start question)
  pub from :
      (number : ℕ) (origin : Origin) (standing : Standing) → 0 < number
      → slice_get search.origins.items number ≡ Some origin → slice_get standings number ≡ Some standing
      → ComesFrom (tables_of search.steps) question standings number origin standing

-- some more may stand there
abbrev pub Extends : List Standing → List Standing → Type 0
Extends old new = (more : List Standing) × (new ≡ old ++ more)

-- only the steps and the course are others
pub record SameStates (old new : Search) : Type 0 where
  pub used : new.used ≡ old.used
  pub states : new.states ≡ old.states
  pub origins : new.origins.items ≡ old.origins.items
  pub most : new.most ≡ old.most
  pub notes : new.notes_dead ≡ old.notes_dead

-- Nothing was searched yet.
pub record IsNew (question : Question) (most : ℕ) (search : Search) : Type 0 where
  pub kept : AreKept question search.steps
  pub notes : search.notes_dead ≡ list_any goes_on question.acts
  pub course : search.course.notes_dead ≡ search.notes_dead
  pub cells : search.course.cells.items ≡ []
  pub unmet : search.course.met ≡ 0
  pub dead : search.course.dead ≡ false
  pub used : search.used ≡ []
  pub states : search.states ≡ record { width = question.sizes.nodes + 2; rows = [] }
  pub origins : search.origins.items ≡ []
  pub most_are : search.most ≡ most

-- the first state is there, or all wants are met in it
abbrev pub IsBegun : Question → ℕ → Search → Bool → Type 0
IsBegun question depth search true = (start question).left ≡ []
IsBegun question depth search false = AreStates question 0 depth search (start question ∷ [])

-- numbers keep their meaning
pub record HasGrown (old new : Search) : Type 0 where
  pub tables : Grow (tables_of old.steps) (tables_of new.steps)
  pub used : AreNumbered old.used new.used
  pub origins : AreNumbered old.origins.items new.origins.items
  pub notes : new.notes_dead ≡ old.notes_dead
  pub most : new.most ≡ old.most

-- ---- a state that is gone on from

-- an act that begins with any message may begin so in these cells
abbrev pub IsListed : Tables → List ℕ → Bool → First → Type 0
IsListed tables cells dead Nothing = ⊥
IsListed tables cells dead (Live number) =
    (place : ℕ) × (cell : ℕ) × (node : Node) × (messages : List Message) × (sent : Message)
    × (slice_get cells place ≡ Some cell) × IsCell tables cell node messages × In sent messages
    × (slice_get tables.messages number ≡ Some sent)
IsListed tables cells dead Dead = dead ≡ true

-- each one is there
pub record AreListed (tables : Tables) (cells : List ℕ) (dead : Bool) (firsts : List First) : Type 0 where
  pub listed : (first : First) → In first firsts → IsListed tables cells dead first
  pub live :
      (place cell : ℕ) (node : Node) (messages : List Message) (sent : Message)
      → slice_get cells place ≡ Some cell → IsCell tables cell node messages → In sent messages
      → (number : ℕ) × In (Live number) firsts × (slice_get tables.messages number ≡ Some sent)
  pub noted : dead ≡ true → In Dead firsts

-- it stands for a standing
pub record IsHere (question : Question) (search : Search) (here : Here) (by : Standing) : Type 0 where
  pub acts : List ℕ
  pub acts_are : slice_get search.used here.used ≡ Some acts
  pub notes : here.course.notes_dead ≡ search.notes_dead
  pub stand :
      StandFor (tables_of search.steps) question search.notes_dead here.course.cells.items here.course.dead
      here.course.met acts by
  pub firsts :
      AreListed (tables_of search.steps) here.course.cells.items here.course.dead here.firsts.items

-- The states stand for these standings, and this one of them is gone on from. After it comes at most one act
-- more than `done`, and `more` may follow that.
pub record GoesFrom (question : Question) (done more : ℕ) (search : Search) (here : Here) (by : Standing)
    (standings : List Standing) : Type 0 where
  pub states : AreStates question (suc done) more search standings
  pub there : slice_get standings here.number ≡ Some by
  pub is : IsHere question search here by
  pub within : IsWithin question search.origins.items done (suc more) here.number by

-- a doing may be tried there
pub record MayTry (question : Question) (tables : Tables) (by : Standing) (doing : Tried) : Type 0 where
  pub act : Act
  pub message : Option ℕ
  pub there : slice_get question.acts doing.act ≡ Some act
  pub begins : BeginsWith tables doing.first by.world message
  pub any : is_some message ≡ act.any_message
  pub limit : IfSome act.limit (λ limit. by.used doing.act < limit)

-- ---- what was tried

-- the course stands where an act leads
pub record IsDone (spare : ℕ) (tables : Tables) (question : Question) (course : Course) (by : Standing)
    (act : Act) (message : Option ℕ) : Type 0 where
  pub noted :
      AreNoted tables course.notes_dead course.cells.items course.dead
      (world_after by.world (act_done by.world act message))
  pub reached : IsReachedBefore spare question (world_after by.world (act_done by.world act message))
  pub within : course.met ≤ length question.wants
  pub seen :
      unseen (world_after by.world (act_done by.world act message)) (left_after question course.met)
      ≡ left_after question course.met
  pub leaves : Leaves by.world (act_done by.world act message) by.left (left_after question course.met)

-- The states stand for these standings, and the course for what a doing from this one of them leads to. Not
-- all wants are met there.
pub record IsOut (question : Question) (done more : ℕ) (search : Search) (used : ℕ) (origin : Origin)
    (by : Standing) (standings : List Standing) : Type 0 where
  pub states : AreStates question (suc done) more search standings
  pub there : slice_get standings origin.from ≡ Some by
  pub within : IsWithin question search.origins.items done (suc more) origin.from by
  pub acts : List ℕ
  pub acts_are : slice_get search.used used ≡ Some acts
  pub counted : (place : ℕ) → by.used place ≡ times place acts
  pub may : MayTry question (tables_of search.steps) by origin.doing
  pub is : IsDone (room question more) (tables_of search.steps) question search.course by may.act may.message
  pub unmet : search.course.met ≡ length question.wants → ⊥

-- an act leads from this one to where a course stands
pub record Lands (tables : Tables) (question : Question) (course : Course) (by : Standing) (act : ℕ)
    (new : Standing) : Type 0 where
  pub noted : AreNoted tables course.notes_dead course.cells.items course.dead new.world
  pub left : new.left ≡ left_after question course.met
  pub used : new.used ≡ used_more by.used act

-- some standings have grown to these, and what such acts lead to is covered
pub record Grown (question : Question) (done more : ℕ) (search : Search) (old : List Standing)
    (By : Standing → Type 0) : Type 0 where
  pub standings : List Standing
  pub states : AreStates question done more search standings
  pub extends : Extends old standings
  pub covers : (new : Standing) → By new → IsCoveredIn question standings new

-- all wants are met by a doing from a state on
pub record HasMet (question : Question) (done : ℕ) (search : Search) (last : Origin) : Type 0 where
  pub standings : List Standing
  pub more : ℕ
  pub states : AreStates question (suc done) more search standings
  pub from : Standing
  pub new : Standing
  pub there : slice_get standings last.from ≡ Some from
  pub acts : ℕ
  pub few : acts ≤ done
  pub after : IsAfter search.origins.items acts last.from
  pub led : IsLed (tables_of search.steps) question from last.doing new
  pub met : new.left ≡ []

-- ---- how a search ends

-- what an act leads to from one of the states from `first` up to `end`
abbrev pub IsNext : Question → List Standing → (first end : ℕ) → Standing → Type 0
IsNext question standings first end new =
    (number : ℕ) × (by : Standing) × (first ≤ number) × (number < end)
    × (slice_get standings number ≡ Some by) × LeadsTo question by new

-- what this act leads to
abbrev pub LeadsByAct : Question → Standing → ℕ → Standing → Type 0
LeadsByAct question by act new = (leads : LeadsTo question by new) × (leads.doing.act ≡ act)

-- What was to be done is done, or all wants are met. Where there are too many states nothing is owed.
abbrev pub GoesOn :
    Question → (done more : ℕ) → Search → List Standing → (Standing → Type 0) → Option Stop → Type 0
GoesOn question done more search old By None = Grown question (suc done) more search old By
GoesOn question done more search old By (Some (Met last)) = HasMet question done search last
GoesOn question done more search old By (Some Full) = ⊤

-- ---- limited acts

-- how often an act counts as done by one that is done
abbrev pub counts : Act → (act place : ℕ) → ℕ
counts of act place = if is_some of.limit && (act == place) then 1 else 0

-- the list of this number is another with an act more, where it counts
abbrev pub IsMore : List (List ℕ) → Act → (act number : ℕ) → List ℕ → Type 0
IsMore lists of act number acts =
    (more : List ℕ) × (slice_get lists number ≡ Some more)
    × ((place : ℕ) → times place more ≡ times place acts + counts of act place)

-- ---- the run that was found

-- these events are a run of so many acts, no more than that, that meets all wants
pub record IsFound (question : Question) (most acts : ℕ) (events : List Event) : Type 0 where
  pub within : acts ≤ most
  pub follows : Follows question acts events
  pub meets : Meets question events

-- the doings on the path to it: the wants are met by them
abbrev pub IsPath : Question → ℕ → Tables → List Tried → Type 0
IsPath question most tables doings =
    (new : Standing) × AreLed tables question (start question) doings new × (new.left ≡ [])
    × (length doings ≤ most)

-- ---- so far

-- an act that begins in one of these ways leads there
abbrev pub LeadsByOne : Tables → Question → Standing → ℕ → List First → Standing → Type 0
LeadsByOne tables question by act firsts new =
    (first : First) × In first firsts × LeadsBy tables question by (record { act = act; first = first }) new

-- one of the first acts does
abbrev pub LeadsByActs : Question → Standing → ℕ → Standing → Type 0
LeadsByActs question by acts new = (act : ℕ) × (act < acts) × LeadsByAct question by act new

-- The levels so far were done whole: their states, and what acts lead to from the states before `first`.
pub record IsLevel (question : Question) (depth level first : ℕ) (search : Search) : Type 0 where
  pub more : ℕ
  pub standings : List Standing
  pub left : level + more ≡ depth
  pub states : AreStates question level more search standings
  pub within : first ≤ length standings
  pub searched : AreSearched question level standings
  pub expanded : AreExpanded question (take first standings) standings

-- On the path back from the last state, these doings lead from here to the end.
pub record IsBack (question : Question) (done : ℕ) (search : Search) (last : Origin)
    (met : HasMet question done search last) (state : ℕ) (doings : List Tried) : Type 0 where
  pub acts : ℕ
  pub at : Standing
  pub there : slice_get met.standings state ≡ Some at
  pub after : IsAfter search.origins.items acts state
  pub count : acts + length doings ≤ suc done
  pub led : AreLed (tables_of search.steps) question at (reverse doings) met.new
