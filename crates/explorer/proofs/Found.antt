-- A run that is done again, act by act, along a path of states.
use Rattle.std.proofs.Common.{◌≡◌, ◌≤◌, ◌<◌, ◌∙◌, ap, sym, subst, refl, arith, ℕ, suc, ◌+◌, ◌==◌, Option, Some, List, [], ◌∷◌, ◌++◌, append-nil, append_assoc, drop, get_or, length, slice_get, if◌then◌else◌}
use Rattle.std.specs.Prelude.{IfSome, is_some}
use Rattle.std.proofs.Math.Seq.{drop-append_seam}
use Rattle.std.proofs.lemmas.List.{drop_more}
use Rattle.std.proofs.lemmas.Option.{slice_get_within}
use Rattle.set_model.specs.declared.command.Event.{Event}
use Rattle.set_model.specs.World.{World}
use Rattle.explore_laws.specs.Laws.{DeadMessagesChangeNothing}
use Rattle.explore_words.specs.declared.question.Act.{Act}
use Rattle.explore_words.specs.declared.question.Question.{Question}
use Rattle.explore_words.specs.declared.question.Want.{Want}
use Rattle.question_laws.specs.Doing.{act_done, world_after}
use Rattle.question_laws.specs.Following.{Follows, MayDo, Meets, Standing, beginning, begun, start, used_more}
use Rattle.question_laws.specs.Meeting.{Leaves, unseen}
use Rattle.explore_steps.specs.declared.doing.Doing.{Doing as Tried}
use Rattle.explore_steps.specs.declared.doing.First.{First}
use Rattle.explore_steps.specs.declared.doing.First.TheVariants.{Nothing, Live, Dead}
use Rattle.explore_steps.specs.Courses.{BeginsWith}
use Rattle.explore_steps.specs.Reaching.{IsReachedBefore}
use Rattle.explore_steps.specs.Tables.{Tables}
use Rattle.explore_steps.proofs.LineLemmas.{leaves_together}
use Rattle.explorer.specs.declared.replay.Run.{Run}
use Rattle.explorer.specs.Replaying.{Does, IsRunBegun}
use Rattle.explorer.specs.Standings.{AreLed, IsLed}
use Rattle.explorer.specs.States.{IsFound, IsPath}
use Rattle.explorer.specs.Paths.{LeadsAlong}
use Rattle.explorer.proofs.Again.{again}
use Rattle.explorer.proofs.PathLemmas.{along_follows, along_more, along_world, may_do_too}

-- So many acts were done, with these events in all, and lead to a standing. Limited acts count as there.
pub record IsAlong (question : Question) (acts : ℕ) (machine : World) (events : List Event) (at : Standing) : Type 0 where
  pub rest : List Event
  pub used : ℕ → ℕ
  pub events_are : events ≡ beginning question ++ rest
  pub machine_is : machine ≡ at.world
  pub along : LeadsAlong acts question (begun question) (λ place. 0) rest at.world used
  pub counted :
      (place limit : ℕ) (other : Act) → slice_get question.acts place ≡ Some other → other.limit ≡ Some limit
      → used place ≡ at.used place
  pub leaves : Leaves (begun question) rest (unseen (begun question) question.wants) at.left

pub along_begun : (question : Question) (machine : World) (events : List Event) → machine ≡ begun question → events ≡ beginning question → IsAlong question 0 machine events (start question)
along_begun question machine events machine_is events_are = record {
  rest = [];
  used = λ place. 0;
  events_are = events_are ∙ sym (append-nil (beginning question));
  machine_is = machine_is;
  along = (refl, refl, refl);
  counted = λ place limit other there is. refl;
  leaves = refl;
}

module _ (question : Question) (acts : ℕ) (machine : World) (events : List Event) (at next : Standing) (along : IsAlong question acts machine events at)
    (act : Act) (place : ℕ) (message : Option ℕ) (may : MayDo question at.world at.used (record { act = place; message = message }) act)
    (world : next.world ≡ world_after at.world (act_done at.world act message))
    (used : (p limit : ℕ) (o : Act) → slice_get question.acts p ≡ Some o → o.limit ≡ Some limit → next.used p ≡ used_more at.used place p)
    (leaves : Leaves at.world (act_done at.world act message) at.left next.left) where
  may_here : MayDo question at.world along.used (record { act = place; message = message }) act
  may_here = may_do_too question at.world at.used along.used (record { act = place; message = message }) act (λ limit is. sym (along.counted place limit act may.there is)) may

  along_next : LeadsAlong (suc acts) question (begun question) (λ p. 0) (along.rest ++ act_done at.world act message) next.world (used_more along.used place)
  along_next =
      subst (λ (w : World). LeadsAlong (suc acts) question (begun question) (λ p. 0) (along.rest ++ act_done at.world act message) w (used_more along.used place)) (sym world)
      (along_more question (record { act = place; message = message }) act acts (begun question) (λ p. 0) along.rest at.world along.used along.along may_here)

  -- one act more
  pub along_led : (now : World) (all : List Event) → now ≡ world_after machine (act_done machine act message) → all ≡ events ++ act_done machine act message → IsAlong question (suc acts) now all next
  along_led now all now_is all_are = record {
    rest = along.rest ++ act_done at.world act message;
    used = used_more along.used place;
    events_are =
        all_are ∙ ap (λ (w : World). events ++ act_done w act message) along.machine_is
        ∙ ap (λ (es : List Event). es ++ act_done at.world act message) along.events_are
        ∙ append_assoc (beginning question) along.rest (act_done at.world act message);
    machine_is = now_is ∙ ap (λ (w : World). world_after w (act_done w act message)) along.machine_is ∙ sym world;
    along = along_next;
    counted = λ p limit o there is. ap (λ (n : ℕ). if p == place then n + 1 else n) (along.counted p limit o there is) ∙ sym (used p limit o there is);
    leaves =
        leaves_together (begun question) along.rest (act_done at.world act message) (unseen (begun question) question.wants) at.left next.left along.leaves
        (subst (λ (w : World). Leaves w (act_done at.world act message) at.left next.left) (along_world acts question (begun question) (λ p. 0) along.rest at.world along.used along.along) leaves);
  }

-- the run that was found
pub along_follows_all : (question : Question) (acts : ℕ) (machine : World) (events : List Event) (at : Standing) → IsAlong question acts machine events at → Follows question acts events
along_follows_all question acts machine events at along =
    (along.rest, along.events_are, along_follows acts question (begun question) (λ p. 0) along.rest at.world along.used along.along)

pub along_meets : (question : Question) (acts : ℕ) (machine : World) (events : List Event) (at : Standing) → IsAlong question acts machine events at → at.left ≡ [] → Meets question events
along_meets question acts machine events at along none =
    subst (λ (es : List Event). Leaves (begun question) es (unseen (begun question) question.wants) []) (sym rest_is)
    (subst (λ (left : List Want). Leaves (begun question) along.rest (unseen (begun question) question.wants) left) none along.leaves)
  where
    rest_is : drop (length (beginning question)) events ≡ along.rest
    rest_is = ap (drop (length (beginning question))) along.events_are ∙ drop-append_seam (beginning question) along.rest

-- ---- a run

pub run_begun : (question : Question) (run : Run) → IsRunBegun question run → IsAlong question 0 run.machine run.events.items (start question)
run_begun question run is = along_begun question run.machine run.events.items is.machine is.events

-- an act may begin with a message for another
sent_there : (tables : Tables) (first : First) (world : World) (message : Option ℕ) → BeginsWith tables first world message → IfSome message (λ sent. sent < length world.messages)
sent_there tables Nothing world message is = subst (λ (m : Option ℕ). IfSome m (λ sent. sent < length world.messages)) (sym is) tt
sent_there tables (Live number) world message is =
    subst (λ (m : Option ℕ). IfSome m (λ sent. sent < length world.messages)) (sym is.2) (slice_get_within world.messages is.0 is.1 is.3)
sent_there tables Dead world message is =
    subst (λ (m : Option ℕ). IfSome m (λ sent. sent < length world.messages)) (sym is.2) (slice_get_within world.messages is.0 is.1 is.3)

some_same : (tables : Tables) (first : First) (world : World) (one other : Option ℕ) → BeginsWith tables first world one → BeginsWith tables first world other → is_some one ≡ is_some other
some_same tables Nothing world one other is too = ap is_some is ∙ sym (ap is_some too)
some_same tables (Live number) world one other is too = ap is_some is.2 ∙ sym (ap is_some too.2)
some_same tables Dead world one other is too = ap is_some is.2 ∙ sym (ap is_some too.2)

pub may_again : (tables : Tables) (question : Question) (at next : Standing) (doing : Tried) (led : IsLed tables question at doing next) → (message : Option ℕ) → BeginsWith tables doing.first at.world message
    → MayDo question at.world at.used (record { act = doing.act; message = message }) led.act
may_again tables question at next doing led message begins = record {
  there = led.may.there;
  begins = some_same tables doing.first at.world message led.message begins led.begins ∙ led.may.begins;
  sent = sent_there tables doing.first at.world message begins;
  limit = led.may.limit;
}

pub run_led : DeadMessagesChangeNothing → (tables : Tables) (question : Question) (acts : ℕ) (old now : Run) (at next : Standing) (doing : Tried) (led : IsLed tables question at doing next) → IsAlong question acts old.machine old.events.items at
    → (message : Option ℕ) → BeginsWith tables doing.first old.machine message → Does old now (act_done old.machine led.act message) → IsAlong question (suc acts) now.machine now.events.items next
run_led nothing_changes tables question acts old now at next doing led along message begins does =
    let begins_at : BeginsWith tables doing.first at.world message = subst (λ (w : World). BeginsWith tables doing.first w message) along.machine_is begins in
    let leads : (next.world ≡ world_after at.world (act_done at.world led.act message)) × Leaves at.world (act_done at.world led.act message) at.left next.left = again nothing_changes question tables at doing next led message begins_at in
    along_led question acts old.machine old.events.items at next along led.act doing.act message (may_again tables question at next doing led message begins_at)
    leads.0 led.used leads.1 now.machine now.events.items does.machine does.more

pub run_found : (question : Question) (most acts : ℕ) (run : Run) (at : Standing) → IsAlong question acts run.machine run.events.items at → at.left ≡ [] → acts ≤ most → IsFound question most acts run.events.items
run_found question most acts run at along none few = record {
  within = few;
  follows = along_follows_all question acts run.machine run.events.items at along;
  meets = along_meets question acts run.machine run.events.items at along none;
}

-- ---- along a path

-- The doings up to here were done, and these lead on to where all wants are met.
pub record IsOnPath (tables : Tables) (question : Question) (acts : ℕ) (run : Run) (left : List Tried) : Type 0 where
  pub at : Standing
  pub last : Standing
  pub along : IsAlong question acts run.machine run.events.items at
  pub led : AreLed tables question at left last
  pub met : last.left ≡ []

pub path_begun : (tables : Tables) (question : Question) (most : ℕ) (run : Run) (doings : List Tried) → IsRunBegun question run → IsPath question most tables doings → IsOnPath tables question 0 run doings
path_begun tables question most run doings begun path = record {
  at = start question;
  last = path.0;
  along = run_begun question run begun;
  led = path.1;
  met = path.2;
}

-- how the next doing may be done
abbrev pub MayGo : Tables → Question → World → Tried → Type 0
MayGo tables question machine doing =
    (act : Act) × (message : Option ℕ) × (slice_get question.acts doing.act ≡ Some act) × BeginsWith tables doing.first machine message × IsReachedBefore (suc (length act.commands)) question machine

-- and what it came to
abbrev pub HasGone : Tables → Question → Run → Run → Tried → Type 0
HasGone tables question old new doing =
    (act : Act) → slice_get question.acts doing.act ≡ Some act
    → (message : Option ℕ) × BeginsWith tables doing.first old.machine message × Does old new (act_done old.machine act message)

module _ (tables : Tables) (question : Question) (acts : ℕ) (old : Run) (doing : Tried) (left : List Tried) (path : IsOnPath tables question acts old (doing ∷ left)) where
  abbrev next : Standing
  next = path.led.0

  abbrev led : IsLed tables question path.at doing path.led.0
  led = path.led.1

  pub path_may : MayGo tables question old.machine doing
  path_may = (
    led.act,
    led.message,
    led.may.there,
    subst (λ (w : World). BeginsWith tables doing.first w led.message) (sym path.along.machine_is) led.begins,
    subst (IsReachedBefore (suc (length led.act.commands)) question) (sym path.along.machine_is) led.room,
  )

  pub path_next : DeadMessagesChangeNothing → (new : Run) → HasGone tables question old new doing → IsOnPath tables question (acts + 1) new left
  path_next nothing_changes new gone =
      let did = gone led.act led.may.there in
      record {
        at = next;
        last = path.last;
        along = subst (λ k. IsAlong question k new.machine new.events.items next) (omega arith) (run_led nothing_changes tables question acts old new path.at next doing led path.along did.0 did.1 did.2);
        led = path.led.2;
        met = path.met;
      }

pub path_ends : (tables : Tables) (question : Question) (acts most : ℕ) (run : Run) (left : List Tried) → left ≡ [] → acts ≤ most → IsOnPath tables question acts run left → IsFound question most acts run.events.items
path_ends tables question acts most run left none few path =
    run_found question most acts run path.at path.along (ap (λ (s : Standing). s.left) there ∙ path.met) few
  where
    there : path.at ≡ path.last
    there = subst (λ (l : List Tried). AreLed tables question path.at l path.last) none path.led

-- ---- at the beginning

-- the beginning alone meets all wants
pub begun_found : (question : Question) (run : Run) → IsRunBegun question run → (start question).left ≡ [] → IsFound question 0 0 run.events.items
begun_found question run begun none = run_found question 0 0 run (start question) (run_begun question run begun) none (omega arith)

-- ---- one after another

-- the doing at a place comes before those after it
pub on_next : (tables : Tables) (question : Question) (place : ℕ) (run : Run) (doings : List Tried) → place < length doings → IsOnPath tables question place run (drop place doings)
    → IsOnPath tables question place run (get_or doings place (record { act = 0; first = Nothing }) ∷ drop (place + 1) doings)
on_next tables question place run doings within path = subst (IsOnPath tables question place run) (drop_more doings place (record { act = 0; first = Nothing }) within) path
