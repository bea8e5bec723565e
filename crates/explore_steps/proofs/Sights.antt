-- What is seen in a world can be told by its cells.
use Rattle.std.proofs.Common.{◌≡◌, ◌∙◌, ◌<◌, ◌≤◌, inl, inr, ap, sym, subst, refl, arith, ltb-true, ℕ, zero, suc, Bool, true, false, ◌&&◌, ◌||◌, nat_lt, Option, None, Some, List, [], ◌∷◌, length, slice_get, if◌then◌else◌}
use Rattle.std.proofs.lemmas.Bool.{and_parts}
use Rattle.std.proofs.lemmas.Option.{slice_get_cases}
use Rattle.std.specs.List.{list_all}
use Rattle.std.specs.Option.{option_map, option_map_or}
use Rattle.std.specs.Prelude.{option_and_then, unwrap_or}
use Rattle.bson_doc.specs.Key.{key_of}
use Rattle.bson_doc.specs.View.{tree_of}
use Rattle.oplog_entry.specs.declared.entry.Entry.{Entry}
use Rattle.set_model.specs.declared.command.Command.{Command}
use Rattle.set_model.specs.declared.command.Command.TheVariants as commands
use Rattle.set_model.specs.declared.command.Target.TheVariants.{At}
use Rattle.set_model.specs.declared.reply.Reply.{Reply}
use Rattle.set_model.specs.Node.{Node}
use Rattle.set_model.specs.World.{World, is_delivery, step, touched_node}
use Rattle.explore_laws.specs.Alike.{AlikeNodes}
use Rattle.explore_laws.specs.Settled.{AreSettled}
use Rattle.explore_words.specs.Fits.{is_look_for, is_node_or_any, is_want_for}
use Rattle.explore_words.specs.declared.question.Look.{Look}
use Rattle.explore_words.specs.declared.question.Sight.{Sight}
use Rattle.explore_words.specs.declared.question.Sight.TheVariants as sights
use Rattle.explore_words.specs.declared.question.Want.{Want}
use Rattle.explore_words.specs.declared.question.Want.TheVariants.{Event as Happens, Seen}
use Rattle.question_laws.specs.Doing.{event_of}
use Rattle.question_laws.specs.Lawful.{may_name}
use Rattle.question_laws.specs.Meeting.{any_below, begins, is_look_met, is_seen, last_of_key, shows, unseen}
use Rattle.explore_steps.specs.Causes.{is_met_at, outcome_at, own as own_line, shows_at}
use Rattle.explore_steps.specs.Seeing.{is_met_in, is_seen_in, node_in}
use Rattle.explore_steps.specs.Tables.{AreOf, StandsFor, Tables}
use Rattle.explore_steps.proofs.AlikeSound.{alike_back}
use Rattle.explore_steps.proofs.Coming.{comes}
use Rattle.explore_steps.proofs.Covering.{there_too}
use Rattle.explore_steps.proofs.Meeting.{plain_same}

-- ---- a look at a node

module _ (nodes : ℕ) (world : World) (number : ℕ) (own node : Node) (count : length world.nodes ≡ nodes) (settled : AreSettled world)
    (there : slice_get world.nodes number ≡ Some own) (alike : AlikeNodes own node) where
  shown_same : (command : Command) → is_delivery command ≡ false → may_name command ≡ false → touched_node world command ≡ number
      → (step world (event_of command)).reply ≡ (outcome_at nodes (own_line command) node).reply
  shown_same command own_one unnamed number_is =
      plain_same nodes world command command number own node (refl, own_one) unnamed
      (comes nodes world command number own node count number_is there (settled number own there) alike (own_line command) (refl, own_one))

  abbrev seen_as : Option Command → List ℕ → Bool
  seen_as found text = option_map_or (λ (command : Command). begins (step world (event_of command)).reply text) found false

  abbrev kept_as : Option Command → List ℕ → Bool
  kept_as found text = option_map_or (λ (command : Command). begins (outcome_at nodes (own_line command) node).reply text) found false

  pub sight_same : (sight : Sight) (text : List ℕ) → seen_as (shows world number sight) text ≡ kept_as (shows_at 0 node sight) text
  sight_same (sights.Read level collection id) text = ap (λ (r : Reply). begins r text) (shown_same (commands.Read number level collection id) refl refl refl)
  sight_same (sights.Dump level) text = ap (λ (r : Reply). begins r text) (shown_same (commands.Dump number level) refl refl refl)
  sight_same sights.Log text = ap (λ (r : Reply). begins r text) (shown_same (commands.Log number) refl refl refl)
  sight_same sights.State text = ap (λ (r : Reply). begins r text) (shown_same (commands.State number) refl refl refl)
  sight_same sights.Rolled text = ap (λ (r : Reply). begins r text) (shown_same (commands.Rolled number) refl refl refl)
  sight_same (sights.Ack target concern) text = ap (λ (r : Reply). begins r text) (shown_same (commands.Ack number target concern) refl refl refl)
  sight_same (sights.AckLast collection id concern) text =
      ap (λ (found : Option Node). seen_as (option_map (λ (entry : Entry). commands.Ack number (At entry.optime) concern) (option_and_then last_at found)) text) there
      ∙ ap (λ (n : Node). seen_as (option_map (λ (entry : Entry). commands.Ack number (At entry.optime) concern) (last_at n)) text) alike.others
      ∙ by (last_at node)
    where
      last_at : Node → Option Entry
      last_at n = last_of_key n.log collection (key_of (tree_of id))

      by : (found : Option Entry) → seen_as (option_map (λ (entry : Entry). commands.Ack number (At entry.optime) concern) found) text
          ≡ kept_as (option_map (λ (entry : Entry). commands.Ack 0 (At entry.optime) concern) found) text
      by None = refl
      by (Some entry) = ap (λ (r : Reply). begins r text) (shown_same (commands.Ack number (At entry.optime) concern) refl refl refl)

-- ---- looks by cells

any_same_below : (f g : ℕ → Bool) (count : ℕ) → ((n : ℕ) → n < count → f n ≡ g n) → any_below f count ≡ any_below g count
any_same_below f g zero same = refl
any_same_below f g (suc count) same =
    ap (λ b. b || f count) (any_same_below f g count (λ n less. same n (omega (arith, less)))) ∙ ap (λ b. any_below g count || b) (same count (omega arith))

all_same_if : {A : Type 0} (f g test : A → Bool) → ((x : A) → test x ≡ true → f x ≡ g x) → (xs : List A) → list_all test xs ≡ true → list_all f xs ≡ list_all g xs
all_same_if f g test same [] is = refl
all_same_if f g test same (x ∷ xs) is =
    ap (λ b. b && list_all f xs) (same x (and_parts (test x) (list_all test xs) is).0) ∙ ap (λ b. g x && b) (all_same_if f g test same xs (and_parts (test x) (list_all test xs) is).1)

pub look_within : (nodes number : ℕ) (look : Look) → number < nodes → is_look_for nodes look ≡ true → unwrap_or look.node number < nodes
look_within nodes number look less fits = by look.node (and_parts (is_node_or_any nodes look.node) _ fits).0
  where
    by : (node : Option ℕ) → is_node_or_any nodes node ≡ true → unwrap_or node number < nodes
    by None is = less
    by (Some node) is = ltb-true node nodes is

module _ (tables : Tables) (nodes : ℕ) (cells : List ℕ) (world : World) (count : length world.nodes ≡ nodes) (settled : AreSettled world) (are : AreOf tables cells world) where
  -- the node of a cell
  node_there : (number cell : ℕ) → slice_get cells number ≡ Some cell → (stands : StandsFor tables cell world number) → node_in tables cells number ≡ Some stands.node
  node_there number cell is stands =
      ap (λ (found : Option ℕ). node_of (option_and_then (slice_get tables.cells) found)) is
      ∙ ap node_of stands.is_cell.cell_is ∙ stands.is_cell.node_is
    where
      node_of : Option (ℕ × ℕ) → Option Node
      node_of = option_and_then (λ (pair : ℕ × ℕ). slice_get tables.nodes pair.0)

  pub met_same : (number : ℕ) (look : Look) → unwrap_or look.node number < nodes → is_look_met world number look ≡ is_met_in tables nodes cells number look
  met_same number look within = elim (slice_get_cases cells place).1 [
    | inl found ↦ by found.0 found.2
    | inr past ↦ (let order : length cells ≤ place = past.0 in absurd (beyond order))
  ]
    where
      place : ℕ
      place = unwrap_or look.node number

      beyond : length cells ≤ place → ⊥
      beyond order =
          let cells_count : length cells ≡ length world.nodes = are.count in
          omega (arith, order, within, count, cells_count)

      by : (cell : ℕ) → slice_get cells place ≡ Some cell → is_look_met world number look ≡ is_met_in tables nodes cells number look
      by cell is =
          let stands : StandsFor tables cell world place = are.each place cell is in
          sight_same nodes world place stands.own stands.node count settled stands.there stands.alike look.sight look.text
          ∙ sym (ap (λ (found : Option Node). option_map_or (λ (node : Node). is_met_at nodes node look) found false) (node_there place cell is stands))

  pub seen_same : (want : Want) → is_want_for nodes want ≡ true → is_seen world want ≡ is_seen_in tables nodes cells want
  seen_same (Happens event text) fits = refl
  seen_same (Seen looks) fits =
      any_same_below (λ number. list_all (is_look_met world number) looks) (λ number. list_all (is_met_in tables nodes cells number) looks) (length world.nodes)
      (λ number less. all_same_if (is_look_met world number) (is_met_in tables nodes cells number) (is_look_for nodes)
      (λ look is_for. met_same number look (look_within nodes number look (subst (λ k. number < k) count less) is_for)) looks (and_parts (nat_lt 0 (length looks)) (list_all (is_look_for nodes) looks) fits).1)
      ∙ ap (any_below (λ number. list_all (is_met_in tables nodes cells number) looks)) (sym are.count)

-- the wants that are left, once those that are seen in cells are met
abbrev pub unseen_in : Tables → ℕ → List ℕ → List Want → List Want
unseen_in tables nodes cells [] = []
unseen_in tables nodes cells (want ∷ wants) = if is_seen_in tables nodes cells want then unseen_in tables nodes cells wants else want ∷ wants

pub unseen_by_cells : (tables : Tables) (nodes : ℕ) (cells : List ℕ) (world : World) → length world.nodes ≡ nodes → AreSettled world → AreOf tables cells world
    → (wants : List Want) → list_all (is_want_for nodes) wants ≡ true → unseen world wants ≡ unseen_in tables nodes cells wants
unseen_by_cells tables nodes cells world count settled are [] fit = refl
unseen_by_cells tables nodes cells world count settled are (want ∷ wants) fit =
    let parts : (is_want_for nodes want ≡ true) × (list_all (is_want_for nodes) wants ≡ true) = and_parts (is_want_for nodes want) (list_all (is_want_for nodes) wants) fit in
    ap (λ b. if b then unseen world wants else want ∷ wants) (seen_same tables nodes cells world count settled are want parts.0)
    ∙ ap (λ l. if is_seen_in tables nodes cells want then l else want ∷ wants) (unseen_by_cells tables nodes cells world count settled are wants parts.1)

-- ---- cells of the same nodes

module _ (one two : Tables) (nodes : ℕ) (cells others : List ℕ) (count : length cells ≡ length others) (same : (place : ℕ) → node_in one cells place ≡ node_in two others place) where
  met_alike : (any : ℕ) (looks : List Look) → list_all (is_met_in one nodes cells any) looks ≡ list_all (is_met_in two nodes others any) looks
  met_alike any [] = refl
  met_alike any (look ∷ looks) =
      ap (λ (found : Option Node). option_map_or (λ (node : Node). is_met_at nodes node look) found false && list_all (is_met_in one nodes cells any) looks) (same (unwrap_or look.node any))
      ∙ ap (λ b. is_met_in two nodes others any look && b) (met_alike any looks)

  -- they see the same
  pub seen_alike : (want : Want) → is_seen_in one nodes cells want ≡ is_seen_in two nodes others want
  seen_alike (Happens event text) = refl
  seen_alike (Seen looks) =
      any_same_below (λ any. list_all (is_met_in one nodes cells any) looks) (λ any. list_all (is_met_in two nodes others any) looks) (length cells) (λ any less. met_alike any looks)
      ∙ ap (any_below (λ any. list_all (is_met_in two nodes others any) looks)) count

-- ---- worlds of alike nodes

itself : (node : Node) → AlikeNodes node node
itself node = record { others = refl; records = record { vote = refl; config = refl; entries = refl; point = refl }; tally = λ is. refl }

-- whatever was sent in them
module _ (nodes : ℕ) (one two : World) (one_count : length one.nodes ≡ nodes) (two_count : length two.nodes ≡ nodes) (one_settled : AreSettled one) (two_settled : AreSettled two)
    (alike : (number : ℕ) (a b : Node) → slice_get one.nodes number ≡ Some a → slice_get two.nodes number ≡ Some b → AlikeNodes a b) where
  look_still : (number : ℕ) (look : Look) → unwrap_or look.node number < nodes → is_look_met one number look ≡ is_look_met two number look
  look_still number look within = elim (slice_get_cases one.nodes place).1 [
    | inl found ↦ by found.0 found.2 (there_too one.nodes two.nodes place found.0 (two_count ∙ sym one_count) found.2)
    | inr past ↦ (let order : length one.nodes ≤ place = past.0 in absurd (omega (arith, order, within, one_count)))
  ]
    where
      place : ℕ
      place = unwrap_or look.node number

      by : (a : Node) → slice_get one.nodes place ≡ Some a → (b : Node) × (slice_get two.nodes place ≡ Some b) → is_look_met one number look ≡ is_look_met two number look
      by a a_there b =
          sight_same nodes one place a a one_count one_settled a_there (itself a) look.sight look.text
          ∙ sym (sight_same nodes two place b.0 a two_count two_settled b.1 (alike_back a b.0 (alike place a b.0 a_there b.1)) look.sight look.text)

  seen_still : (want : Want) → is_want_for nodes want ≡ true → is_seen one want ≡ is_seen two want
  seen_still (Happens event text) fits = refl
  seen_still (Seen looks) fits =
      any_same_below (λ number. list_all (is_look_met one number) looks) (λ number. list_all (is_look_met two number) looks) (length one.nodes)
      (λ number less. all_same_if (is_look_met one number) (is_look_met two number) (is_look_for nodes)
      (λ look is_for. look_still number look (look_within nodes number look (subst (λ k. number < k) one_count less) is_for)) looks (and_parts (nat_lt 0 (length looks)) (list_all (is_look_for nodes) looks) fits).1)
      ∙ ap (any_below (λ number. list_all (is_look_met two number) looks)) (one_count ∙ sym two_count)

  pub unseen_still : (wants : List Want) → list_all (is_want_for nodes) wants ≡ true → unseen one wants ≡ unseen two wants
  unseen_still [] fit = refl
  unseen_still (want ∷ wants) fit =
      let parts : (is_want_for nodes want ≡ true) × (list_all (is_want_for nodes) wants ≡ true) = and_parts (is_want_for nodes want) (list_all (is_want_for nodes) wants) fit in
      ap (λ b. if b then unseen one wants else want ∷ wants) (seen_still want parts.0) ∙ ap (λ l. if is_seen two want then l else want ∷ wants) (unseen_still wants parts.1)
