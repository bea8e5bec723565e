-- An act and a want of which some lines are read fit their set.
use Rattle.std.proofs.Common.{◌≡◌, ℕ, ◌+◌, ◌≤◌, ◌==◌, Bool, true, false, not, ◌&&◌, List, [], ◌∷◌, ◌++◌, length, Option, None, Some, Result, Ok, Err, refl, cond, arith}
use Rattle.std.specs.Prelude.{codes, nat_lt}
use Rattle.std.specs.List.{list_all}
use Rattle.std.proofs.lemmas.Bool.{and_parts}
use Rattle.std.proofs.lemmas.List.Folds.{list_all-append}
use Rattle.bson_doc.specs.Bind.{◌>>=◌}
use Rattle.oplog_store.proofs.PlaceLemmas.{last_length}
use Rattle.bson_doc.proofs.BindLemmas.{Gets, bind_gets, cond_gets, gets_more}
use Rattle.set_model.specs.declared.command.Command.{Command}
use Rattle.set_model.specs.Limits.{is_for}
use Rattle.script_words.specs.Commands.{words_at}
use Rattle.script_words.specs.Words.{Left}
use Rattle.script_words.specs.declared.rule.ScriptRule.{ScriptRule}
use Rattle.script_words.specs.declared.verb.Verb.{Verb}
use Rattle.script_words.proofs.CommandsFit.{Fit, words_within}
use Rattle.script_words.proofs.Gets.{both}
use Rattle.explore_words.specs.declared.fault.QuestionRule.{QuestionRule}
use Rattle.explore_words.specs.declared.looking.SightVerb.{SightVerb}
use Rattle.explore_words.specs.declared.question.Act.{Act}
use Rattle.explore_words.specs.declared.question.Look.{Look}
use Rattle.explore_words.specs.declared.question.Want.{Want}
use Rattle.explore_words.specs.declared.question.Want.TheVariants.{Event, Seen}
use Rattle.explore_words.specs.Commands.{any_node_at, event_at, is_star, names_one, sight_at, sight_verb, verb_at, wanted_verb_at}
use Rattle.explore_words.specs.Fits.{has_own, is_limit, is_line_for, is_look_for, is_node_or_any, is_numbered, is_want_for, is_within_sight}
use Rattle.explore_words.specs.Gives.{as_scripts}
use Rattle.explore_words.specs.Question.{act_line, add_any, add_command, add_verb, lacks_line, line_count}
use Rattle.explore_words.specs.Texts.{cut_at_last, goes_on}
use Rattle.explore_words.specs.Wants.{add_verb as add_wanted_verb, add_wanted, is_new, may_be_event, may_go_on, may_have, new_event, one_more_look, parts_of, want_line}
use Rattle.explore_words.proofs.FitsOwn.{IsUnnumbered, event_own, words_unnumbered}
use Rattle.explore_words.proofs.FitsTexts.{longer_fits}
use Rattle.explore_words.proofs.FitsWords.{any_within, sight_within}

-- ---- reading, step by step

-- what the rules of scripts give
pub scripts_gets : {A : Type 0} (read : Result A ScriptRule) (P : A → Type 0) → Gets read P → Gets (as_scripts read) P
scripts_gets (Ok x) P holds = holds
scripts_gets (Err rule) P holds = tt

pub any_step : {A B : Type 0} (read : Result A QuestionRule) (later : A → Result B QuestionRule) (Q : B → Type 0) → ((x : A) → Gets (later x) Q) → Gets (read >>= later) Q
any_step (Ok x) later Q each = each x
any_step (Err rule) later Q each = tt

-- ---- an act and a want of which some lines are read

pub record IsActSoFar (nodes : ℕ) (act : Act) : Type 0 where
  pub limit : is_limit act.limit ≡ true
  pub few : line_count act ≤ 1000
  pub commands : list_all (is_line_for nodes) act.commands ≡ true

abbrev pub IsWantSoFar : ℕ → Want → Type 0
IsWantSoFar nodes want = is_new want ≡ false → is_want_for nodes want ≡ true

-- ---- the lines of an act

pub below : (a b : ℕ) → nat_lt a b ≡ true → a + 1 ≤ b
below a b less = grind arith

lines_more : (first : Bool) (count more : ℕ) → more ≡ count + 1 → (cond first (more + 1) more) ≡ (cond first (count + 1) count) + 1
lines_more true count more same = rw same refl
lines_more false count more same = same

line_more : (act : Act) (command : Command) → line_count (add_command act command) ≡ line_count act + 1
line_more act command = lines_more act.any_message (length act.commands) (length (act.commands ++ command ∷ [])) (last_length act.commands command)

at_most : (count other most : ℕ) → count ≡ other → other ≤ most → count ≤ most
at_most count other most same few = rw same few

pub zero_few : (most : ℕ) → 0 ≤ most
zero_few most = omega arith

-- of no line the first one comes
first_line : (any : Bool) (count : ℕ) → ((cond any (count + 1) count) == 0) ≡ true → count + 1 ≤ 1000
first_line true count none = grind arith
first_line false count none = grind arith

any_fits : (nodes : ℕ) (act : Act) (left : Left) → IsActSoFar nodes act → Gets (add_any act left) (IsActSoFar nodes)
any_fits nodes act left so_far =
    cond_gets (is_star left && lacks_line act) _ _ (IsActSoFar nodes)
    (λ first. record {
      limit = so_far.limit;
      few = first_line act.any_message (length act.commands) (and_parts (is_star left) (lacks_line act) first).1;
      commands = so_far.commands;
    })
    (λ other. tt)

abbrev IsLine : ℕ → Command → Type 0
IsLine nodes command = is_line_for nodes command ≡ true

both_got : {A : Type 0} (read : Result A ScriptRule) (P Q : A → Type 0) → Gets read P → Gets read Q → Gets read (λ x. P x × Q x)
both_got (Ok x) P Q one other = (one, other)
both_got (Err rule) P Q one other = tt

line_is : (a b : Bool) → a ≡ true → b ≡ false → (a && not b) ≡ true
line_is a b fits other = rw (fits, other) refl

line_gets : (nodes : ℕ) (verb : Verb) (left : Left) → names_one verb left ≡ false → Gets (words_at nodes verb left) (IsLine nodes)
line_gets nodes verb left other =
    gets_more (words_at nodes verb left) (λ command. Fit nodes command × IsUnnumbered command) (IsLine nodes)
    (both_got (words_at nodes verb left) (Fit nodes) IsUnnumbered (words_within nodes verb left) (words_unnumbered nodes verb left other))
    (λ command both. line_is (is_for nodes command) (is_numbered command) both.0 both.1)

added_fits : (nodes : ℕ) (act : Act) (verb : Verb) (left : Left) → IsActSoFar nodes act → Gets (add_verb nodes act verb left) (IsActSoFar nodes)
added_fits nodes act verb left so_far =
    cond_gets (nat_lt (line_count act) 1000) _ _ (IsActSoFar nodes)
    (λ room. cond_gets (names_one verb left) _ _ (IsActSoFar nodes) (λ one. any_fits nodes act left so_far)
    (λ other. bind_gets (as_scripts (words_at nodes verb left)) _ (IsLine nodes) (IsActSoFar nodes) (scripts_gets (words_at nodes verb left) (IsLine nodes) (line_gets nodes verb left other))
    (λ command fit. record {
      limit = so_far.limit;
      few = at_most (line_count (add_command act command)) (line_count act + 1) 1000 (line_more act command) (below (line_count act) 1000 room);
      commands = rw (list_all-append (is_line_for nodes) act.commands (command ∷ []), so_far.commands, fit) refl;
    })))
    (λ full. tt)

pub act_fits : (nodes : ℕ) (text : List ℕ) (act : Act) → IsActSoFar nodes act → Gets (act_line nodes text act) (IsActSoFar nodes)
unfolding act_line
act_fits nodes text act so_far = any_step (as_scripts (verb_at text)) _ (IsActSoFar nodes) (λ verb. added_fits nodes act verb.0 verb.1 so_far)

-- ---- the lines of a want

new_fits : (nodes : ℕ) (verb : Verb) (left : Left) (text : List ℕ) → Gets (new_event nodes verb left text) (IsWantSoFar nodes)
unfolding new_event
new_fits nodes verb left text =
    bind_gets (as_scripts (event_at nodes verb left)) _ (λ event. has_own event ≡ true) (IsWantSoFar nodes) (scripts_gets (event_at nodes verb left) (λ event. has_own event ≡ true) (event_own nodes verb left)) (λ event own.
    cond_gets (may_have event text) _ _ (IsWantSoFar nodes) (λ may. λ old. both (may_have event text) (has_own event) may own) (λ other. tt))

above : (n : ℕ) → nat_lt 0 (n + 1) ≡ true
above n = grind arith

some_pushed : {A : Type 0} (xs : List A) (x : A) → nat_lt 0 (length (xs ++ x ∷ [])) ≡ true
some_pushed xs x = rw (last_length xs x) (above (length xs))

look_added : (nodes : ℕ) (looks : List Look) (look : Look) → list_all (is_look_for nodes) looks ≡ true → is_look_for nodes look ≡ true → is_want_for nodes (Seen (looks ++ look ∷ [])) ≡ true
look_added nodes looks look fit one =
    both (nat_lt 0 (length (looks ++ look ∷ []))) (list_all (is_look_for nodes) (looks ++ look ∷ [])) (some_pushed looks look) (rw (list_all-append (is_look_for nodes) looks (look ∷ []), fit, one) refl)

look_fits : (nodes : ℕ) (verb : SightVerb) (left : Left) (text : List ℕ) (looks : List Look) → list_all (is_look_for nodes) looks ≡ true
    → Gets (one_more_look nodes verb left text looks) (IsWantSoFar nodes)
unfolding one_more_look
look_fits nodes verb left text looks fit =
    bind_gets (as_scripts (any_node_at nodes left)) _ (λ x. is_node_or_any nodes x.0 ≡ true) (IsWantSoFar nodes) (scripts_gets (any_node_at nodes left) (λ x. is_node_or_any nodes x.0 ≡ true) (any_within nodes left)) (λ node ours.
    bind_gets (as_scripts (sight_at verb node.1)) _ (λ sight. is_within_sight sight ≡ true) (IsWantSoFar nodes) (scripts_gets (sight_at verb node.1) (λ sight. is_within_sight sight ≡ true) (sight_within verb node.1)) (λ sight within. λ old.
    look_added nodes looks (record { node = node.0; sight = sight; text = text }) fit (both (is_node_or_any nodes node.0) (is_within_sight sight) ours within)))

looks_of : (nodes : ℕ) (looks : List Look) → IsWantSoFar nodes (Seen looks) → list_all (is_look_for nodes) looks ≡ true
looks_of nodes [] so_far = refl
looks_of nodes (look ∷ looks) so_far = (and_parts (nat_lt 0 (length (look ∷ looks))) (list_all (is_look_for nodes) (look ∷ looks)) (so_far refl)).1

verb_fits : (nodes : ℕ) (verb : Verb) (kind : Option SightVerb) (left : Left) (text : List ℕ) (want : Want) → IsWantSoFar nodes want
    → Gets (add_wanted_verb nodes verb kind left text want) (IsWantSoFar nodes)
verb_fits nodes verb None left text want so_far = cond_gets (may_be_event verb left want) _ _ (IsWantSoFar nodes) (λ may. new_fits nodes verb left text) (λ other. tt)
verb_fits nodes verb (Some sight) left text (Event event known) so_far = tt
verb_fits nodes verb (Some sight) left text (Seen looks) so_far = look_fits nodes sight left text looks (looks_of nodes looks so_far)

wanted_fits : (nodes : ℕ) (line : List ℕ) (want : Want) → IsWantSoFar nodes want → Gets (add_wanted nodes line want) (IsWantSoFar nodes)
unfolding add_wanted
wanted_fits nodes line want so_far =
    any_step (parts_of (cut_at_last (codes " => ") line)) _ (IsWantSoFar nodes) (λ parts.
    any_step (as_scripts (wanted_verb_at parts.0)) _ (IsWantSoFar nodes) (λ verb.
    verb_fits nodes verb.0 (sight_verb verb.0) verb.1 parts.1 want so_far))

not_new : (a b : Bool) → (a && not b) ≡ true → b ≡ false
not_new true false is = refl
not_new true true is = absurd cc
not_new false b is = absurd cc

pub want_fits : (nodes : ℕ) (line : List ℕ) (want : Want) → IsWantSoFar nodes want → Gets (want_line nodes line want) (IsWantSoFar nodes)
want_fits nodes line want so_far =
    cond_gets (goes_on line && not (is_new want)) _ _ (IsWantSoFar nodes)
    (λ goes. cond_gets (may_go_on want line) _ _ (IsWantSoFar nodes)
    (λ may. λ old. longer_fits nodes want line (so_far (not_new (goes_on line) (is_new want) goes)) may) (λ other. tt))
    (λ other. wanted_fits nodes line want so_far)
