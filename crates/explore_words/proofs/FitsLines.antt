-- A question that is read fits its set.
use Rattle.std.proofs.Common.{◌≡◌, ℕ, ◌+◌, ◌≤◌, ◌==◌, Bool, true, false, ◌&&◌, List, [], ◌∷◌, ◌++◌, length, Option, None, Some, Result, Ok, Err, refl, arith}
use Rattle.std.specs.Prelude.{IfSome, codes, nat_le, nat_lt}
use Rattle.std.specs.List.{list_all}
use Rattle.std.specs.Str.{bytes_eq}
use Rattle.std.specs.Str.Lines.{lines}
use Rattle.std.proofs.lemmas.List.Folds.{list_all-append}
use Rattle.oplog_store.proofs.PlaceLemmas.{last_length}
use Rattle.bson_doc.proofs.BindLemmas.{Gets, bind_gets, cond_gets, gets_more}
use Rattle.set_model.specs.Limits.{is_for}
use Rattle.set_model.specs.Run.{AreSizes}
use Rattle.script_words.specs.Commands.{words_at}
use Rattle.script_words.specs.Set.{set_line}
use Rattle.script_words.specs.Words.{Left, has_shape, number_at, word_at}
use Rattle.script_words.specs.declared.set.SetLine.{SetLine}
use Rattle.script_words.specs.declared.shape.Shape.TheVariants.{Words}
use Rattle.script_words.proofs.CommandsFit.{Fit, IsIn, number_within, words_within}
use Rattle.fault_script.specs.Lines.{is_passed_over, text_of}
use Rattle.fault_script.proofs.WholeFits.{line_sizes, set_sized}
use Rattle.explore_words.specs.declared.fault.QuestionFault.{QuestionFault}
use Rattle.explore_words.specs.declared.fault.QuestionRule.{QuestionRule}
use Rattle.explore_words.specs.declared.question.Act.{Act}
use Rattle.explore_words.specs.declared.question.Question.{Question}
use Rattle.explore_words.specs.declared.question.Want.{Want}
use Rattle.explore_words.specs.declared.reading.Reading.{Reading}
use Rattle.explore_words.specs.Commands.{verb_at}
use Rattle.explore_words.specs.Fits.{fits_set, is_act_for, is_limit, is_line_for, is_want_for, sizes_of}
use Rattle.explore_words.specs.Gives.{as_scripts}
use Rattle.explore_words.specs.Question.{with_act, with_want, act_line, and_then, begin_act, begin_want, end_act, end_acts, end_want, ended, lacks_line, limit_at, line_count, next_act, next_want, question, question_from, some_wants, start, whole, with_command, with_line, with_part, with_text, with_word, with_words}
use Rattle.explore_words.specs.Wants.{is_new, want_line}
use Rattle.explore_words.proofs.FitsParts.{IsActSoFar, IsWantSoFar, act_fits, any_step, below, scripts_gets, want_fits, zero_few}

-- ---- all that is read so far

abbrev open_count : {A : Type 0} → Option A → ℕ
open_count None = 0
open_count (Some item) = 1

pub record PartsFit (nodes : ℕ) (reading : Reading) : Type 0 where
  pub beginning : list_all (is_for nodes) reading.beginning ≡ true
  pub acts : list_all (is_act_for nodes) reading.acts ≡ true
  pub few_acts : length reading.acts + open_count reading.act ≤ 1000
  pub act : IfSome reading.act (IsActSoFar nodes)
  pub wants : list_all (is_want_for nodes) reading.wants ≡ true
  pub few_wants : length reading.wants + open_count reading.want ≤ 100
  pub want : IfSome reading.want (IsWantSoFar nodes)

-- after the `set` line
pub record After (set : SetLine) (reading : Reading) : Type 0 where
  pub known : reading.set ≡ Some set
  pub sizes : AreSizes (line_sizes set)
  pub parts : PartsFit set.nodes reading

-- after the last act
pub record Acted (set : SetLine) (reading : Reading) : Type 0 where
  pub after : After set reading
  pub none : reading.act ≡ None
  pub some : (length reading.acts == 0) ≡ false

abbrev FitAfter : Option SetLine → Reading → Type 0
FitAfter None reading = (nodes : ℕ) → PartsFit nodes reading
FitAfter (Some set) reading = AreSizes (line_sizes set) × PartsFit set.nodes reading

abbrev AreFit : Reading → Type 0
AreFit reading = FitAfter reading.set reading

fit_as : (known : Option SetLine) (set : SetLine) (reading : Reading) → known ≡ Some set → AreSizes (line_sizes set) × PartsFit set.nodes reading → FitAfter known reading
fit_as known set reading same fits = rw same fits

fit_after : (set : SetLine) (reading : Reading) → After set reading → AreFit reading
fit_after set reading after = fit_as reading.set set reading after.known (after.sizes, after.parts)

-- ---- where acts and wants end

whole_act : (a d : Bool) (count : ℕ) → a ≡ true → (count == 0) ≡ false → count ≤ 1000 → d ≡ true → ((a && (nat_lt 0 count && nat_le count 1000)) && d) ≡ true
whole_act a d count one some few all =
    let more : nat_lt 0 count ≡ true = grind arith in
    let less : nat_le count 1000 ≡ true = grind arith in
    rw (one, more, less, all) refl

opened : {A : Type 0} (held : Option A) (item : A) (P : A → Type 0) → held ≡ Some item → IfSome held P → P item
opened held item P is holds = rw is at holds

one_more : {A : Type 0} (items : List A) (item : A) (held : Option A) (most : ℕ) → held ≡ Some item → length items + open_count held ≤ most → length (items ++ item ∷ []) + 0 ≤ most
one_more items item held most is few =
    let known : length items + 1 ≤ most = (rw is at few) in
    rw (last_length items item) (omega (arith, known))

act_ends : (set : SetLine) (reading : Reading) (act : Option Act) → reading.act ≡ act → After set reading → Gets (end_act reading act) (λ ended. After set ended × (ended.act ≡ None))
act_ends set reading None is after = (after, is)
act_ends set reading (Some act) is after =
    cond_gets (lacks_line act) _ _ (λ ended. After set ended × (ended.act ≡ None)) (λ none. tt) (λ some.
    let so_far = opened reading.act act (IsActSoFar set.nodes) is after.parts.act in (
      record {
        known = after.known;
        sizes = after.sizes;
        parts = record {
          beginning = after.parts.beginning;
          acts =
              let whole = whole_act (is_limit act.limit) (list_all (is_line_for set.nodes) act.commands) (line_count act) so_far.limit some so_far.few so_far.commands in
              rw (list_all-append (is_act_for set.nodes) reading.acts (act ∷ []), after.parts.acts, whole) refl;
          few_acts = one_more reading.acts act reading.act 1000 is after.parts.few_acts;
          act = tt;
          wants = after.parts.wants;
          few_wants = after.parts.few_wants;
          want = after.parts.want;
        };
      },
      refl,
    ))

acts_end : (set : SetLine) (reading : Reading) → After set reading → Gets (end_acts reading) (Acted set)
unfolding end_acts
acts_end set reading after =
    bind_gets (end_act reading reading.act) _ (λ ended. After set ended × (ended.act ≡ None)) (Acted set) (act_ends set reading reading.act refl after) (λ ended fit.
    cond_gets (length ended.acts == 0) _ _ (Acted set) (λ none. tt) (λ some. record { after = fit.0; none = fit.1; some = some }))

want_ends : (set : SetLine) (reading : Reading) (want : Option Want) → reading.want ≡ want → Acted set reading → Gets (end_want reading want) (λ ended. Acted set ended × (ended.want ≡ None))
want_ends set reading None is acted = (acted, is)
want_ends set reading (Some want) is acted =
    cond_gets (is_new want) _ _ (λ ended. Acted set ended × (ended.want ≡ None)) (λ new. tt) (λ old.
    let parts = acted.after.parts in (
      record {
        after = record {
          known = acted.after.known;
          sizes = acted.after.sizes;
          parts = record {
            beginning = parts.beginning;
            acts = parts.acts;
            few_acts = parts.few_acts;
            act = parts.act;
            wants = rw (list_all-append (is_want_for set.nodes) reading.wants (want ∷ []), parts.wants, opened reading.want want (IsWantSoFar set.nodes) is parts.want old) refl;
            few_wants = one_more reading.wants want reading.want 100 is parts.few_wants;
            want = tt;
          };
        };
        none = acted.none;
        some = acted.some;
      },
      refl,
    ))

-- ---- where they begin

limit_fits : (left : Left) → Gets (limit_at left) (λ limit. is_limit limit ≡ true)
limit_fits None = refl
limit_fits (Some text) = bind_gets (number_at 1 1000 (Some text)) _ (λ x. IsIn 1 1000 x.0) (λ limit. is_limit limit ≡ true) (number_within 1 1000 (Some text)) (λ limit within. within)

next_act_fits : (set : SetLine) (reading : Reading) (left : Left) → After set reading → Gets (next_act reading left) (After set)
next_act_fits set reading left after =
    cond_gets (nat_lt (length reading.acts) 1000) _ _ (After set)
    (λ room. bind_gets (as_scripts (limit_at left)) _ (λ limit. is_limit limit ≡ true) (After set) (scripts_gets (limit_at left) (λ limit. is_limit limit ≡ true) (limit_fits left))
    (λ limit fits. record {
      known = after.known;
      sizes = after.sizes;
      parts = record {
        beginning = after.parts.beginning;
        acts = after.parts.acts;
        few_acts = below (length reading.acts) 1000 room;
        act = record { limit = fits; few = zero_few 1000; commands = refl };
        wants = after.parts.wants;
        few_wants = after.parts.few_wants;
        want = after.parts.want;
      };
    }))
    (λ full. tt)

act_begins : (set : SetLine) (reading : Reading) (left : Left) (want : Option Want) → After set reading → Gets (begin_act reading left want) (After set)
act_begins set reading left (Some want) after = tt
act_begins set reading left None after =
    bind_gets (end_act reading reading.act) _ (λ ended. After set ended × (ended.act ≡ None)) (After set) (act_ends set reading reading.act refl after) (λ ended fit.
    next_act_fits set ended left fit.0)

next_want_fits : (set : SetLine) (reading : Reading) → Acted set reading → Gets (next_want reading) (After set)
next_want_fits set reading acted =
    let parts = acted.after.parts in
    cond_gets (nat_lt (length reading.wants) 100) _ _ (After set)
    (λ room. record {
      known = acted.after.known;
      sizes = acted.after.sizes;
      parts = record {
        beginning = parts.beginning;
        acts = parts.acts;
        few_acts = parts.few_acts;
        act = parts.act;
        wants = parts.wants;
        few_wants = below (length reading.wants) 100 room;
        want = λ old. absurd cc;
      };
    })
    (λ full. tt)

want_begins : (set : SetLine) (reading : Reading) → After set reading → Gets (begin_want reading) (After set)
unfolding begin_want
want_begins set reading after =
    bind_gets (end_acts reading) _ (Acted set) (After set) (acts_end set reading after) (λ acted fit.
    bind_gets (end_want acted acted.want) _ (λ ended. Acted set ended × (ended.want ≡ None)) (After set) (want_ends set acted acted.want refl fit) (λ ended both_end.
    next_want_fits set ended both_end.0))

-- ---- a line

with_act_fits : (set : SetLine) (reading : Reading) (act more : Act) → reading.act ≡ Some act → After set reading → IsActSoFar set.nodes more → After set (with_act reading more)
with_act_fits set reading act more is after fits = record {
  known = after.known;
  sizes = after.sizes;
  parts = record {
    beginning = after.parts.beginning;
    acts = after.parts.acts;
    few_acts = (rw is at after.parts.few_acts);
    act = fits;
    wants = after.parts.wants;
    few_wants = after.parts.few_wants;
    want = after.parts.want;
  };
}

with_want_fits : (set : SetLine) (reading : Reading) (want more : Want) → reading.want ≡ Some want → After set reading → IsWantSoFar set.nodes more → After set (with_want reading more)
with_want_fits set reading want more is after fits = record {
  known = after.known;
  sizes = after.sizes;
  parts = record {
    beginning = after.parts.beginning;
    acts = after.parts.acts;
    few_acts = after.parts.few_acts;
    act = after.parts.act;
    wants = after.parts.wants;
    few_wants = (rw is at after.parts.few_wants);
    want = fits;
  };
}

command_fits : (set : SetLine) (reading : Reading) (text : List ℕ) → After set reading → Gets (with_command set.nodes reading text) (After set)
unfolding with_command
command_fits set reading text after =
    any_step (as_scripts (verb_at text)) _ (After set) (λ verb.
    bind_gets (as_scripts (words_at set.nodes verb.0 verb.1)) _ (Fit set.nodes) (After set) (scripts_gets (words_at set.nodes verb.0 verb.1) (Fit set.nodes) (words_within set.nodes verb.0 verb.1)) (λ command fit.
    record {
      known = after.known;
      sizes = after.sizes;
      parts = record {
        beginning = rw (list_all-append (is_for set.nodes) reading.beginning (command ∷ []), after.parts.beginning, fit) refl;
        acts = after.parts.acts;
        few_acts = after.parts.few_acts;
        act = after.parts.act;
        wants = after.parts.wants;
        few_wants = after.parts.few_wants;
        want = after.parts.want;
      };
    }))

part_fits : (set : SetLine) (reading : Reading) (text : List ℕ) (act : Option Act) (want : Option Want) → reading.act ≡ act → reading.want ≡ want → After set reading
    → Gets (with_part set.nodes reading text act want) (After set)
part_fits set reading text act (Some want) one two after =
    bind_gets (want_line set.nodes text want) _ (IsWantSoFar set.nodes) (After set) (want_fits set.nodes text want (opened reading.want want (IsWantSoFar set.nodes) two after.parts.want))
    (λ more fits. with_want_fits set reading want more two after fits)
part_fits set reading text (Some act) None one two after =
    bind_gets (act_line set.nodes text act) _ (IsActSoFar set.nodes) (After set) (act_fits set.nodes text act (opened reading.act act (IsActSoFar set.nodes) one after.parts.act))
    (λ more fits. with_act_fits set reading act more one after fits)
part_fits set reading text None None one two after = command_fits set reading text after

word_fits : (set : SetLine) (reading : Reading) (text word : List ℕ) (left : Left) → After set reading → Gets (with_word set.nodes reading text word left) (After set)
word_fits set reading text word left after =
    cond_gets (bytes_eq word (codes "may")) _ _ (After set)
    (λ may. cond_gets (has_shape (Words 0 1) left) _ _ (After set) (λ shaped. act_begins set reading left reading.want after) (λ other. tt))
    (λ no. cond_gets (bytes_eq word (codes "want")) _ _ (After set)
    (λ want. cond_gets (has_shape (Words 0 0) left) _ _ (After set) (λ shaped. want_begins set reading after) (λ other. tt))
    (λ other. part_fits set reading text reading.act reading.want refl refl after))

sized : (reading : Reading) (set : SetLine) → PartsFit set.nodes reading → PartsFit set.nodes (record reading { set = Some set })
sized reading set parts = record {
  beginning = parts.beginning;
  acts = parts.acts;
  few_acts = parts.few_acts;
  act = parts.act;
  wants = parts.wants;
  few_wants = parts.few_wants;
  want = parts.want;
}

text_fits : (reading : Reading) (text : List ℕ) (set : Option SetLine) → reading.set ≡ set → FitAfter set reading → Gets (with_text reading text set) AreFit
unfolding with_words
text_fits reading text None is fit =
    bind_gets (as_scripts (set_line text)) _ (λ set. AreSizes (line_sizes set)) AreFit (scripts_gets (set_line text) (λ set. AreSizes (line_sizes set)) (set_sized text)) (λ set sizes.
    (sizes, sized reading set (fit set.nodes)))
text_fits reading text (Some set) is fit =
    any_step (as_scripts (word_at (Some text))) _ AreFit (λ first.
    gets_more (with_word set.nodes reading text first.0 first.1) (After set) AreFit (word_fits set reading text first.0 first.1 (record { known = is; sizes = fit.0; parts = fit.1 }))
    (λ next after. fit_after set next after))

line_fits : (number : ℕ) (reading : Reading) (line : List ℕ) → AreFit reading → Gets (with_line number reading line) AreFit
unfolding with_line
line_fits number reading line fit =
    any_step (as_scripts (text_of number line)) _ AreFit (λ text.
    cond_gets (is_passed_over text) _ _ AreFit (λ passed. fit) (λ other. text_fits reading text reading.set refl fit))

-- ---- the whole

abbrev IsOfItsSet : Question → Type 0
IsOfItsSet read = AreSizes (sizes_of read) × (fits_set read ≡ true)

all_fit : (a b c : Bool) (acts wants : ℕ) → a ≡ true → b ≡ true → c ≡ true → (acts == 0) ≡ false → acts ≤ 1000 → (wants == 0) ≡ false → wants ≤ 100
    → ((a && ((nat_lt 0 acts && nat_le acts 1000) && b)) && ((nat_lt 0 wants && nat_le wants 100) && c)) ≡ true
all_fit a b c acts wants one two three some few also less =
    let acts_more : nat_lt 0 acts ≡ true = grind arith in
    let acts_less : nat_le acts 1000 ≡ true = grind arith in
    let wants_more : nat_lt 0 wants ≡ true = grind arith in
    let wants_less : nat_le wants 100 ≡ true = grind arith in
    rw (one, two, three, acts_more, acts_less, wants_more, wants_less) refl

wants_fit : (set : SetLine) (reading : Reading) → Acted set reading → Gets (some_wants reading set) IsOfItsSet
wants_fit set reading acted =
    let parts = acted.after.parts in
    cond_gets (length reading.wants == 0) _ _ IsOfItsSet (λ none. tt) (λ some. (
      acted.after.sizes,
      all_fit (list_all (is_for set.nodes) reading.beginning) (list_all (is_act_for set.nodes) reading.acts) (list_all (is_want_for set.nodes) reading.wants)
          (length reading.acts) (length reading.wants) parts.beginning parts.acts parts.wants acted.some (omega (arith, parts.few_acts)) some (omega (arith, parts.few_wants)),
    ))

whole_fits : (reading : Reading) (set : Option SetLine) → reading.set ≡ set → FitAfter set reading → Gets (whole reading set) IsOfItsSet
unfolding ended
whole_fits reading None is fit = tt
whole_fits reading (Some set) is fit =
    bind_gets (end_acts reading) _ (Acted set) IsOfItsSet (acts_end set reading (record { known = is; sizes = fit.0; parts = fit.1 })) (λ acted fits.
    bind_gets (end_want acted acted.want) _ (λ ended. Acted set ended × (ended.want ≡ None)) IsOfItsSet (want_ends set acted acted.want refl fits) (λ read fits_both.
    wants_fit set read fits_both.0))

then_fits : {A : Type 0} (number : ℕ) (read : Result A QuestionRule) (P : A → Type 0) (later : A → Result Question QuestionFault) → Gets read P
    → ((next : A) → P next → Gets (later next) IsOfItsSet) → Gets (and_then number read later) IsOfItsSet
then_fits number (Ok next) P later fits each = each next fits
then_fits number (Err rule) P later fits each = tt

lines_fit : (later : List (List ℕ)) (number : ℕ) (reading : Reading) → AreFit reading → Gets (question_from number reading later) IsOfItsSet
lines_fit [] number reading fit = then_fits number (whole reading reading.set) IsOfItsSet _ (whole_fits reading reading.set refl fit) (λ read fits. fits)
lines_fit (line ∷ later) number reading fit = then_fits number (with_line number reading line) AreFit _ (line_fits number reading line fit) (λ next ours. lines_fit later (number + 1) next ours)

none_yet : (nodes : ℕ) → PartsFit nodes start
none_yet nodes =
    record { beginning = refl; acts = refl; few_acts = zero_few 1000; act = tt; wants = refl; few_wants = zero_few 100; want = tt }

pub question_fits : (bytes : List ℕ) (read : Question) → question bytes ≡ Ok read → IsOfItsSet read
unfolding question
question_fits bytes read is = told (question_from 1 start (lines bytes)) is (lines_fit (lines bytes) 1 start none_yet)
  where
    told : (r : Result Question QuestionFault) → r ≡ Ok read → Gets r IsOfItsSet → IsOfItsSet read
    told r same holds = rw same at holds
