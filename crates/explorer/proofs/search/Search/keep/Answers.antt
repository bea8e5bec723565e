use Rattle.std.proofs.Common.{◌≡◌, ◌∙◌, ◌<◌, ◌++◌, ◌∷◌, [], ℕ, List, Some, ap, arith, length, refl, slice_get, subst, sym}
use Rattle.std.proofs.lemmas.Option.{same_Some, slice_get_within}
use Rattle.explore_words.specs.declared.question.Act.{Act}
use Rattle.question_laws.specs.Following.{Standing}
use Rattle.explorer.specs.declared.search.Search.{Search}
use Rattle.explorer.specs.States.{IsMore, IsOut}
use Rattle.explorer.proofs.KeepLemmas.{HasMoreLists, added_more, grown_added, known, read_at, row_width}
use Rattle.explorer.proofs.StateLemmas.{IsAdded}
use Rattle.explorer.proofs.search.Search.keep.Goals.{After-has, In_ok-add}
use Rattle.explorer.proofs.search.Search.keep.Goals as goal

-- the act that was done, once more
more_acts : (c : After-has) (done more : ℕ) (by : Standing) (standings : List Standing) (out : IsOut c.args.question.now done more c.args.self.now c.args.used c.args.origin by standings)
    → IsMore c.used_more.new.lists out.may.act c.args.origin.doing.act c.in_ok-used.used out.acts
more_acts c done more by standings out =
    subst (λ (a : Act). IsMore c.used_more.new.lists a c.args.origin.doing.act c.in_ok-used.used out.acts) act_is (c.in_ok-used.ensures.more out.acts out.acts_are)
  where
    acts : List Act
    acts = c.args.question.now.acts

    there : slice_get acts c.args.origin.doing.act ≡ Some c.index-as_slice-origin.result
    there = read_at acts c.as_slice.result.now c.args.origin.doing.act c.index-as_slice-origin.result c.as_slice.ensures
        (slice_get_within acts c.args.origin.doing.act out.may.act out.may.there) c.index-as_slice-origin.is

    act_is : c.index-as_slice-origin.result ≡ out.may.act
    act_is = same_Some c.index-as_slice-origin.result out.may.act (sym there ∙ out.may.there)

-- the search with a state more
abbrev last : In_ok-add → Search
last c = record c.args.self.now { used = c.used_more.new.lists; row = c.set_row.new.row; origins = c.push.new.self; states = c.add.new.self }

added : (c : In_ok-add) → IsAdded c.args.question.now c.args.self.now (last c) c.set_row.new.row.items c.args.origin
added c = record {
  steps = refl;
  used = c.in_ok-used.ensures.grown;
  states = c.in_ok-add.ensures ∙ ap (λ (row : List ℕ). record { width = c.args.self.now.states.width; rows = c.args.self.now.states.rows ++ row ∷ [] }) c.deref-2.ensures.value;
  origins = c.in_ok-push.ensures.items;
  most = refl;
  notes = refl;
  course = refl;
}

pub set_row-requires : goal.set_row-requires
set_row-requires c =
    let out = c.requires.out.4 in
    omega (arith, out.is.within, c.requires.asked.1.put.few)

pub returns-then-has-clause-on : goal.returns-then-has-clause-on
returns-then-has-clause-on c done more by standings out =
    let old = c.args.self.now in
    let mid : Search = record old { used = c.used_more.new.lists; row = c.set_row.new.row } in
    let same : HasMoreLists old mid = record { steps = refl; used = c.in_ok-used.ensures.grown; states = refl; origins = refl; most = refl; notes = refl; course = refl } in
    let there = c.has.ensures c.if-has.true in
    known c.args.question.now c.requires.asked.1.put done more old c.args.used c.args.origin by standings out c.used_more.new.lists c.in_ok-used.ensures.grown c.in_ok-used.used
    (more_acts (goal.at.returns-then-has-clause-on c).After-has done more by standings out) c.set_row.new.row.items c.in_ok-set_row.ensures mid same there.0 (there.1 ∙ ap Some c.deref.ensures.value)

pub add-requires-clause-width : goal.add-requires-clause-width
add-requires-clause-width c =
    let out = c.requires.out in
    row_width c.args.question.now c.requires.asked.1.put out.0 out.1 c.args.self.now c.args.used c.args.origin out.2 out.3 out.4 _ _ c.deref-2.result.now (c.deref-2.ensures.value ∙ c.in_ok-set_row.ensures)

pub returns-clause-grown : goal.returns-clause-grown
returns-clause-grown c =
    let at = (goal.at.returns-clause-grown c).In_ok-add in grown_added c.args.question.now c.args.self.now (last at) c.set_row.new.row.items c.args.origin (added at)

pub returns-clause-on : goal.returns-clause-on
returns-clause-on c done more by standings out =
    let old = c.args.self.now in
    let at = goal.at.returns-clause-on c in
    let count : length old.states.rows ≡ length standings = out.states.count in
    let room_left : length standings < old.most = omega (arith, count, c.len.ensures, c.if-len-self.false) in
    added_more c.args.question.now c.requires.asked.1.put done more old c.args.used c.args.origin by standings out c.used_more.new.lists c.in_ok-used.ensures.grown c.in_ok-used.used
    (more_acts at.After-has done more by standings out) c.set_row.new.row.items c.in_ok-set_row.ensures (last at.In_ok-add) (added at.In_ok-add) refl room_left
