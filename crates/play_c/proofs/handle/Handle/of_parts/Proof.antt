-- `of_parts` moves the pointer, and what the parts own goes with it.
use Rattle.std.proofs.Common.{List, [], ◌∷◌, ◌++◌, refl, sym, subst}
use mir.Val.{Val}
use base.Logic.{SProp, ent, emp, id⊢}
use base.Fml.{ftrue, fsep}
use prog.Wp.{WpFn}
use types.Kit.{‵, raw, ◌⊛◌, ◌$◌, ◌∵◌, !, qed, move, drop, use1, join, split, fsplit, fjoin, suffices, done}
use types.Part.{whole, sub, agg}
use types.Run.{stop, fld, no_more, and_then, of_opd, returns, enter}
use types.ByLocal.{alloc_all, pass_all, free_all, look_at, get, get_in, sets}
use contract.Running.{tables}
use denote.Exit.{yes}
use denote.RawPtr.{block_ptr}
use denote.Steps.{nothing}
use denote.Triple.Walked.{says, Stays, stay_dropped, walk_of, ends_at, Goes-dropped}
use Rattle.std.specs.declared.option.Option.TheVariants.{Some}
use Rattle.std.proofs.raw_atomic.Walks.{proved_at}
use Rattle.std_alloc.proofs.BoxSteps.Form.{D, B, word as both, box_typed}
use Rattle.std_alloc.proofs.BoxSteps.Steps.{box_out}
use Rattle.play_c.specs.Owned.{held_owns}
use Rattle.play_c.proofs.Form.{E, FromParts as From, handle_in, word}
use Rattle.play_c.specs.contracts.handle.Handle.of_parts.{ended, clauses}
use Rattle.play_c.specs.contracts.handle.Handle.of_parts.Key.{name as #self}
use Rattle.play_c.proofs.handle.Handle.of_parts.Statement.{statement}
use Rattle.play_c.proofs.handle.Handle.of_parts.Code as code

abbrev stayed : Stays ended.signature.params ended.kept
stayed = (stay_dropped From yes, tt)

pub of_parts_spec : {M : Type 1} → statement M
of_parts_spec 𝓤 𝓛 𝓜 𝓡 wired =
    let 𝓣 = tables 𝓤 𝓛.H 𝓜 𝓡 𝓡.env in let c = clauses 𝓛 𝓜.mem 𝓡.returns in let fn = code.function in
    proved_at 𝓛 ended stayed c 𝓜 𝓡 (Goes-dropped 𝓛 0 From yes (λ κs x f. refl), tt) #self fn (code.unfolded 𝓤 𝓛.H 𝓜 𝓡 wired) (λ z are.
    let v : D E = record { ptr = z.0.3.0.ptr; alloc = z.0.3.0.alloc; value = z.0.3.0.value } in
    let Post : Val → SProp 𝓤 = (walk_of 𝓛 ended stayed c).post z in let Run : List Val → SProp 𝓤 = λ ws. WpFn 𝓤 𝓛.H 𝓣.C 𝓣.Λ fn ws Post in
    qed 𝓛 ((‵ ftrue ⊛ ‵ (fsep ((B E).own_val v z.0.4.0) ftrue)) ∷ raw (emp 𝓤) ∷ []) ∵ split ! $ drop ! $ fsplit ! $
    box_out E ! v z.0.4.0 (λ b o hv e ws fa.
    fjoin ! $ use1 𝓛 (‵ (held_owns (block_ptr b o) (Some v.value))) (id⊢ 𝓤 _) $ move ! (1 ∷ 2 ∷ 3 ∷ []) $ drop ! $ drop ! $ drop ! $
    let w = both E hv b o in
    suffices ! (Run (w ∷ [])) (subst (λ (us : List Val). ent 𝓤 (Run (w ∷ [])) (Run us)) (sym (λ i. ws i ++ [])) (id⊢ 𝓤 (Run (w ∷ [])))) $
    enter ! 𝓣.C 𝓣.Λ fn (w ∷ []) Post $ alloc_all ! (λ l. pass_all ! refl (box_typed E hv b o fa, tt) $
    sets ! (of_opd ! (get_in ! (fld ! refl (stop !)) (sub ! 0 refl (whole !)))) refl (tt, tt) $
    sets ! (of_opd ! (get ! refl)) refl (tt, tt) $
    sets ! (agg ! (and_then ! (get ! refl) (no_more !))) refl (tt, (tt, tt)) $
    returns ! (look_at ! 0 refl) $ free_all ! refl $
    handle_in ! (block_ptr b o) (Some v.value) $
    suffices ! _ (ends_at 𝓛 ended stayed c z (word (block_ptr b o)) (record { at = block_ptr b o; held = Some v.value }) (tt, tt) (tt, tt)) $ says ! refl $
    nothing ! $ nothing ! $ fjoin ! $ join ! $ nothing ! $ join ! $ done !)))
