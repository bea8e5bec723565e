use Rattle.std.proofs.Common.{◌≡◌, ◌∙◌, ◌&&◌, if◌then◌else◌, ◌∷◌, ◌-◌, ap, sym, subst, arith, drop, length, get_or, suc, ◌<◌, List, [], rules}
use Rattle.std.proofs.Math.Seq.{drop-cons}
use Rattle.std.proofs.lemmas.List.{drop_all}
use Rattle.rs_optime.specs.Order.{is_before}
use Rattle.rs_optime.specs.declared.optime.OpTime.{OpTime}
use Rattle.oplog_entry.specs.Visible.{ZERO, last_of}
use Rattle.repl_msg.specs.Rollback.{is_common}
use Rattle.rollback_core.proofs.Greatest.{IsGreatest, of_none, one_more, is_common_point}
use Rattle.rollback_core.proofs.point.common_point.Goals as goal

pub loop-place-init : goal.loop-place-init
loop-place-init c =
    let none : drop (length c.args.optimes.now) c.args.optimes.now ≡ [] = drop_all _ c.args.optimes.now (omega arith) in
    let start : c.last_optime-point.result ≡ _ = c.last_optime-point.ensures ∙ ap last_of c.up_to.ensures.entries in (
      search rules,
      subst (λ (optimes : List OpTime). IsGreatest (is_common c.args.after optimes) c.args.log.now.entries c.last_optime-point.result) (sym none)
          (subst (λ point. IsGreatest (is_common c.args.after []) c.args.log.now.entries point) (sym start) (of_none c.args.log.now.entries c.args.after c.up_to.ensures.oplog)),
    )

pub loop-place-preserved : goal.loop-place-preserved
loop-place-preserved c =
    let next : suc (c.loop-place.place - 1) ≡ c.loop-place.place = omega arith in
    let within : c.loop-place.place - 1 < length c.args.optimes.now = omega arith in
    let front : drop (c.loop-place.place - 1) c.args.optimes.now ≡ get_or c.args.optimes.now (c.loop-place.place - 1) ZERO ∷ drop c.loop-place.place c.args.optimes.now =
    drop-cons c.args.optimes.now (c.loop-place.place - 1) ZERO within ∙ ap (λ n. get_or c.args.optimes.now (c.loop-place.place - 1) ZERO ∷ drop n c.args.optimes.now) next in (
      c.look_up-next.ensures.within,
      subst (λ (optimes : List OpTime). IsGreatest (is_common c.args.after optimes) c.args.log.now.entries c.later_of-point.result) (sym front)
          (subst (λ point. IsGreatest (is_common c.args.after (get_or c.args.optimes.now (c.loop-place.place - 1) ZERO ∷ drop c.loop-place.place c.args.optimes.now)) c.args.log.now.entries point)
          (sym (c.later_of-point.ensures ∙ ap (λ there. if is_before c.loop-place.point (get_or c.args.optimes.now (c.loop-place.place - 1) ZERO) && there then get_or c.args.optimes.now (c.loop-place.place - 1) ZERO else c.loop-place.point) c.look_up-next.ensures.has))
          (one_more c.args.log.now.entries c.args.after (drop c.loop-place.place c.args.optimes.now) c.loop-place.point (get_or c.args.optimes.now (c.loop-place.place - 1) ZERO) c.loop-place.invariant.1)),
    )

pub returns : goal.returns
returns c =
    is_common_point c.args.log.now.entries c.args.after c.args.optimes.now c.loop-place.point c.up_to.ensures.oplog
    (let none : c.loop-place.place ≡ 0 = omega arith in
    subst (λ place. IsGreatest (is_common c.args.after (drop place c.args.optimes.now)) c.args.log.now.entries c.loop-place.point) none c.loop-place.invariant.1)
