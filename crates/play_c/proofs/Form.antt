-- What a handle owns is what a box of the same value owns, or nothing.
use Rattle.std.proofs.Common.{◌≡◌, ℕ, List, [], ◌∷◌, ◌++◌, refl, subst}
use mir.Syntax.{impl, tnil, dnil}
use mir.Raw.{raw as bare}
use mir.Val.{Val, vstruct, vcons, vnil, of_list}
use seplogic.Ra.Ura.{Ura}
use base.Logic.{SProp, ent, via, snd∗, guard, guard_i, never_e}
use base.Fml.{ftrue}
use types.Logic.{Logic, sem}
use types.Kit.{Item, Goal, Seq, Step, step, ‵, given, ◌$◌, learn, drop, use1, fsplit, fjoin, fpick, fpack, feq_i, feq_l}
use contract.Monad.{fact_use}
use denote.RattleType.{RattleType, Valss}
use denote.Builtin.{RawPtr}
use denote.Memory.{lone}
use denote.RawPtr.{Ptr, block_ptr, null_ptr, ptr_val, Testable}
use denote.Signature.{Slot, plain}
use denote.Steps.{nothing}
use denote.Struct.Struct.{within}
use denote.Struct.Owning.{shape}
use Rattle.core.specs.Ptr.{points_to}
use Rattle.std.specs.contracts.alloc.Global as heap
use Rattle.std.proofs.alloc.Global.TheLaws as heap_laws
use Rattle.std.specs.contracts.impls.GlobalAllocator.TheImpl.{ghosts, dict}
use Rattle.std.proofs.GlobalToken.{dealloc_token-Testable}
use Rattle.std.specs.declared.option.Option.{Option}
use Rattle.std.specs.declared.option.Option.TheVariants.{None, Some}
use Rattle.std_alloc.proofs.BoxSteps.Form.{Bx}
use Rattle.play_c.specs.contracts.held.Held as held
use Rattle.play_c.proofs.held.Held.TheLaws as held_laws
use Rattle.play_c.specs.Owned.{boxed, c_heap, held_owns}
use Rattle.play_c.specs.contracts.parts.Parts as parts
use Rattle.play_c.specs.contracts.handle.Handle as handle

abbrev pub E : Bx
E = record { row = held.the_row; laws = held_laws.the_row_laws; al = record { row = heap.the_row; laws = heap_laws.the_row_laws; g = ghosts; d = dict; drops = impl [] tnil dnil } }

abbrev pub FromParts : Slot 0
FromParts = plain (λ _. parts.the_row held.the_row heap.the_row ghosts)

abbrev pub FromHandle : Slot 0
FromHandle = plain (λ _. handle.the_row)

abbrev pub Alloc : Slot 0
Alloc = plain (λ _. heap.the_row)

-- the right to free a block tells that it may be compared with null
pub tested : {M : Type 1} {𝓤 : Ura M} (𝓛 : Logic 𝓤) (p : Ptr) (x : held.the_row.Denot)
    → ent 𝓤 (sem 𝓛 (boxed p x)) (guard 𝓤 (Testable p) (sem 𝓛 (boxed p x)))
tested {𝓤 = 𝓤} 𝓛 p x =
    let owned : SProp 𝓤 = sem 𝓛 (boxed p x) in
    fact_use 𝓤 (Testable p) (via 𝓤 _ (snd∗ 𝓤 (sem 𝓛 (points_to held.the_row p x)) (sem 𝓛 (ghosts.dealloc_token c_heap (bare (lone held.the_row.mir)) p))) (dealloc_token-Testable 𝓛 c_heap (bare (lone held.the_row.mir)) p)) (guard_i 𝓤 (Testable p) owned)

abbrev pub H : RattleType
H = handle.the_row

abbrev pub word : Ptr → Val
word p = vstruct (vcons (ptr_val p) vnil)

module _ {M : Type 1} {𝓤 : Ura M} {𝓛 : Logic 𝓤} {K : Type 0} {Γ : List (Item 𝓤)} {G : Goal 𝓤 𝓛.H} where
  -- a handle by value, apart and together
  pub handle_out : K → (h : H.Denot) (vs : List Val) → (vs ≡ word h.at ∷ [] → Seq K 𝓛 (‵ (held_owns h.at h.held) ∷ Γ) G) → Seq K 𝓛 (‵ (H.own_val h vs) ∷ Γ) G
  handle_out t h vs k =
      fsplit t $ fpick t (λ vss. fsplit t $ feq_l t (λ ev. fsplit t $ feq_l t (λ ep. drop t $
      k (subst (λ (ps : List Val). vs ≡ vstruct (of_list (ps ++ [])) ∷ []) ep ev))))

  pub handle_in : K → (p : Ptr) (m : Option held.the_row.Denot) → Step K 𝓛 (‵ (H.own_val (record { at = p; held = m }) (word p ∷ [])) ∷ Γ) G (‵ (held_owns p m) ∷ Γ) G
  handle_in t p m = step (λ s.
      nothing t $ feq_i t (List Val) (ptr_val p ∷ []) (ptr_val p ∷ []) refl $ fjoin t $ feq_i t (List Val) (word p ∷ []) (word p ∷ []) refl $ fjoin t $
      fpack t (Valss (RawPtr ∷ [])) (within (shape handle.the_type) (p, tt) (word p ∷ [])) (ptr_val p ∷ [], tt) $ fjoin t $ s)

  -- it leads nowhere, or to a block that may be compared with null
  pub either : K → (p : Ptr) (m : Option held.the_row.Denot) → (p ≡ null_ptr → m ≡ None → Seq K 𝓛 Γ G)
      → ((b o : ℕ) (x : held.the_row.Denot) → p ≡ block_ptr b o → m ≡ Some x → Testable (block_ptr b o) → Seq K 𝓛 (‵ (boxed (block_ptr b o) x) ∷ Γ) G)
      → Seq K 𝓛 (‵ (held_owns p m) ∷ Γ) G
  either t null_ptr None none one = drop t $ none refl refl
  either t null_ptr (Some x) none one = use1 𝓛 (given ⊥ (‵ ftrue)) (never_e 𝓤 _) $ learn t (λ wrong. absurd wrong)
  either t (block_ptr b o) None none one = use1 𝓛 (given ⊥ (‵ ftrue)) (never_e 𝓤 _) $ learn t (λ wrong. absurd wrong)
  either t (block_ptr b o) (Some x) none one =
      use1 𝓛 (given (Testable (block_ptr b o)) (‵ (boxed (block_ptr b o) x))) (tested 𝓛 (block_ptr b o) x) $ learn t (λ may. one b o x refl refl may)
