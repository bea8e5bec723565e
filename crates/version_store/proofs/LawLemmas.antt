-- What reads show after a prune, and after going back.
use Rattle.std.proofs.Common.{◌≡◌, ◌∙◌, ap, sym, refl, arith, Bool, true, false, not, cond, List, [], ◌∷◌, ◌++◌, suc, zero, Option, None, Some}
use Rattle.std.specs.Prelude.{filter, is_some}
use Rattle.std.proofs.lemmas.Bool.{not-true}
use Rattle.bson_doc.specs.Tree.{Fields}
use Rattle.rs_optime.specs.declared.optime.OpTime.{OpTime}
use Rattle.rs_optime.specs.Later.{earlier_of}
use Rattle.rs_optime.proofs.Optimes.{at_most_before_trans, before_trans}
use Rattle.version_store.specs.declared.history.Version.{Version}
use Rattle.version_store.specs.Past.{Past, is_before, IsRising, last_version, latest_of, up_to, later_than, shown, back_to, standing, pruned}

-- ---- one version more, at or before an optime, or after it

up_to_kept : (at : OpTime) (v : Version) (vs : List Version) → is_before at v.at ≡ false → up_to at (v ∷ vs) ≡ v ∷ up_to at vs
up_to_kept at v vs is = ap (λ b. cond (not b) (v ∷ up_to at vs) (up_to at vs)) is

up_to_dropped : (at : OpTime) (v : Version) (vs : List Version) → is_before at v.at ≡ true → up_to at (v ∷ vs) ≡ up_to at vs
up_to_dropped at v vs is = ap (λ b. cond (not b) (v ∷ up_to at vs) (up_to at vs)) is

after_kept : (at : OpTime) (v : Version) (vs : List Version) → is_before at v.at ≡ true → later_than at (v ∷ vs) ≡ v ∷ later_than at vs
after_kept at v vs is = ap (λ b. cond b (v ∷ later_than at vs) (later_than at vs)) is

after_dropped : (at : OpTime) (v : Version) (vs : List Version) → is_before at v.at ≡ false → later_than at (v ∷ vs) ≡ later_than at vs
after_dropped at v vs is = ap (λ b. cond b (v ∷ later_than at vs) (later_than at vs)) is

-- ---- a prune

-- what is at or before an optime is so at a later one
late_reads : (at read other : OpTime) → is_before read at ≡ false → is_before at other ≡ false → is_before read other ≡ false
late_reads at read other late early = go (is_before read other) refl
  where
    go : (b : Bool) → is_before read other ≡ b → is_before read other ≡ false
    go true is = let both : is_before at other ≡ true = at_most_before_trans at read other late is in absurd (cc)
    go false is = is

-- where the first is after an optime, all are
all_after : (at : OpTime) (v : Version) (vs : List Version) → IsRising (v ∷ vs) → is_before at v.at ≡ true → (up_to at (v ∷ vs) ≡ []) × (later_than at (v ∷ vs) ≡ v ∷ vs)
all_after at v [] rising is = (up_to_dropped at v [] is, after_kept at v [] is)
all_after at v (w ∷ vs) rising is =
    let more = all_after at w vs (λ i j d less within. rising (suc i) (suc j) d (omega arith) (omega arith))
    (before_trans at v.at w.at is (rising zero (suc zero) v (omega arith) (omega arith))) in
    (up_to_dropped at v (w ∷ vs) is ∙ more.0, after_kept at v (w ∷ vs) is ∙ ap (λ rest. v ∷ rest) more.1)

-- where none is at or before an optime, all are after it
none_before : (at : OpTime) (vs : List Version) → up_to at vs ≡ [] → later_than at vs ≡ vs
none_before at [] none = refl
none_before at (v ∷ vs) none = go (none_before at vs) (is_before at v.at) refl
  where
    go : (up_to at vs ≡ [] → later_than at vs ≡ vs) → (b : Bool) → is_before at v.at ≡ b → later_than at (v ∷ vs) ≡ v ∷ vs
    go more true is = after_kept at v vs is ∙ ap (λ rest. v ∷ rest) (more (sym (up_to_dropped at v vs is) ∙ none))
    go more false is = let some : v ∷ up_to at vs ≡ [] = sym (up_to_kept at v vs is) ∙ none in cc some

-- where one is at or before an optime, one is at or before a later one
some_before : (at read : OpTime) → is_before read at ≡ false → (vs : List Version) (u : Version) (us : List Version) → up_to at vs ≡ u ∷ us
    → (w : Version) × (ws : List Version) × (up_to read vs ≡ w ∷ ws)
some_before at read late [] u us is = cc is
some_before at read late (v ∷ vs) u us is = go (some_before at read late vs u us) (is_before at v.at) refl (is_before read v.at) refl
  where
    go : (up_to at vs ≡ u ∷ us → (w : Version) × (ws : List Version) × (up_to read vs ≡ w ∷ ws)) → (b : Bool) → is_before at v.at ≡ b → (c : Bool) → is_before read v.at ≡ c
        → (w : Version) × (ws : List Version) × (up_to read (v ∷ vs) ≡ w ∷ ws)
    go more b early false kept = (v, up_to read vs, up_to_kept read v vs kept)
    go more true early true dropped = let rest = more (sym (up_to_dropped at v vs early) ∙ is) in (rest.0, rest.1, up_to_dropped read v vs dropped ∙ rest.2)
    go more false early true dropped = let kept : is_before read v.at ≡ false = late_reads at read v.at late early in absurd (cc)

-- a version before others isn't read
first_unread : (v : Version) (vs : List Version) (w : Version) (ws : List Version) → vs ≡ w ∷ ws → latest_of (v ∷ vs) ≡ latest_of vs
first_unread v vs w ws is = ap (λ l. latest_of (v ∷ l)) is ∙ sym (ap latest_of is)

-- nor is a deletion
deletion_unread : (v : Version) (vs : List Version) → v.doc ≡ None → latest_of (v ∷ vs) ≡ latest_of vs
deletion_unread v [] gone = gone
deletion_unread v (w ∷ ws) gone = refl

shows : (at read : OpTime) → is_before read at ≡ false → (vs : List Version) → IsRising vs → shown read (standing (last_version (up_to at vs)) ++ later_than at vs) ≡ shown read vs
shows at read late [] rising = refl
shows at read late (v ∷ vs) rising = first (is_before at v.at) refl (shows at read late vs (λ i j d less within. rising (suc i) (suc j) d (omega arith) (omega arith)))
  where
    alone : is_before at v.at ≡ false → up_to at vs ≡ [] → (doc : Option Fields) → v.doc ≡ doc → shown read (standing (Some v) ++ vs) ≡ shown read (v ∷ vs)
    alone early none (Some d) is = ap (λ (o : Option Fields). shown read (cond (is_some o) (v ∷ []) [] ++ vs)) is
    alone early none None is =
        ap (λ (o : Option Fields). shown read (cond (is_some o) (v ∷ []) [] ++ vs)) is
        ∙ sym (ap latest_of (up_to_kept read v vs (late_reads at read v.at late early)) ∙ deletion_unread v (up_to read vs) is)

    front : is_before at v.at ≡ false → shown read (standing (last_version (up_to at vs)) ++ later_than at vs) ≡ shown read vs → (us : List Version) → up_to at vs ≡ us
        → shown read (standing (last_version (up_to at (v ∷ vs))) ++ later_than at (v ∷ vs)) ≡ shown read (v ∷ vs)
    front early more [] none =
        ap (λ l. shown read (standing (last_version l) ++ later_than at (v ∷ vs))) (up_to_kept at v vs early ∙ ap (λ rest. v ∷ rest) none)
        ∙ ap (λ l. shown read (standing (Some v) ++ l)) (after_dropped at v vs early ∙ none_before at vs none)
        ∙ alone early none v.doc refl
    front early more (u ∷ us) some =
        let here = some_before at read late vs u us some in
        ap (λ l. shown read (standing (last_version l) ++ later_than at (v ∷ vs))) (up_to_kept at v vs early ∙ ap (λ rest. v ∷ rest) some)
        ∙ ap (λ l. shown read (standing (last_version l) ++ later_than at (v ∷ vs))) (sym some)
        ∙ ap (λ l. shown read (standing (last_version (up_to at vs)) ++ l)) (after_dropped at v vs early)
        ∙ more
        ∙ sym (ap latest_of (up_to_kept read v vs (late_reads at read v.at late early)) ∙ first_unread v (up_to read vs) here.0 here.1 here.2)

    first : (b : Bool) → is_before at v.at ≡ b → shown read (standing (last_version (up_to at vs)) ++ later_than at vs) ≡ shown read vs
        → shown read (standing (last_version (up_to at (v ∷ vs))) ++ later_than at (v ∷ vs)) ≡ shown read (v ∷ vs)
    first true is more =
        let all = all_after at v vs rising is in
        ap (λ l. shown read (standing (last_version l) ++ later_than at (v ∷ vs))) all.0 ∙ ap (shown read) all.1
    first false is more = front is more (up_to at vs) refl

pub pruned_shows : (past : Past) (at read : OpTime) → IsRising past.versions → is_before read at ≡ false → shown read (pruned at past).versions ≡ shown read past.versions
pruned_shows past at read rising late = shows at read late past.versions rising

-- ---- going back

-- a test that follows from another
weaker : (p q : Version → Bool) → ((v : Version) → p v ≡ true → q v ≡ true) → (vs : List Version) → filter p (filter q vs) ≡ filter p vs
weaker p q follows [] = refl
weaker p q follows (v ∷ vs) = go (weaker p q follows vs) (q v) refl (p v) refl
  where
    go : filter p (filter q vs) ≡ filter p vs → (b : Bool) → q v ≡ b → (c : Bool) → p v ≡ c → filter p (filter q (v ∷ vs)) ≡ filter p (v ∷ vs)
    go more true is c own = ap (λ b. filter p (cond b (v ∷ filter q vs) (filter q vs))) is ∙ ap (λ rest. cond (p v) (v ∷ rest) rest) more
    go more false is true own = let other : q v ≡ true = follows v own in absurd (cc)
    go more false is false own =
        ap (λ b. filter p (cond b (v ∷ filter q vs) (filter q vs))) is ∙ more ∙ sym (ap (λ c. cond c (v ∷ filter p vs) (filter p vs)) own)

stronger : (p q : Version → Bool) → ((v : Version) → q v ≡ true → p v ≡ true) → (vs : List Version) → filter p (filter q vs) ≡ filter q vs
stronger p q follows [] = refl
stronger p q follows (v ∷ vs) = go (stronger p q follows vs) (q v) refl
  where
    go : filter p (filter q vs) ≡ filter q vs → (b : Bool) → q v ≡ b → filter p (filter q (v ∷ vs)) ≡ filter q (v ∷ vs)
    go more true is =
        ap (λ b. filter p (cond b (v ∷ filter q vs) (filter q vs))) is ∙ ap (λ c. cond c (v ∷ filter p (filter q vs)) (filter p (filter q vs))) (follows v is)
        ∙ ap (λ rest. v ∷ rest) more ∙ sym (ap (λ b. cond b (v ∷ filter q vs) (filter q vs)) is)
    go more false is =
        ap (λ b. filter p (cond b (v ∷ filter q vs) (filter q vs))) is ∙ more ∙ sym (ap (λ b. cond b (v ∷ filter q vs) (filter q vs)) is)

-- what is at or before an optime is so at one that isn't before it
pub back_to_shows : (past : Past) (at read : OpTime) → shown read (back_to at past).versions ≡ shown (earlier_of read at) past.versions
back_to_shows past at read = go (is_before read at) refl
  where
    go : (b : Bool) → is_before read at ≡ b → shown read (back_to at past).versions ≡ shown (earlier_of read at) past.versions
    go true is =
        ap latest_of (weaker (λ (v : Version). not (is_before read v.at)) (λ (v : Version). not (is_before at v.at))
        (λ v own. ap not (within v (not-true _ own) (is_before at v.at) refl)) past.versions)
        ∙ sym (ap (λ b. shown (cond b read at) past.versions) is)
      where
        within : (v : Version) → is_before read v.at ≡ false → (b : Bool) → is_before at v.at ≡ b → is_before at v.at ≡ false
        within v own true late = let both : is_before read v.at ≡ true = before_trans read at v.at is late in absurd (cc)
        within v own false early = early
    go false is =
        ap latest_of (stronger (λ (v : Version). not (is_before read v.at)) (λ (v : Version). not (is_before at v.at))
        (λ v own. ap not (late_reads at read v.at is (not-true _ own))) past.versions)
        ∙ sym (ap (λ b. shown (cond b read at) past.versions) is)
