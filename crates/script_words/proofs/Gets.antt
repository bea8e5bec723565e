-- Facts of what is read.
use Rattle.std.proofs.Common.{◌≡◌, ◌&&◌, Bool, true, false, cond, Option, None, Some, Result, Ok, Err, refl}
use Rattle.std.specs.Prelude.{option_and_then, option_map}
use Rattle.bson_doc.specs.Bind.{◌>>=◌}
use Rattle.bson_doc.proofs.BindLemmas.{Gets, cond_gets}
use Rattle.script_words.specs.declared.rule.ScriptRule.{ScriptRule}
use Rattle.script_words.specs.Words.{Left, ended}

pub bind_any : {A B : Type 0} (r : Result A ScriptRule) (f : A → Result B ScriptRule) (Q : B → Type 0) → ((x : A) → Gets (f x) Q) → Gets (r >>= f) Q
bind_any (Ok x) f Q later = later x
bind_any (Err rule) f Q later = tt

pub tested : {A : Type 0} (b : Bool) (x : Result A ScriptRule) (rule : ScriptRule) (Q : A → Type 0) → (b ≡ true → Gets x Q) → Gets (cond b x (Err rule)) Q
tested b x rule Q passed = cond_gets b x (Err rule) Q passed (λ other. tt)

pub ended_gets : {A : Type 0} (left : Left) (value : A) (Q : A → Type 0) → Q value → Gets (ended left value) Q
ended_gets None value Q holds = holds
ended_gets (Some text) value Q holds = tt

pub got : {A : Type 0} (r : Result A ScriptRule) (x : A) (P : A → Type 0) → Gets r P → r ≡ Ok x → P x
got r x P holds is = rw is at holds

-- the same where something may be missing
abbrev pub Has : {A : Type 0} → Option A → (A → Type 0) → Type 0
Has None P = Unit {0}
Has (Some x) P = P x

pub and_then_has : {A B : Type 0} (o : Option A) (f : A → Option B) (P : A → Type 0) (Q : B → Type 0) → Has o P → ((x : A) → P x → Has (f x) Q) → Has (option_and_then f o) Q
and_then_has None f P Q one later = tt
and_then_has (Some x) f P Q one later = later x one

pub map_has : {A B : Type 0} (o : Option A) (f : A → B) (Q : B → Type 0) → ((x : A) → Q (f x)) → Has (option_map f o) Q
map_has None f Q later = tt
map_has (Some x) f Q later = later x

pub if_has : {A : Type 0} (b : Bool) (x : A) (Q : A → Type 0) → (b ≡ true → Q x) → Has (cond b (Some x) None) Q
if_has true x Q holds = holds refl
if_has false x Q holds = tt

pub both : (a b : Bool) → a ≡ true → b ≡ true → (a && b) ≡ true
both a b one two = rw (one, two) refl
