-- The words of a look are within their bounds.
use Rattle.std.proofs.Common.{◌≡◌, ℕ, true, None, Some, Ok, Err, refl}
use Rattle.std.specs.Prelude.{codes}
use Rattle.std.specs.Str.{bytes_eq}
use Rattle.bson_doc.specs.Bind.{◌>>=◌}
use Rattle.bson_doc.proofs.BindLemmas.{Gets, bind_gets, cond_gets}
use Rattle.set_model.specs.declared.command.AckConcern.{AckConcern}
use Rattle.set_model.specs.declared.command.Command.TheVariants as commands
use Rattle.set_model.specs.declared.command.Target.{Target}
use Rattle.set_model.specs.Limits.{is_collection, is_within_concern}
use Rattle.script_words.specs.Commands.{ack_at}
use Rattle.script_words.specs.Values.{last_value, text_at}
use Rattle.script_words.specs.Words.{Left, Read, collection_at, concern_at, ended, level_at, node_at, target_at, word_at}
use Rattle.script_words.specs.declared.verb.NodeVerb.TheVariants as asks
use Rattle.script_words.proofs.CommandsFit.{Fit, IsOurs, collection_within, concern_within, node_within, node_words}
use Rattle.script_words.proofs.Gets.{bind_any, both, ended_gets}
use Rattle.explore_words.specs.declared.looking.SightVerb.{SightVerb}
use Rattle.explore_words.specs.declared.looking.SightVerb.TheVariants as seen
use Rattle.explore_words.specs.declared.question.Sight.{Sight}
use Rattle.explore_words.specs.declared.question.Sight.TheVariants as sights
use Rattle.explore_words.specs.Commands.{ack_last_sight, ack_sight, any_node_at, before_last_word, dump_sight, is_of, read_sight, rest_after, sight_at}
use Rattle.explore_words.specs.Fits.{is_node_or_any, is_within_sight}
use Rattle.explore_words.specs.Texts.{cut_at_last}

pub any_within : (nodes : ℕ) (left : Left) → Gets (any_node_at nodes left) (λ x. is_node_or_any nodes x.0 ≡ true)
unfolding any_node_at
any_within nodes left =
    bind_any (word_at left) _ (λ x. is_node_or_any nodes x.0 ≡ true) (λ word.
    cond_gets (bytes_eq word.0 (codes "*")) _ _ (λ x. is_node_or_any nodes x.0 ≡ true) (λ star. refl)
    (λ other. bind_gets (node_at nodes left) _ (λ x. IsOurs nodes x.0) (λ x. is_node_or_any nodes x.0 ≡ true) (node_within nodes left) (λ node ours. ours)))

abbrev IsWithin : Sight → Type 0
IsWithin sight = is_within_sight sight ≡ true

read_within : (left : Left) → Gets (read_sight left) IsWithin
unfolding read_sight
read_within left =
    bind_any (level_at left) _ IsWithin (λ level.
    bind_gets (collection_at level.1) _ (λ x. is_collection x.0 ≡ true) IsWithin (collection_within level.1) (λ ns named.
    bind_any (text_at ns.1) _ IsWithin (λ text. bind_any (last_value text) _ IsWithin (λ id. named))))

dump_within : (left : Left) → Gets (dump_sight left) IsWithin
unfolding dump_sight
dump_within left = bind_any (level_at left) _ IsWithin (λ level. ended_gets level.1 _ IsWithin refl)

concern_ack : (target : Target) (read : Read AckConcern) → Gets (read >>= λ concern. ended concern.1 (commands.Ack 0 target concern.0)) (Fit 1)
    → Gets (read >>= λ concern. ended concern.1 (sights.Ack target concern.0)) IsWithin
concern_ack target (Ok (concern, None)) fits = fits
concern_ack target (Ok (concern, Some text)) fits = tt
concern_ack target (Err rule) fits = tt

target_ack : (read : Read Target) → Gets (read >>= λ target. concern_at target.1 >>= λ concern. ended concern.1 (commands.Ack 0 target.0 concern.0)) (Fit 1)
    → Gets (read >>= λ target. concern_at target.1 >>= λ concern. ended concern.1 (sights.Ack target.0 concern.0)) IsWithin
target_ack (Ok target) fits = concern_ack target.0 (concern_at target.1) fits
target_ack (Err rule) fits = tt

-- as in the command of a script
ack_within : (left : Left) → Gets (ack_at 0 left) (Fit 1) → Gets (ack_sight left) IsWithin
unfolding ack_at ack_sight
ack_within left fits = target_ack (target_at left) fits

last_within : (left : Left) → Gets (ack_last_sight left) IsWithin
unfolding ack_last_sight
last_within left =
    bind_gets (collection_at left) _ (λ x. is_collection x.0 ≡ true) IsWithin (collection_within left) (λ ns named.
    bind_any (text_at ns.1) _ IsWithin (λ text.
    bind_any (before_last_word (cut_at_last (codes " ") text)) _ IsWithin (λ parts.
    bind_any (last_value parts.0) _ IsWithin (λ id.
    bind_gets (concern_at (Some parts.1)) _ (λ x. is_within_concern x.0 ≡ true) IsWithin (concern_within (Some parts.1)) (λ concern few.
    both (is_collection ns.0) (is_within_concern concern.0) named few)))))

pub sight_within : (verb : SightVerb) (left : Left) → Gets (sight_at verb left) (λ sight. is_within_sight sight ≡ true)
sight_within seen.Read left = read_within left
sight_within seen.Dump left = dump_within left
sight_within seen.Log left = ended_gets left sights.Log IsWithin refl
sight_within seen.State left = ended_gets left sights.State IsWithin refl
sight_within seen.Rolled left = ended_gets left sights.Rolled IsWithin refl
sight_within seen.Ack left =
    cond_gets (is_of left) (ack_last_sight (rest_after left)) (ack_sight left) IsWithin (λ last. last_within (rest_after left))
    (λ other. ack_within left (node_words 1 asks.Ack 0 left refl))
