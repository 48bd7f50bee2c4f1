-- SPDX-License-Identifier: Apache-2.0
-- A fragment that code holds has no `__cedar` in the names of its namespaces and entity types, so no cause of it is one of wrong kinds.
use Rattle.std.proofs.Common.{◌≡◌, ℕ, false, List, Option, Some, None, refl}
use Rattle.cedar_names.specs.Identifiers.{unreserved_word}
use Rattle.cedar_names.specs.declared.id.UnreservedId.{UnreservedId}
use Rattle.cedar_names.specs.declared.name.Name.{Name}
use Rattle.cedar_names.specs.of_text.Words.{is_cedar}
use Rattle.cedar_written.specs.declared.raw_name.RawName.{RawName}
use Rattle.cedar_fragment.specs.ActionUids.{over_raw}
use Rattle.cedar_fragment.specs.declared.definitions.Fragment as held
use Rattle.cedar_fragment.specs.declared.definitions.NamespaceDefinition.{NamespaceDefinition}
use Rattle.cedar_fragment_world.specs.of_convert_fragment.Views.{definition_seen, entity_seen, fragment_seen, namespace_words}
use Rattle.cedar_fragment_world.specs.FragmentFaults.{is_reserved}
use Rattle.cedar_schema.specs.Fragments.{FragmentCause}
use Rattle.cedar_schema_error.specs.declared.action_behavior.ActionBehavior.{ActionBehavior}
use Rattle.cedar_sound.proofs.NothingMissed.{pass_map}
use Rattle.cedar_schema_error.specs.Refusals.{Refusal}
use Rattle.cedar_refusal_laws.specs.NeverComing.{never_comes}
use Rattle.cedar_refusal_laws.proofs.FragmentKinds.{IsFreeNamespace, fragment_other}
use Rattle.cedar_refusal_laws.proofs.MadeKinds.{isnt, name_free}
use Rattle.cedar_refusal_laws.proofs.Members.{pass_each_item}

word_free : (id : UnreservedId) → is_cedar (unreserved_word id) ≡ false
word_free id = isnt (is_cedar (unreserved_word id)) id.unreserved

namespace_free : (name : Option Name) → is_reserved (namespace_words name) ≡ false
namespace_free None = refl
namespace_free (Some name) = name_free name

seen_free : (n : Option Name × NamespaceDefinition RawName over_raw) → IsFreeNamespace (namespace_words n.0, definition_seen n.1)
seen_free n = record {
  name = namespace_free n.0;
  entity_types = pass_map (λ e. is_cedar e.0 ≡ false) (λ e. (unreserved_word e.0, entity_seen e.1)) n.1.entity_types (pass_each_item (λ e. is_cedar (unreserved_word e.0) ≡ false) (λ e. word_free e.0) n.1.entity_types);
}

pub held_ruled_out : (behavior : ActionBehavior) (extensions : List (List ℕ)) (f : held.Fragment RawName over_raw) (e : Refusal) → FragmentCause behavior extensions (fragment_seen f) e → never_comes e ≡ false
held_ruled_out behavior extensions f e = fragment_other behavior extensions (fragment_seen f) e
    (pass_map IsFreeNamespace (λ n. (namespace_words n.0, definition_seen n.1)) f.0 (pass_each_item (λ n. IsFreeNamespace (namespace_words n.0, definition_seen n.1)) seen_free f.0))
