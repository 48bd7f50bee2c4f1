-- SPDX-License-Identifier: Apache-2.0
use Rattle.std.proofs.Common.{refl, sym, ap, ◌∙◌}
use Rattle.std.specs.BTreeMap.{insert_entry}
use Rattle.cedar_names.specs.Names.{entity_cmp, internal_cmp}
use Rattle.cedar_namespace_definitions.proofs.Defines.{put_one}
use Rattle.cedar_namespace_definitions.specs.Definitions.{entry_of, put_entries, with_keys}
use Rattle.cedar_namespace_definitions.specs.NamesIn.{entity_key}
use Rattle.cedar_namespace_definitions.proofs.entity_types.put_place.Goals as goal

pub returns-in_ok-put : goal.returns-in_ok-put
returns-in_ok-put c =
    ap (with_keys entity_key) c.in_ok-put.ensures.ok
    ∙ put_one entity_cmp internal_cmp entity_key (λ a b. refl) c.args.locs.now c.in_ok-name.name c.in-Some.loc
    ∙ ap (λ k. insert_entry internal_cmp (with_keys entity_key c.args.locs.now) (entity_key k) c.in-Some.loc) c.in_ok-name.ensures
    ∙ sym (ap (λ l. put_entries internal_cmp (with_keys entity_key c.args.locs.now) (entry_of (entity_key c.args.name.now) l)) c.in-Some.is)
