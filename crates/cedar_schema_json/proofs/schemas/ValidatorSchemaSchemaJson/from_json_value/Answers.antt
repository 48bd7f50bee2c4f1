-- SPDX-License-Identifier: Apache-2.0
use Rattle.serde_json.specs.View.{view}
use Rattle.cedar_convert_fragment.specs.Views.{fragment_seen}
use Rattle.cedar_fragment.specs.ActionUids.{over_raw}
use Rattle.cedar_fragment.specs.declared.definitions.Fragment.{Fragment}
use Rattle.cedar_schema.specs.of_fragment_world.FragmentWorlds.{world_of_fragment}
use Rattle.cedar_json_laws.proofs.CleanDeclarations.{fragment_clean}
use Rattle.cedar_json_laws.proofs.OnceDeclarations.{fragment_once}
use Rattle.cedar_json_laws.specs.of_json_namespaces.Namespaces.{IsFragment, fragment_fault}
use Rattle.cedar_names.specs.Extensions.{extension_words}
use Rattle.cedar_schema.specs.SchemaViews.{schema_in}
use Rattle.cedar_resolved.specs.declared.schema.ValidatorSchema.{ValidatorSchema}
use Rattle.cedar_schema_json.proofs.Reading.{accepts_read, accepts_unread, denotes_read, refused_read}
use Rattle.cedar_schema_json.proofs.Unplaced.{unplaced}
use Rattle.cedar_schema.specs.of_world.Denotes.{Denotes}
use Rattle.cedar_written.specs.declared.raw_name.RawName.{RawName}
use Rattle.cedar_schema_json.proofs.schemas.ValidatorSchemaSchemaJson.from_json_value.Goals as goal

pub returns-in-Ok-clause-accepts : goal.returns-in-Ok-clause-accepts
returns-in-Ok-clause-accepts c =
    let extensions = extension_words c.args.extensions.now in
    accepts_read (IsFragment (view c.args.json.now)) (fragment_fault (view c.args.json.now)) extensions (fragment_once (view c.args.json.now)) (fragment_clean (view c.args.json.now)) schema_in c.from_fragment_with.result
    (denotes_read (IsFragment (view c.args.json.now)) (fragment_fault (view c.args.json.now)) extensions schema_in c.in-Ok.fragment c.in-Ok.ensures.shape c.from_fragment_with.result c.from_fragment_with.ensures.sound c.from_fragment_with.ensures.denotes)
    (refused_read (IsFragment (view c.args.json.now)) (fragment_fault (view c.args.json.now)) extensions schema_in c.in-Ok.fragment c.in-Ok.ensures.shape c.from_fragment_with.result c.from_fragment_with.ensures.refused)

pub returns-in-Ok-clause-unplaced : goal.returns-in-Ok-clause-unplaced
returns-in-Ok-clause-unplaced c = unplaced (view c.args.json.now) c.in-Ok.fragment c.in-Ok.ensures.shape c.from_fragment_with.result c.from_fragment_with.ensures.placed

pub returns-in-Err-clause-accepts : goal.returns-in-Err-clause-accepts
returns-in-Err-clause-accepts c =
    let extensions = extension_words c.args.extensions.now in
    λ F. accepts_unread (IsFragment (view c.args.json.now)) (fragment_fault (view c.args.json.now)) extensions (fragment_once (view c.args.json.now)) (fragment_clean (view c.args.json.now)) (Fragment RawName over_raw) ValidatorSchema (λ schema. Denotes (world_of_fragment (fragment_seen F) extensions) (schema_in schema)) c.in-Err.failure c.unread.result c.unread.ensures c.in-Err.ensures.refused F
