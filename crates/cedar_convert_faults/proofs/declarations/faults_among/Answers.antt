-- SPDX-License-Identifier: Apache-2.0
use Rattle.std.proofs.Common.{map}
use Rattle.cedar_tree.specs.Meanings.{annotated_tree, decl_tree, node_of}
use Rattle.cedar_convert_faults.specs.Conditions.{AreSound}
use Rattle.cedar_convert_faults.specs.Faults.{faults_among}
use Rattle.cedar_convert_faults.proofs.DeclarationLaws.{empty_where, fine_where_sound, sound_where_fine}
use Rattle.cedar_convert_faults.proofs.declarations.faults_among.Goals as goal

pub returns-clause-sound : goal.returns-clause-sound
returns-clause-sound c =
    let decls = map (annotated_tree (node_of decl_tree)) c.args.decls.now in
    empty_where (λ faults. faults.items) (faults_among decls) (AreSound decls) (sound_where_fine decls) (fine_where_sound decls) c.find_faults.result c.find_faults.ensures
