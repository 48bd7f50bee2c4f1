-- SPDX-License-Identifier: Apache-2.0
use Rattle.std.proofs.Common.{map}
use Rattle.cedar_convert_faults.specs.Conditions.{AreDeclared}
use Rattle.cedar_convert_faults.specs.Faults.{faults_of}
use Rattle.cedar_convert_faults.specs.Gathering.{gathered_tree}
use Rattle.cedar_convert_faults.proofs.DeclarationLaws.{declared_where_fine, empty_where, fine_where_declared}
use Rattle.cedar_convert_faults.proofs.declarations.schema_faults.Goals as goal

pub returns-clause-declared : goal.returns-clause-declared
returns-clause-declared c =
    let gs = map gathered_tree c.args.all.now in
    empty_where (λ faults. faults.items) (faults_of gs) (AreDeclared gs) (declared_where_fine gs) (fine_where_declared gs) c.find_all_faults.result c.find_all_faults.ensures
