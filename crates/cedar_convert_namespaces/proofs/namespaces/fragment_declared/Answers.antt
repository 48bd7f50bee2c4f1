-- SPDX-License-Identifier: Apache-2.0
use Rattle.std.proofs.Common.{map, refl}
use Rattle.cedar_convert_declarations.specs.of_convert_faults.Gathering.{gathered_tree}
use Rattle.cedar_convert_declarations.specs.of_convert_fragment.Declares.{declared_by}
use Rattle.cedar_convert_namespaces.proofs.Declaring.{fragment-made}
use Rattle.cedar_convert_namespaces.proofs.namespaces.fragment_declared.Goals as goal

pub returns : goal.returns
returns c =
    fragment-made (λ a b. refl) c.in_ok-namespaces.namespaces c.in_ok-made.made.items (declared_by (map gathered_tree c.args.all)) c.in_ok-namespaces.ensures.made c.in_ok-made.ensures
