-- SPDX-License-Identifier: Apache-2.0
use Rattle.cedar_unfold_laws.proofs.Walking.{full_names}
use Rattle.cedar_unfold_laws.proofs.laws.types_of_full_names_unfold.Goals as goal

pub returns : goal.returns
returns c = λ definitions is_extension t acyclic all_faultless faultless. full_names definitions is_extension t acyclic all_faultless faultless
