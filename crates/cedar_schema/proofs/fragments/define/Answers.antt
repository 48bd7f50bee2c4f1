-- SPDX-License-Identifier: Apache-2.0
use Rattle.cedar_schema.proofs.Fragmented.{first_fault_seen, namespaces_made, no_fault_seen}
use Rattle.cedar_schema.proofs.fragments.define.Goals as goal

pub returns-clause-namespaces : goal.returns-clause-namespaces
returns-clause-namespaces c = namespaces_made c.args.fragment c.from_schema_fragment.result c.from_schema_fragment.ensures.made

pub returns-clause-faultless : goal.returns-clause-faultless
returns-clause-faultless c = no_fault_seen c.args.fragment c.from_schema_fragment.result c.from_schema_fragment.ensures.ok

pub returns-clause-refused : goal.returns-clause-refused
returns-clause-refused c = first_fault_seen c.args.fragment c.from_schema_fragment.result c.from_schema_fragment.ensures.refused
