-- SPDX-License-Identifier: Apache-2.0
use Rattle.std.specs.Option.{option_cmp}
use Rattle.cedar_names.specs.Names.{name_cmp}
use Rattle.cedar_json_types.proofs.MemberLoops.{ReadsMembers}
use Rattle.cedar_json_namespaces.specs.Namespaces.{NamespaceEntry, namespace_entry_fault}
use Rattle.cedar_json_namespaces.proofs.namespaces.read_members.Given as goal

-- the members so far are read, and none had a fault
abbrev pub invariant-loop-key : goal.invariant-loop-key
invariant-loop-key l = ReadsMembers (option_cmp name_cmp) NamespaceEntry namespace_entry_fault l.members.entries l.key-iterator l.read
