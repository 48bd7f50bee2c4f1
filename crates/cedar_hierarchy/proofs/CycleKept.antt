-- SPDX-License-Identifier: Apache-2.0
-- What the error of a cycle keeps is declared.
use Rattle.std.proofs.Common.{◌≡◌, inl, inr, List, [], ◌∷◌, map, zero, suc, Contains, sym, ap, subst, arith}
use Rattle.std.specs.List.{AllZip}
use Rattle.std.specs.Map.{keys_of}
use Rattle.cedar_outlines.specs.of_declared.Names.{Names}
use Rattle.cedar_hierarchy.specs.Nodes.{IsActionNode, TellsCycle}
use Rattle.cedar_hierarchy.specs.Uses.{Uses}
use Rattle.cedar_hierarchy.proofs.Aligned.{same_keys}
use Rattle.cedar_names.specs.declared.entity_uid.EntityUID.{EntityUID}
use Rattle.cedar_resolved.specs.Schemas.{uid_cmp}
use Rattle.cedar_resolved.specs.declared.action.ValidatorActionId.{ValidatorActionId}
use Rattle.cedar_schema_error.specs.KeptDeclarations.{IsAmong, KeepsAmong, placed_action}
use Rattle.cedar_schema_error.specs.declared.schema_error.SchemaError.{SchemaError}
use Rattle.cedar_outlines.specs.declared.outlines.ActionOutline.{ActionOutline}

-- what is seen of an item is among what is seen of all items
among : {A B : Type 0} (f : A → B) (xs : List A) (x : A) → Contains xs x → IsAmong (map f xs) (f x)
among f [] x (k, l, e) = absurd (omega arith)
among f (y ∷ ys) x (zero, l, e) = inl (ap f e)
among f (y ∷ ys) x (suc k, l, e) = inr (among f ys x (k, omega arith, e))

-- the action of a cycle among nodes is a key of the outlines that the nodes are made of
pub cycle_kept : (names : Names) (children : List (EntityUID × List EntityUID)) (uses : Uses) (outlines : List (EntityUID × ActionOutline)) (nodes : List (EntityUID × ValidatorActionId))
    → AllZip (IsActionNode names children uses) outlines nodes → (e : SchemaError) → TellsCycle nodes e → KeepsAmong [] (map placed_action (keys_of outlines)) e
cycle_kept names children uses outlines nodes each e tells =
    let same : keys_of nodes ≡ keys_of outlines = same_keys uid_cmp (IsActionNode names children uses) (λ w e n. n.described.key) outlines nodes each in
    let declared : Contains (keys_of outlines) tells.vertex = subst (λ ks. Contains ks tells.vertex) same tells.least.stands in
    subst (KeepsAmong [] (map placed_action (keys_of outlines))) (sym tells.is) (record { types = tt; actions = (among placed_action (keys_of outlines) tells.vertex declared, tt) })
