-- SPDX-License-Identifier: Apache-2.0
-- What errors keep that keep one name of a type, or none.
use Rattle.std.proofs.Common.{◌≡◌, ◌<◌, inl, inr, ℕ, zero, suc, List, [], ◌∷◌, Option, map, length, get_or, sym, ap, subst, arith}
use Rattle.cedar_data.specs.Firsts.{AllPass}
use Rattle.cedar_names.specs.declared.internal_name.InternalName.{InternalName}
use Rattle.cedar_names.specs.of_text.declared.location.Loc.{Loc}
use Rattle.cedar_schema_error.specs.FullNames.{FullName, Uid}
use Rattle.cedar_schema_error.specs.KeptDeclarations.{IsAmong, KeepsAmong, placed, placed_action}
use Rattle.cedar_schema_error.specs.declared.schema_error.SchemaError.{SchemaError}
use Rattle.cedar_unfold.specs.KeptNames.{KeepsName, KeepsNone}

-- what stands at a position is one of the list
pub among-at : {A B : Type 0} (f : A → B) (xs : List A) (i : ℕ) (d x : A) → i < length xs → x ≡ get_or xs i d → IsAmong (map f xs) (f x)
among-at f [] i d x l is = absurd (omega arith)
among-at f (y ∷ ys) zero d x l is = inl (ap f (sym is))
among-at f (y ∷ ys) (suc i) d x l is = inr (among-at f ys i d x (omega arith) is)

-- an error that keeps none keeps none but those of any lists
pub among-none : (types : List (FullName × Option Loc)) (actions : List (Uid × Option Loc)) (e : SchemaError) → KeepsNone e → KeepsAmong types actions e
among-none types actions e none = record {
  types = subst (AllPass (λ name. IsAmong types (placed name))) (sym none.0) tt;
  actions = subst (AllPass (λ uid. IsAmong actions (placed_action uid))) (sym none.1) tt;
}

-- an error that keeps one name keeps one of the list that has it
pub among-name : (keys : List InternalName) (name : InternalName) (e : SchemaError) → IsAmong (map placed keys) (placed name) → KeepsName name e → KeepsAmong (map placed keys) [] e
among-name keys name e among one = record {
  types = subst (AllPass (λ name. IsAmong (map placed keys) (placed name))) (sym one.0) (among, tt);
  actions = subst (AllPass (λ uid. IsAmong [] (placed_action uid))) (sym one.1) tt;
}
