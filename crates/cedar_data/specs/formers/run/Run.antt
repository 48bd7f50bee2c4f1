-- SPDX-License-Identifier: Apache-2.0
-- `Run` holds its values as a list of entries does.
use Rattle.std.specs.Prelude.{List, [], ◌∷◌}
use mathlib.Core.Path.{◌≡◌, refl, sym, subst}
use mathlib.Core.Former.{Former, this, list, via, children}
use denote.RattleType.{RattleType}
use denote.HoleLaws.{Alike}
use denote.HolePlaces.{Recodes, struct_places, laid}
use denote.Hole.Carrier.{listed}
use denote.Hole.Fix.{over}
use denote.Param.Weighed.{Weighed, most}
use denote.Model.Placed.{view_places}
use denote.Struct.Tuple.{Tuple, tuple_type}
use Rattle.std.specs.formers.vec.Vec as vec
use Rattle.std.specs.declared.alloc.Global.{Global}
use Rattle.std.specs.contracts.alloc.Global as heap
use Rattle.std.specs.contracts.impls.GlobalAllocator.TheImpl.{ghosts}
use Rattle.std.specs.declared.cmp.Ord as ord
use Rattle.std.specs.declared.cmp.PartialEq as eq
use Rattle.std.specs.declared.cmp.PartialOrd as partial
use Rattle.std.specs.List.Sorted.{IsStrictlySortedBy, IsStrictlySortedBy-prop}
use Rattle.std_collections.specs.Map.{keys_of, values_of}
use Rattle.std_collections.specs.Layout.Former.{entry, on_value, entries_puts, values_listed, keys_on_values, entries_recoded}
use Rattle.cedar_data.specs.declared.run.Run.TheInside.{Inside}
use Rattle.cedar_data.specs.declared.run.Run.TheView.{view, invariant}
use Rattle.cedar_data.specs.contracts.run.Run as C
use Rattle.cedar_data.specs.contracts.run.Run.TheInside as I

abbrev pub the_former : Former {0} → Type 0 → Former {0}
the_former held K = list (entry held K)

abbrev pub the_weighed : {held : Former {0}} → Weighed held → (K : Type 0) → Weighed (the_former held K)
the_weighed weighed K = record {
  weight = λ X size es. most (weighed.weight X size) (values_of es);
  puts = λ X size es. entries_puts weighed K X size es;
}

pub the_empty : (K : Type 0) → K → List (K × ⊥)
the_empty K key = []

abbrev pub the_items : (K X : Type 0) → List (K × X) → List X
the_items K X es = values_of es

pub the_items_listed : (K X : Type 0) (es : List (K × X)) → listed _ (children (the_former this K) X es) ≡ the_items K X es
the_items_listed K X es = values_listed K X es

-- the field, which is a `Vec` of entries
abbrev fields : Type 0 → Former {0}
fields K = via (vec.the_former (entry this K) Global) (λ X. Inside K X) (λ X inside. inside.entries) (λ X v. record { entries = v }) (λ X inside. refl) (λ X v. refl)

module _ (K : RattleType) (G : ord.Ghosts K.Denot) (G' : eq.Ghosts K.Denot) (G'' : partial.Ghosts K.Denot) (R S : RattleType) (h : R.Denot → S.Denot) where
  entry_places : Alike R S h → Alike (Tuple (K ∷ R ∷ [])) (Tuple (K ∷ S ∷ [])) (on_value h)
  entry_places alike = struct_places (tuple_type (K ∷ R ∷ [])) (tuple_type (K ∷ S ∷ [])) ((λ k. k), (h, tt)) (on_value h) (λ d. refl) refl
      ((refl, (λ n. refl, λ n. refl)), (laid _ _ _ alike, tt))

  pub the_places : Alike R S h → Alike (C.the_row K R G G' G'') (C.the_row K S G G' G'') ((the_former this K.Denot).map R.Denot S.Denot h)
  the_places alike = view_places (fields K.Denot) (the_former this K.Denot) (λ X. view K.Denot X G G' G'') (λ X Y k u. refl) (λ X u. refl) R.Denot S.Denot h
      (C.the_row K R G G' G'').coded (C.the_row K S G G' G'').coded (invariant K.Denot R.Denot G G' G'') (invariant K.Denot S.Denot G G' G'')
      (λ u. IsStrictlySortedBy-prop G.cmp (keys_of u.entries.items)) (λ u. IsStrictlySortedBy-prop G.cmp (keys_of u.entries.items))
      (λ u s. subst (IsStrictlySortedBy G.cmp) (sym (keys_on_values h u.entries.items)) s) (λ u s. subst (IsStrictlySortedBy G.cmp) (keys_on_values h u.entries.items) s)
      (over (I.the_row K R G G' G'')) (over (I.the_row K S G G' G''))
      (struct_places (I.the_type K R G G' G'') (I.the_type K S G G' G'') (vec.mapped (on_value h), tt) _ (λ d. refl) refl
      (laid _ _ _ (vec.the_places heap.the_row ghosts (Tuple (K ∷ R ∷ [])) (Tuple (K ∷ S ∷ [])) (on_value h) (entry_places alike)), tt))

  pub the_codes_placed : Recodes R S h → Recodes (C.the_row K R G G' G'') (C.the_row K S G G' G'') ((the_former this K.Denot).map R.Denot S.Denot h)
  the_codes_placed recodes es = entries_recoded K R S h recodes es
