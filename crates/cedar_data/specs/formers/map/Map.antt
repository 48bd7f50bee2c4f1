-- SPDX-License-Identifier: Apache-2.0
-- `Map` holds its values as a list of entries does.
use Rattle.std.specs.Prelude.{◌&&◌, List, [], map}
use mathlib.Core.Path.{◌≡◌, refl}
use mathlib.Core.Former.{Former, this, const, pair, list, via, children}
use denote.RattleType.{RattleType}
use denote.HoleLaws.{Alike}
use denote.HolePlaces.{Recodes, struct_places, laid}
use denote.Hole.Carrier.{listed}
use denote.Hole.Fix.{over}
use denote.Param.Weighed.{Weighed, most}
use denote.Model.Placed.{view_places}
use Rattle.std.specs.Cmp.Lexicographic.{pointwise, slice_cmp, slice_partial_cmp}
use Rattle.std.specs.Cmp.Derive.Mapped.{pointwise-map, lex_map, slice_partial_cmp-map}
use Rattle.std.specs.Ordering.{ordering_then, partial_ordering_then}
use Rattle.std.specs.declared.alloc.Global.{Global}
use Rattle.std.specs.declared.cmp.Ord as ord
use Rattle.std.specs.declared.cmp.PartialEq as eq
use Rattle.std.specs.declared.cmp.PartialOrd as partial
use Rattle.std_collections.specs.Map.{values_of}
use Rattle.std_collections.specs.Layout.Former.{entry, on_value, entries_puts, values_listed, entries_recoded}
use Rattle.cedar_data.specs.formers.entries.Entries as entries
use Rattle.cedar_data.specs.declared.map.Map.TheInside.{Inside}
use Rattle.cedar_data.specs.declared.map.Map.TheView.{view, invariant}
use Rattle.cedar_data.specs.contracts.map.Map as C
use Rattle.cedar_data.specs.contracts.map.Map.TheInside as I

abbrev pub the_former : Former {0} → Type 0 → Former {0}
the_former held K = list (entry held K)

abbrev pub the_weighed : {held : Former {0}} → Weighed held → (K : Type 0) → Weighed (the_former held K)
the_weighed weighed K = record {
  weight = λ X size es. most (weighed.weight X size) (values_of es);
  puts = λ X size es. entries_puts weighed K X size es;
}

pub the_empty : (K : Type 0) → K → List (K × ⊥)
the_empty K key = []

abbrev pub the_items : (K X : Type 0) → List (K × X) → List X
the_items K X es = values_of es

pub the_items_listed : (K X : Type 0) (es : List (K × X)) → listed _ (children (the_former this K) X es) ≡ the_items K X es
the_items_listed K X es = values_listed K X es

-- the fields, of which one is entries
abbrev fields : Type 0 → Former {0}
fields K = via (pair (const Global) (entries.the_former this K)) (λ X. Inside K X) (λ X inside. (inside.alloc, inside.map)) (λ X v. record { alloc = v.0; map = v.1 }) (λ X inside. refl) (λ X v. refl)

module _ (K : RattleType) (G : ord.Ghosts K.Denot) (G' : eq.Ghosts K.Denot) (G'' : partial.Ghosts K.Denot) (R S : RattleType) (h : R.Denot → S.Denot) where
  pub the_places : Alike R S h → Alike (C.the_row K R G G' G'') (C.the_row K S G G' G'') ((the_former this K.Denot).map R.Denot S.Denot h)
  the_places alike = view_places (fields K.Denot) (the_former this K.Denot) (λ X. view K.Denot X G G' G'') (λ X Y k u. refl) (λ X u. refl) R.Denot S.Denot h
      (C.the_row K R G G' G'').coded (C.the_row K S G G' G'').coded (invariant K.Denot R.Denot G G' G'') (invariant K.Denot S.Denot G G' G'')
      (λ u p q. refl) (λ u p q. refl) (λ u e. tt) (λ u e. tt) (over (I.the_row K R G G' G'')) (over (I.the_row K S G G' G''))
      (struct_places (I.the_type K R G G' G'') (I.the_type K S G G' G'') ((λ n. n), ((entries.the_former this K.Denot).map R.Denot S.Denot h, tt)) _ (λ d. refl) refl
      ((refl, (λ n. refl, λ n. refl)), (laid _ _ _ (entries.the_places K G G' G'' R S h alike), tt)))

  pub the_codes_placed : Recodes R S h → Recodes (C.the_row K R G G' G'') (C.the_row K S G G' G'') ((the_former this K.Denot).map R.Denot S.Denot h)
  the_codes_placed recodes es = entries_recoded K R S h recodes es

module _ (K X Y : Type 0) (h : X → Y) (G : ord.Ghosts K) (G' : eq.Ghosts K) (G'' : partial.Ghosts K) where
  pub the_eq_natural : (V : eq.Ghosts Y) (m n : List (K × X))
      → pointwise (λ p q. G'.eq p.0 q.0 && V.eq p.1 q.1) (map (on_value h) m) (map (on_value h) n)
      ≡ pointwise (λ p q. G'.eq p.0 q.0 && V.eq (h p.1) (h q.1)) m n
  the_eq_natural V m n = pointwise-map (on_value h) (λ p q. G'.eq p.0 q.0 && V.eq p.1 q.1) m n

  pub the_partial_cmp_natural : (V : partial.Ghosts Y) (V' : eq.Ghosts Y) (m n : List (K × X))
      → slice_partial_cmp (λ p q. partial_ordering_then (G''.partial_cmp p.0 q.0) (V.partial_cmp p.1 q.1)) (map (on_value h) m) (map (on_value h) n)
      ≡ slice_partial_cmp (λ p q. partial_ordering_then (G''.partial_cmp p.0 q.0) (V.partial_cmp (h p.1) (h q.1))) m n
  the_partial_cmp_natural V V' m n = slice_partial_cmp-map (on_value h) (λ p q. partial_ordering_then (G''.partial_cmp p.0 q.0) (V.partial_cmp p.1 q.1)) m n

  pub the_cmp_natural : (V : ord.Ghosts Y) (V' : eq.Ghosts Y) (V'' : partial.Ghosts Y) (m n : List (K × X))
      → slice_cmp (λ p q. ordering_then (G.cmp p.0 q.0) (V.cmp p.1 q.1)) (map (on_value h) m) (map (on_value h) n)
      ≡ slice_cmp (λ p q. ordering_then (G.cmp p.0 q.0) (V.cmp (h p.1) (h q.1))) m n
  the_cmp_natural V V' V'' m n = lex_map (on_value h) (λ p q. ordering_then (G.cmp p.0 q.0) (V.cmp p.1 q.1)) m n
