-- SPDX-License-Identifier: Apache-2.0
-- `Boxed` holds one value.
use mathlib.Core.Path.{◌≡◌, refl}
use mathlib.Core.Former.{Former, this, const, pair, via}
use base.Stored.{gnil}
use base.Fml.{ftrue}
use denote.RattleType.{RattleType}
use denote.Memory.{part_of}
use denote.RawPtr.{Ptr}
use denote.Sharing.{nothing}
use denote.HoleLaws.{Alike}
use denote.HolePlaces.{Recodes, struct_places, laid, one_value}
use denote.Hole.Fix.{over}
use denote.Param.Weighed.{Weighed}
use denote.Model.Placed.{view_places}
use Rattle.std.specs.declared.boxed.Box.{Box}
use Rattle.std.specs.contracts.boxed.Box as box
use Rattle.std.specs.declared.alloc.Global.{Global}
use Rattle.std.specs.contracts.alloc.Global as heap
use Rattle.std.specs.contracts.impls.GlobalAllocator.TheImpl.{ghosts}
use Rattle.std.specs.declared.cmp.Ord as ord
use Rattle.std.specs.declared.cmp.PartialEq as eq
use Rattle.std.specs.declared.cmp.PartialOrd as partial
use Rattle.std.specs.declared.hash.Hash as hash
use Rattle.cedar_data.specs.declared.boxed.Boxed.TheInside.{Inside}
use Rattle.cedar_data.specs.declared.boxed.Boxed.TheView.{view, invariant}
use Rattle.cedar_data.specs.contracts.boxed.Boxed as C
use Rattle.cedar_data.specs.contracts.boxed.Boxed.TheInside as I

abbrev pub the_former : Former {0} → Former {0}
the_former held = held

abbrev pub the_weighed : {held : Former {0}} → Weighed held → Weighed (the_former held)
the_weighed weighed = weighed

-- the field, which is a `Box`
abbrev fields : Former {0}
fields = via (pair (const (Ptr × Global)) this) Inside (λ X inside. ((inside.inner.ptr, inside.inner.alloc), inside.inner.value))
    (λ X v. record { inner = record { ptr = v.0.0; alloc = v.0.1; value = v.1 } }) (λ X inside. refl) (λ X v. refl)

-- the box with another value
abbrev holding : {X Y : Type 0} → Box X Global → Y → Box Y Global
holding b y = record { ptr = b.ptr; alloc = b.alloc; value = y }

abbrev box_of : RattleType → RattleType
box_of R = box.the_row R heap.the_row ghosts

module _ (R S : RattleType) (h : R.Denot → S.Denot) where
  box_places : Alike R S h → Alike (box_of R) (box_of S) (λ b. holding b (h b.value))
  unfolding part_of
  box_places alike = record {
    mir_same = λ i. (box_of (one_value R (alike.mir_same i) (λ _. ftrue) (λ _ _. nothing) gnil)).mir;
    own_same = λ b i. (box_of (one_value R (alike.mir_same i) (alike.own_same b.value i) (alike.shr_same b.value i) gnil)).own_val (holding b tt);
    shr_same = λ b i. (box_of (one_value R (alike.mir_same i) (alike.own_same b.value i) (alike.shr_same b.value i) gnil)).shr_at (holding b tt);
  }

  pub the_places : Alike R S h → Alike (C.the_row R) (C.the_row S) ((the_former this).map R.Denot S.Denot h)
  the_places alike = view_places fields (the_former this) view (λ X Y k u. refl) (λ X u. refl) R.Denot S.Denot h
      (C.the_row R).coded (C.the_row S).coded (invariant R.Denot) (invariant S.Denot)
      (λ u p q. refl) (λ u p q. refl) (λ u e. tt) (λ u e. tt) (over (I.the_row R)) (over (I.the_row S))
      (struct_places (I.the_type R) (I.the_type S) ((λ b. holding b (h b.value)), tt) _ (λ d. refl) refl (laid _ _ _ (box_places alike), tt))

  pub the_codes_placed : Recodes R S h → Recodes (C.the_row R) (C.the_row S) ((the_former this).map R.Denot S.Denot h)
  the_codes_placed recodes value = recodes value

module _ (X Y : Type 0) (h : X → Y) where
  pub the_eq_natural : (V : eq.Ghosts Y) (a b : X) → V.eq (h a) (h b) ≡ V.eq (h a) (h b)
  the_eq_natural V a b = refl

  pub the_partial_cmp_natural : (V : partial.Ghosts Y) (V' : eq.Ghosts Y) (a b : X) → V.partial_cmp (h a) (h b) ≡ V.partial_cmp (h a) (h b)
  the_partial_cmp_natural V V' a b = refl

  pub the_cmp_natural : (V : ord.Ghosts Y) (V' : eq.Ghosts Y) (V'' : partial.Ghosts Y) (a b : X) → V.cmp (h a) (h b) ≡ V.cmp (h a) (h b)
  the_cmp_natural V V' V'' a b = refl

  pub the_hash_input_natural : (V : hash.Ghosts Y) (V' : eq.Ghosts Y) (a : X) → V.hash_input (h a) ≡ V.hash_input (h a)
  the_hash_input_natural V V' a = refl
