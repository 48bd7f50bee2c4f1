-- SPDX-License-Identifier: Apache-2.0
-- What holds in a sound world.
use Rattle.std.proofs.Common.{◌≡◌, ◌++◌, ◌&&◌, ℕ, Bool, true, false, IsTrue, List, [], ◌∷◌, refl, sym}
use Rattle.cedar_closure.specs.Chains.{Reaches, one, more}
use Rattle.cedar_declared.specs.Names.{is_declared}
use Rattle.cedar_names.specs.Components.{has_cedar}
use Rattle.cedar_schema_error.specs.FullNames.{FullName, Uid, basename, is_qualified}
use Rattle.cedar_phases.specs.of_sound.Sound.{Sound}
use Rattle.cedar_world.specs.Descents.{ActionDescendsFrom, DescendsFrom}
use Rattle.cedar_world.specs.Worlds.{World, own}
use Rattle.cedar_written.specs.declared.reference_type.ReferenceType.TheVariants.{CommonOrEntity}

basename_in : (ns : FullName) (x : List ℕ) → basename (ns ++ x ∷ []) ≡ x
basename_in [] x = refl
basename_in (a ∷ []) x = refl
basename_in (a ∷ b ∷ bs) x = basename_in (b ∷ bs) x

qualified_in : (a : List ℕ) (ns : FullName) (x : List ℕ) → is_qualified (a ∷ ns ++ x ∷ []) ≡ true
qualified_in a [] x = refl
qualified_in a (b ∷ bs) x = refl

both_true : (a b : Bool) → a ≡ true → b ≡ true → a && b ≡ true
both_true true b p q = q
both_true false b p q = absurd (cc)

single : (x y : List ℕ) → x ≡ y → x ∷ [] ≡ y ∷ []
single x y is = λ i. is i ∷ []

-- an unqualified name stands for one declared type at most
pub one_possibility : (W : World) (a : List ℕ) (ns : FullName) (x : List ℕ) → Sound W → has_cedar (a ∷ ns ++ x ∷ []) ≡ false
    → IsTrue (is_declared (own W) CommonOrEntity (a ∷ ns ++ x ∷ [])) → IsTrue (is_declared (own W) CommonOrEntity (x ∷ [])) → ⊥
unfolding Sound
one_possibility W a ns x s free there here =
    s.0.0 (x ∷ []) (a ∷ ns ++ x ∷ []) (record {
      both = both_true (is_declared (own W) CommonOrEntity (x ∷ [])) (is_declared (own W) CommonOrEntity (a ∷ ns ++ x ∷ [])) here there;
      qualified = qualified_in a ns x;
      unreserved = free;
      is_basename = single x (basename (a ∷ ns ++ x ∷ [])) (sym (basename_in (a ∷ ns) x));
    })

-- two chains are one
join : {A : Type 0} {R : A → A → Type 0} {a b c : A} → Reaches R a b → Reaches R b c → Reaches R a c
join (one s) r = more s r
join (more s q) r = more s (join q r)

pub types_join : (W : World) (a b c : FullName) → DescendsFrom W a b → DescendsFrom W b c → DescendsFrom W a c
types_join W a b c upper lower = join lower upper

pub actions_join : (W : World) (a b c : Uid) → ActionDescendsFrom W a b → ActionDescendsFrom W b c → ActionDescendsFrom W a c
actions_join W a b c upper lower = join lower upper

-- no action of a sound world is its own
pub none_its_own : (W : World) (u : Uid) → Sound W → ActionDescendsFrom W u u → ⊥
unfolding Sound
none_its_own W u s chain = s.1.1.1.1.0 u chain
