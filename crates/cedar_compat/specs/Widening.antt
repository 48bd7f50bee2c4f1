-- SPDX-License-Identifier: Apache-2.0
-- Which types have all the values of others. Nothing is said of order or of faults.
use Rattle.std.specs.Prelude.{◌≡◌, ⊤, ℕ, Bool, true, false, if◌then◌else◌, List, Option, Some, None}
use Rattle.cedar_data.specs.Maps.{is_text}
use Rattle.cedar_unfold.specs.Resolved.{Resolved, ResolvedAttributes, Boolean, Long, String, Extension, Set, Record, Entity, no_attributes, attribute}

-- the attribute of this name: whether it is required, and its type
abbrev pub attribute_named : ResolvedAttributes → List ℕ → Option (Bool × Resolved)
attribute_named no_attributes name = None
attribute_named (attribute other required ty others) name = if is_text name other then Some (required, ty) else attribute_named others name

-- whether there is such an attribute, and it is required
abbrev pub is_required : Option (Bool × Resolved) → Bool
is_required None = false
is_required (Some found) = found.0

abbrev pub needs : ResolvedAttributes → List ℕ → Bool
needs fields name = is_required (attribute_named fields name)

-- each attribute that the new record requires, the old one requires
abbrev pub NeedsNoMore : ResolvedAttributes → ResolvedAttributes → Type 0
NeedsNoMore old no_attributes = ⊤
NeedsNoMore old (attribute name required ty others) = (required ≡ true → needs old name ≡ true) × NeedsNoMore old others

abbrev mutual
  -- the types are the same, but for attributes that the second has beside those of the first, or that it doesn't require any more
  pub Widens : Resolved → Resolved → Type 0
  Widens Boolean new = new ≡ Boolean
  Widens Long new = new ≡ Long
  Widens String new = new ≡ String
  Widens (Extension name) new = new ≡ Extension name
  Widens (Set element) new = (wider : Resolved) × (new ≡ Set wider) × Widens element wider
  Widens (Record fields is_open) new = (wider : ResolvedAttributes) × ((tag : Bool) × (new ≡ Record wider tag)) × (HasWidened fields wider × NeedsNoMore fields wider)
  Widens (Entity name) new = new ≡ Entity name

  -- each of the first attributes is one of the second, and its type widens to that there
  pub HasWidened : ResolvedAttributes → ResolvedAttributes → Type 0
  HasWidened no_attributes new = ⊤
  HasWidened (attribute name required ty others) new = ((found : Bool × Resolved) × (attribute_named new name ≡ Some found) × Widens ty found.1) × HasWidened others new
