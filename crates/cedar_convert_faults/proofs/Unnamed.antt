-- SPDX-License-Identifier: Apache-2.0
-- The unnamed namespace behind the others.
use Rattle.std.proofs.Common.{◌≡◌, List, [], ◌∷◌, ◌++◌, map, None, refl, sym, ap, ◌∙◌}
use Rattle.std.proofs.lemmas.List.{append-nil}
use Rattle.cedar_names.specs.Annotating.{annotation_entries}
use Rattle.cedar_names.specs.declared.annotation.Annotations as values
use Rattle.cedar_text.specs.declared.node.Node.{Node}
use Rattle.cedar_tree.specs.declared.annotated.Annotated as noted
use Rattle.cedar_tree.specs.declared.declaration.Declaration as declaration
use Rattle.cedar_tree.specs.Meanings.{annotated_tree, node_of, decl_tree, annotation_tree}
use Rattle.cedar_convert_faults.specs.Gathering.{gathered_tree, unnamed}
use Rattle.cedar_convert_faults.specs.declared.gathering.Gathered as gathered
use Rattle.cedar_text.proofs.Members.{map-append}

-- without declarations
pub unnamed-none : (all : List gathered.Gathered) (loose : List (noted.Annotated (Node declaration.Declaration))) → loose ≡ []
    → map gathered_tree all ≡ map gathered_tree all ++ unnamed (map (annotated_tree (node_of decl_tree)) loose)
unnamed-none all loose none = sym (append-nil (map gathered_tree all)) ∙ ap (λ l. map gathered_tree all ++ unnamed (map (annotated_tree (node_of decl_tree)) l)) (sym none)

one : (annotations : values.Annotations) (loose : List (noted.Annotated (Node declaration.Declaration))) → annotation_entries annotations ≡ [] → (loose ≡ [] → ⊥)
    → gathered_tree (record { name = None; annotations = annotations; decls = loose }) ∷ [] ≡ unnamed (map (annotated_tree (node_of decl_tree)) loose)
one annotations [] none some = absurd (some refl)
one annotations (d ∷ loose) none some = ap (λ es. record { name = None; annotations = map annotation_tree es; decls = map (annotated_tree (node_of decl_tree)) (d ∷ loose) } ∷ []) none

-- with some
pub unnamed-some : (all more : List gathered.Gathered) (annotations : values.Annotations) (loose : List (noted.Annotated (Node declaration.Declaration))) → annotation_entries annotations ≡ [] → (loose ≡ [] → ⊥)
    → more ≡ all ++ record { name = None; annotations = annotations; decls = loose } ∷ [] → map gathered_tree more ≡ map gathered_tree all ++ unnamed (map (annotated_tree (node_of decl_tree)) loose)
unnamed-some all more annotations loose none some put =
    ap (map gathered_tree) put ∙ map-append gathered_tree all (record { name = None; annotations = annotations; decls = loose } ∷ []) ∙ ap (λ l. map gathered_tree all ++ l) (one annotations loose none some)

pub ruleset unnamed_last = (unnamed-none, unnamed-some)
