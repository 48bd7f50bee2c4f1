-- SPDX-License-Identifier: Apache-2.0
-- A loop that writes annotations, each on a line of its own.
use Rattle.std.proofs.Common.{◌≡◌, ℕ, List, [], ◌∷◌, ◌++◌, sym, ap, ◌∙◌, append_assoc}
use Rattle.std.proofs.Output.{has_written_append, has_written_of_eq, has_written_to_eq, writes_in_calls_nil}
use Rattle.std.proofs.lemmas.List.{append-nil}
use Rattle.std.proofs.lemmas.List.Concat.{flat_map-append}
use Rattle.std.specs.Fmt.{HasWritten, IsPlainFormatter}
use Rattle.std.specs.List.{flat_map}
use Rattle.std.specs.declared.fmt.Formatter.{Formatter}
use Rattle.cedar_names.specs.Annotating.{annotation_line}
use Rattle.cedar_names.specs.declared.annotation.Annotation.{Annotation}
use Rattle.cedar_names.specs.declared.any_id.AnyId.{AnyId}

module _ {W : Type 0} (took : W → List ℕ → W → Type 0) where
  -- those before what is left are written
  pub record HasLines (whole left : List (AnyId × Annotation)) (f g : Formatter W) : Type 0 where
    pub done : List (AnyId × Annotation)
    pub split : done ++ left ≡ whole
    pub is : IsPlainFormatter f → HasWritten took f (flat_map annotation_line done) g

  -- before the first
  pub HasLines-start : (whole left : List (AnyId × Annotation)) (f g : Formatter W) → left ≡ whole → g ≡ f → HasLines whole left f g
  HasLines-start whole left f g all same = record {
    done = [];
    split = all;
    is = λ plain. has_written_to_eq took _ _ _ _ same (record { wrote = writes_in_calls_nil took _; plain = plain });
  }

  -- one more
  pub HasLines-next : {whole left rest : List (AnyId × Annotation)} {f g h : Formatter W} {e : AnyId × Annotation} → HasLines whole left f g → left ≡ e ∷ rest
      → (IsPlainFormatter g → HasWritten took g (annotation_line e) h) → HasLines whole rest f h
  HasLines-next {whole} {left} {rest} {f} {g} {h} {e} so_far first more = record {
    done = so_far.done ++ e ∷ [];
    split = append_assoc so_far.done (e ∷ []) rest ∙ ap (λ l. so_far.done ++ l) (sym first) ∙ so_far.split;
    is = λ plain.
        let before = so_far.is plain in
        has_written_of_eq took _ _ _ _
        (sym (flat_map-append annotation_line so_far.done (e ∷ []) ∙ ap (λ l. flat_map annotation_line so_far.done ++ l) (append-nil (annotation_line e))))
        (has_written_append took _ _ _ _ _ before (more before.plain));
  }

  -- behind the last
  pub HasLines-end : {whole left : List (AnyId × Annotation)} {f g : Formatter W} → HasLines whole left f g → left ≡ [] → IsPlainFormatter f → HasWritten took f (flat_map annotation_line whole) g
  HasLines-end {whole} {left} {f} {g} so_far none plain =
      has_written_of_eq took _ _ _ _ (ap (flat_map annotation_line) (sym (append-nil so_far.done) ∙ ap (λ l. so_far.done ++ l) (sym none) ∙ so_far.split)) (so_far.is plain)
