-- A derivation changes the used matrix alone: the words after it are never changed, and cleared of it the matrix is what it was. Assumes
-- nothing.
use mathlib.Core.Path.{◌≡◌, sym, ap, ◌∙◌}
use Prim.Native.Nat.{ℕ, ◌≤◌}
use native.Mathlib.Omega.{arith}
use mathlib.Core.List.{List}
use lib.ListN.{drop}
use Rattle.lists.specs.Zip.{cleared}
use Rattle.lists.proofs.Cleared.{drop-cleared}
use Rattle.settings.specs.Settings.{Settings}
use Rattle.settings.specs.Sizes.{matrix_words, visit_count}
use Rattle.input.specs.Input.{Input, input_state}
use Rattle.columns.specs.Columns.{work}
use Rattle.setup.proofs.SetupWithin.{setup_within}
use Rattle.visits.proofs.VisitsWithin.{wander_within}
use Rattle.derivation.specs.Derivation.{setup_end, walk_end, end_matrix}

module _ (S : Settings) (least : 3 ≤ S.rows) (x : Input) (m : List ℕ) where
  pub cleared_end : cleared (matrix_words S) (end_matrix S x m) ≡ cleared (matrix_words S) m
  unfolding end_matrix walk_end setup_end
  cleared_end =
      wander_within S (omega arith) (visit_count S) (setup_end S (input_state S x) m) ∙ setup_within S least (work (input_state S x) m)

  pub words_after_kept : drop (matrix_words S) (end_matrix S x m) ≡ drop (matrix_words S) m
  words_after_kept =
      sym (drop-cleared (matrix_words S) (end_matrix S x m)) ∙ ap (drop (matrix_words S)) cleared_end ∙ drop-cleared (matrix_words S) m
