-- What the code that makes visits asks for and gives.
use Rattle.std.specs.Prelude.{◌≡◌, ℕ, ◌*◌, ◌≤◌, ◌<◌, List}
use Rattle.lists.specs.Zip.{zip_at, put_into}
use Rattle.packing.specs.Packing.{pair_factor}
use Rattle.settings.specs.Settings.{Settings}
use Rattle.settings.specs.Sizes.{matrix_words}
use Rattle.visits.specs.Visits.{Walk, visit, wander, visit_data, visits}
use Rattle.visits.specs.Encoding.{encode_visit, encode}

-- there are rows and columns, and their numbers are below the factor, so that a word tells two of them
pub record Packable (S : Settings) : Type 0 where
  pub rows_pos : 0 < S.rows
  pub rows_most : S.rows ≤ pair_factor
  pub columns_pos : 0 < S.columns
  pub columns_most : S.columns ≤ pair_factor

-- the previous rows are rows, and a matrix of so many words has room for all of them
pub record Ready (S : Settings) (prev0 prev1 words : ℕ) : Type 0 where
  pub packable : Packable S
  pub prev0_lt : prev0 < S.rows
  pub prev1_lt : prev1 < S.rows
  pub room : matrix_words S ≤ words

-- one visit leads from the walk w to w', the record from xs to xs': the visit's words stand in it from place `at` on
pub record OneVisit (S : Settings) (at : ℕ) (w w' : Walk) (xs xs' : List ℕ) (calls : ℕ) : Type 0 where
  pub counted : calls ≡ S.columns
  pub prev0_lt : w'.prev0 < S.rows
  pub prev1_lt : w'.prev1 < S.rows
  pub walked : w' ≡ visit S w
  pub noted : xs' ≡ zip_at (λ x y. y) at xs (encode_visit (visit_data S w))

-- n visits lead from the walk w to w', the record from xs to xs'
pub record Wandered (S : Settings) (n : ℕ) (w w' : Walk) (xs xs' : List ℕ) (calls : ℕ) : Type 0 where
  pub counted : calls ≡ n * S.columns
  pub prev0_lt : w'.prev0 < S.rows
  pub prev1_lt : w'.prev1 < S.rows
  pub walked : w' ≡ wander S n w
  pub noted : xs' ≡ put_into xs (encode (visits S n w))
