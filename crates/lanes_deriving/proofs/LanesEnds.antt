-- A call with several lanes that no check refuses: what it may ask of a run, its counts and its answer. Assumes nothing.
use mathlib.Core.Path.{◌≡◌, refl, ap, ◌∙◌}
use Prim.Native.Nat.{ℕ, zero, suc, ◌+◌, ◌*◌, ◌/◌, ◌%◌, ◌≤◌}
use native.Mathlib.Nat.{mul-le-mul, mul-add, mul-one, le_trans}
use native.Mathlib.Omega.{arith}
use mathlib.Core.List.{List, [], ◌∷◌, ◌++◌}
use Rattle.std.proofs.lemmas.List.{take-replicate}
use lib.ListN.{length, get_or, take, drop, replicate, length-replicate, length-append, length-drop}
use Rattle.lists.specs.Zip.{cleared, zip_into}
use Rattle.settings.specs.Settings.{Settings, settings, usual}
use Rattle.settings.specs.Sizes.{matrix_words}
use Rattle.settings.specs.declared.Parameters.{Parameters}
use Rattle.settings.specs.declared.StoredParameters.{StoredParameters}
use Rattle.settings.specs.declared.Lengths.{Lengths}
use Rattle.input.specs.Input.{Input}
use Rattle.key.specs.Key.{pieces, calls_between}
use Rattle.key.proofs.KeyLaws.{pieces_calls}
use Rattle.refusals.specs.Checks.{Accepted, first, lanes_cost_checks, lanes_checks}
use Rattle.refusals.proofs.Accepted.{accepted, cells_most}
use Rattle.refusals.proofs.Answered.{answered-yes, answered_no}
use Rattle.refusals.proofs.Chained.{number_above}
use Rattle.refusals.specs.declared.Refusal.{Refusal}
use Rattle.refusals.specs.Refusals.{number_of}
use Rattle.derivation.specs.Cost.{reduced_cost}
use Rattle.derivation.specs.Answers.{Costs, spent_on, no_costs, costs_of}
use Rattle.derivation.specs.declared.Spent.{Spent}
use Rattle.lanes_derivation.specs.LanesCosts.{lane_blocks, lanes_full_cost, lanes_costs, lanes_answer}
use Rattle.lane_keys.proofs.LaneBytes.{length_keys}
use Rattle.lanes_derivation.specs.LanesDerivation.{lanes_key_of}
use Rattle.lanes_derivation.proofs.LanesCounted.{blocks_most}
use Rattle.lanes_derivation.proofs.Evenly.{evenly}
use Rattle.lanes.specs.LaneLists.{states_of}
use Rattle.lanes.specs.declared.Lane.{Lane}
use Rattle.lane_runs.specs.LaneRuns.{Fits}
use Rattle.profile.specs.Profile.{start}
use Rattle.lanes_deriving.specs.Over.{Begins}

-- ---- the counts

module _ (l : Lengths) (lanes : ℕ) (key : l.key ≤ 1024) (password : l.password ≤ 1024) (salt : l.salt ≤ 64) where
  pub each_most : lane_blocks l + pieces l.key ≤ 29
  unfolding pieces
  each_most = omega (arith, blocks_most l password salt)

  pub full_most : lanes ≤ 8 → lanes_full_cost lanes l ≤ 232
  full_most most = mul-le-mul most each_most

pub reduced_most : (R C T : ℕ) → R ≤ 16384 → C ≤ 256 → T ≤ 255 → R * C * (T + 1) ≤ 1073741824
reduced_most R C T rows columns time =
    let more : T + 1 ≤ 256 = omega arith in
    le_trans (mul-le-mul (cells_most R C rows columns) more) (omega arith)

-- the full calls as they are made: those of the inputs, of the last cells, and between pieces of the keys
pub full_is : (l : Lengths) (lanes : ℕ) {full between : ℕ} → 1 ≤ l.key → full ≡ lanes * lane_blocks l + lanes → between ≡ lanes * calls_between l.key → full + between ≡ lanes_full_cost lanes l
full_is l lanes least e f =
    let one : calls_between l.key + 1 ≡ pieces l.key = pieces_calls l.key least in
    let parts : lanes * (lane_blocks l + (calls_between l.key + 1)) ≡ lanes * lane_blocks l + (lanes * calls_between l.key + lanes) =
    mul-add lanes (lane_blocks l) (calls_between l.key + 1) ∙ ap (λ (n : ℕ). lanes * lane_blocks l + n) (mul-add lanes (calls_between l.key) 1 ∙ ap (λ (n : ℕ). lanes * calls_between l.key + n) (mul-one lanes)) in
    omega (arith, e, f, parts, ap (λ (n : ℕ). lanes * (lane_blocks l + n)) one)

-- ---- a call that no check refuses

module _ (l : Lengths) (q : StoredParameters) (lanes : ℕ) where
  abbrev Costed : Type 0
  Costed = Accepted (lanes_cost_checks l q lanes)

  pub costed : first (lanes_cost_checks l q lanes) ≡ 0 → Costed
  unfolding lanes_cost_checks
  costed e = accepted (lanes_cost_checks l q lanes) (omega arith) e

  pub roomy : (words : ℕ) → first (lanes_checks l q lanes words) ≡ 0 → Costed × (12 * (q.rows * q.columns) ≤ words)
  unfolding lanes_checks lanes_cost_checks
  roomy words e =
      let h = accepted (lanes_checks l q lanes words) (omega arith) e in
      (omega arith, omega arith)

  -- the bounds, one by one
  pub record Bounded : Type 0 where
    pub key_least : 1 ≤ l.key
    pub key_most : l.key ≤ 1024
    pub password : l.password ≤ 1024
    pub salt : l.salt ≤ 64
    pub time : q.time ≤ 255
    pub rows_most : q.rows ≤ 16384
    pub columns_least : 1 ≤ q.columns
    pub columns_most : q.columns ≤ 256
    pub lanes_least : 1 ≤ lanes
    pub lanes_most : lanes ≤ 8
    pub shared : lanes * (q.rows / lanes) ≡ q.rows
    pub even : q.rows / lanes % 2 ≡ 0
    pub rows_least : 4 ≤ q.rows / lanes

  pub bounded : Costed → Bounded
  unfolding lanes_cost_checks
  bounded h =
      let pos : 1 ≤ lanes = omega arith in
      let e = evenly q.rows lanes pos (omega arith) (omega arith) in
      record {
        key_least = omega arith;
        key_most = omega arith;
        password = omega arith;
        salt = omega arith;
        time = omega arith;
        rows_most = omega arith;
        columns_least = omega arith;
        columns_most = omega arith;
        lanes_least = pos;
        lanes_most = omega arith;
        shared = e.0;
        even = e.1;
        rows_least = omega arith;
      }

  pub fits_of : (words : ℕ) → first (lanes_checks l q lanes words) ≡ 0 → Fits l (usual q) lanes words
  fits_of words e =
      let r = roomy words e in
      let b = bounded r.0 in
      record {
        password = b.password;
        salt = b.salt;
        time = b.time;
        lanes_most = b.lanes_most;
        shared = b.shared;
        room = record {
          lanes_pos = b.lanes_least;
          rows_least = b.rows_least;
          rows_even = b.even;
          rows_most = omega (arith, b.shared, b.rows_most);
          columns_pos = b.columns_least;
          columns_most = b.columns_most;
          room = rw b.shared r.1;
        };
      }

  -- ---- the answer
  pub cost_no : {n number : ℕ} {r : Costs} → number ≡ n → (number ≡ 0 → ⊥) → r ≡ no_costs number → r ≡ lanes_answer n l q lanes
  unfolding lanes_answer
  cost_no e h f = answered_no _ _ e h (f ∙ ap no_costs e)

  pub cost_refused : {n : ℕ} (r : Refusal) → number_of r ≡ n → no_costs (number_of r) ≡ lanes_answer n l q lanes
  cost_refused r e = cost_no e (λ z. omega (arith, number_above r)) refl

  pub cost_yes : {n : ℕ} {P : Parameters} {r : Costs} → n ≡ 0 → P ≡ usual q → r ≡ spent_on (settings P) (lanes_full_cost lanes l) (reduced_cost (settings P)) → r ≡ lanes_answer n l q lanes
  unfolding lanes_answer lanes_costs
  cost_yes none usually spent = answered-yes _ _ none (spent ∙ (λ i. spent_on (settings (usually i)) (lanes_full_cost lanes l) (reduced_cost (settings (usually i)))))

-- the lanes at their start, of the eight that there is room for
begun_all : (n : ℕ) (x : Lane) → states_of (replicate n x) ≡ replicate n x.state
begun_all zero x = refl
begun_all (suc n) x = ap (λ (l : List (List ℕ)). x.state ∷ l) (begun_all n x)

pub begun_states : (n : ℕ) (x : Lane) → x.state ≡ start → n ≤ 8 → states_of (take n (replicate 8 x)) ≡ replicate n start
begun_states n x e le = ap states_of (take-replicate n 8 x le) ∙ begun_all n x ∙ ap (replicate n) e

pub begun_length : {A : Type 0} (n : ℕ) (x : A) → n ≤ 8 → length (take n (replicate 8 x)) ≡ n
begun_length n x le = ap length (take-replicate n 8 x le) ∙ length-replicate n x

-- counts of which one went through the clearing
pub counts_again : (s : Spent) {kept : ℕ} {c : Costs} → costs_of s ≡ c → kept ≡ s.full → costs_of (record { full = kept; reduced = s.reduced; rounds = s.rounds }) ≡ c
counts_again s e same = (λ i. record { refusal = 0; full = same i; reduced = s.reduced; rounds = s.rounds }) ∙ e

-- a zero is left in the matrix
first_cleared : (n : ℕ) (xs : List ℕ) → 1 ≤ n → get_or (cleared n xs) 0 0 ≡ 0
unfolding cleared zip_into
first_cleared zero xs h = absurd (omega arith)
first_cleared (suc n) [] h = refl
first_cleared (suc n) (x ∷ xs) h = refl

module _ (l : Lengths) (q : StoredParameters) (lanes words : ℕ) (none : first (lanes_checks l q lanes words) ≡ 0) where
  matrix_some : 1 ≤ q.rows * q.columns
  unfolding lanes_cost_checks
  matrix_some =
      let h = (roomy l q lanes words none).0 in
      let rows : 1 ≤ q.rows = omega arith in
      let columns : 1 ≤ q.columns = omega arith in
      mul-le-mul rows columns

  pub words_some : 1 ≤ words
  words_some = omega (arith, matrix_some, (roomy l q lanes words none).1)

  pub zero_left : (m : List ℕ) {m' : List ℕ} → m' ≡ cleared (matrix_words (settings (usual q))) m → get_or m' 0 0 ≡ 0
  zero_left m e = ap (λ (xs : List ℕ). get_or xs 0 0) e ∙ first_cleared _ m (omega (arith, matrix_some))

-- what a run of the lanes is asked with
pub begins : (l : Lengths) (q : StoredParameters) (lanes words : ℕ) {P : Parameters} {states : List (List ℕ)} → first (lanes_checks l q lanes words) ≡ 0 → P ≡ usual q
    → states ≡ replicate lanes start → Begins l P lanes words states
begins l q lanes words none usually states =
    let b = bounded l q lanes (roomy l q lanes words none).0 in
    record { fits = rw usually (fits_of l q lanes words none); key_least = b.key_least; key_most = b.key_most; rounds_most = rw usually (omega arith); states_are = states }

pub lanes_few : (l : Lengths) (q : StoredParameters) (lanes words : ℕ) → first (lanes_checks l q lanes words) ≡ 0 → lanes ≤ 8
lanes_few l q lanes words none = (bounded l q lanes (roomy l q lanes words none).0).lanes_most

pub length-lanes_key : (S : Settings) (lanes : ℕ) (x : Input) (matrix : List ℕ) → length (lanes_key_of S lanes x matrix) ≡ x.key_length
unfolding lanes_key_of
length-lanes_key S lanes x matrix = length_keys _ _ _ lanes
