-- What two works are compared by: the state, and the cells of a set of cell numbers. A step keeps the comparison where works are the
-- same before it exactly when they are the same after it; the steps of the walk are composed of such steps. Assumes nothing.
use mathlib.Core.Path.{◌≡◌}
use mathlib.Core.Logic.{◌↔◌}
use Prim.Native.Nat.{ℕ, suc, ◌*◌, ◌≤◌, ◌<◌}
use lib.ListN.{length}
use Rattle.lists.specs.Loop.{loop}
use Rattle.lists.proofs.LoopLaws.{loop_ind}
use Rattle.lists.proofs.Words.{AllWords}
use Rattle.permutation.proofs.State.{IsState}
use Rattle.columns.specs.Columns.{Work}
use Rattle.matrix.proofs.Apart.{cell}

-- a set of cell numbers
abbrev pub Cells : Type 1
Cells = ℕ → Type 0

-- all cells below a number
abbrev pub Below : ℕ → Cells
Below n x = x < n

pub record Same (P : Cells) (v w : Work) : Type 0 where
  pub state : v.state ≡ w.state
  pub cells : (q : ℕ) → P q → cell q v.matrix ≡ cell q w.matrix

-- a state, room for n cells, and words in the compared cells; nothing is known of the others
pub record Sound (n : ℕ) (P : Cells) (w : Work) : Type 0 where
  pub state : IsState w.state
  pub fits : 12 * n ≤ length w.matrix
  pub words : (q : ℕ) → P q → AllWords (cell q w.matrix)

-- a step from works compared on P to works compared on Q
pub record Keeps (n : ℕ) (P Q : Cells) (f : Work → Work) : Type 0 where
  pub sound : (w : Work) → Sound n P w → Sound n Q (f w)
  pub forth : (v w : Work) → Sound n P v → Sound n P w → Same P v w → Same Q (f v) (f w)
  pub back : (v w : Work) → Sound n P v → Sound n P w → Same Q (f v) (f w) → Same P v w

module _ {n : ℕ} where
  -- a set in other words
  pub keeps_same : {P Q : Cells} → ((q : ℕ) → P q ↔ Q q) → Keeps n P Q (λ w. w)
  keeps_same e =
      record {
        sound = λ w h. record { state = h.state; fits = h.fits; words = λ q hq. h.words q ((e q).1 hq) };
        forth = λ v w hv hw s. record { state = s.state; cells = λ q hq. s.cells q ((e q).1 hq) };
        back = λ v w hv hw s. record { state = s.state; cells = λ q hq. s.cells q ((e q).0 hq) };
      }

  pub keeps_then : {P Q U : Cells} {f g : Work → Work} → Keeps n P Q f → Keeps n Q U g → Keeps n P U (λ w. g (f w))
  keeps_then {f = f} kf kg =
      record {
        sound = λ w h. kg.sound (f w) (kf.sound w h);
        forth = λ v w hv hw s. kg.forth (f v) (f w) (kf.sound v hv) (kf.sound w hw) (kf.forth v w hv hw s);
        back = λ v w hv hw s. kf.back v w hv hw (kg.back (f v) (f w) (kf.sound v hv) (kf.sound w hw) s);
      }

  -- a loop, where step k leads from the set P k to the next
  pub keeps_loop : (P : ℕ → Cells) (f : ℕ → Work → Work) (k : ℕ) → ((i : ℕ) → i < k → Keeps n (P i) (P (suc i)) (f i))
      → Keeps n (P 0) (P k) (loop f k)
  keeps_loop P f k step =
      loop_ind f (λ i. Keeps n (P 0) (P i)) (keeps_same (λ q. (λ h. h, λ h. h))) k (λ i lt g kept. keeps_then kept (step i lt))
