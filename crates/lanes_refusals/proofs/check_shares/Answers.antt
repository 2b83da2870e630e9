-- The bounds of the lanes' check, one after the other. Assumes nothing.
use Rattle.std.proofs.Common.{◌≡◌, ◌≤◌, ◌/◌, ◌%◌, ℕ, Bool, ◌||◌, cond, List, [], ◌∷◌, ap, sym, ◌∙◌, arith}
use borrow.Author.Tests.{le-ltb}
use Rattle.refusals.specs.Checks.{◌≤?◌, Bound, broken, Check, refuses, range, at_least, lanes_check, first}
use Rattle.refusals.proofs.Accepted.{accepted}
use Rattle.refusals.proofs.Chained.{handed_on, refused, passed, split}
use Rattle.lanes_refusals.proofs.check_shares.Goals as goal

-- no number is below 0
from_zero : (x : ℕ) (bounds : List Bound) → broken (0 ≤? x ∷ bounds) ≡ broken bounds
from_zero x bounds = ap (λ (b : Bool). b || broken bounds) (le-ltb x 0 (omega arith))

-- each bound by itself
module _ (R p : ℕ) where
  abbrev within_limits : Check
  within_limits = range 20 1 8 p

  abbrev halves : Check
  halves = range 20 0 0 (R / 2 % p)

  abbrev even : Check
  even = range 20 0 0 (R % 2)

  abbrev enough : Check
  enough = at_least 20 4 (R / p)

  joined : {n : ℕ} → n ≡ first (within_limits ∷ halves ∷ even ∷ enough ∷ []) → n ≡ first (lanes_check R p ∷ [])
  unfolding first
  joined e =
      let half : Bound = (R / 2 % p) ≤? 0 in
      let odd : Bound = (R % 2) ≤? 0 in
      let few : Bound = 4 ≤? (R / p) in
      e
      ∙ (λ i. cond (refuses within_limits) 20 (cond (from_zero (R / 2 % p) (half ∷ []) i) 20 (cond (from_zero (R % 2) (odd ∷ []) i) 20 (first (enough ∷ [])))))
      ∙ ap (λ (n : ℕ). cond (refuses within_limits) 20 (cond (broken (half ∷ [])) 20 n)) (split 20 (odd ∷ []) (few ∷ []) [])
      ∙ ap (λ (n : ℕ). cond (refuses within_limits) 20 n) (split 20 (half ∷ []) (odd ∷ few ∷ []) [])
      ∙ split 20 (1 ≤? p ∷ p ≤? 8 ∷ []) (half ∷ odd ∷ few ∷ []) []

  positive : 0 ≡ first (within_limits ∷ []) → 1 ≤ p
  positive e = omega (arith, accepted (within_limits ∷ []) (omega arith) (sym e))

pub nonzero_rem-rows : goal.nonzero_rem-rows
nonzero_rem-rows c = omega (arith, positive c.args.rows c.args.lanes c.in_ok-within.ensures)

pub nonzero_div-rows-2 : goal.nonzero_div-rows-2
nonzero_div-rows-2 c = omega (arith, positive c.args.rows c.args.lanes c.in_ok-within.ensures)

pub returns-in_err-within : goal.returns-in_err-within
returns-in_err-within c =
    handed_on _ _ c.from_residual.ensures (λ h. joined c.args.rows c.args.lanes (refused (_ ∷ []) _ c.in_err-within.ensures h))

pub returns-in_err-within-2 : goal.returns-in_err-within-2
returns-in_err-within-2 c =
    handed_on _ _ c.from_residual-in_err-within-2.ensures
    (λ h. joined c.args.rows c.args.lanes
    (passed (_ ∷ []) _ (omega arith) c.in_ok-within.ensures (refused (_ ∷ []) _ c.in_err-within-2.ensures h)))

pub returns-in_err-within-3 : goal.returns-in_err-within-3
returns-in_err-within-3 c =
    handed_on _ _ c.from_residual-in_err-within-3.ensures
    (λ h. joined c.args.rows c.args.lanes
    (passed (_ ∷ []) _ (omega arith) c.in_ok-within.ensures
    (passed (_ ∷ []) _ (omega arith) c.in_ok-within-2.ensures (refused (_ ∷ []) _ c.in_err-within-3.ensures h))))

pub returns : goal.returns
returns c =
    joined c.args.rows c.args.lanes
    (passed (_ ∷ []) _ (omega arith) c.in_ok-within.ensures
    (passed (_ ∷ []) _ (omega arith) c.in_ok-within-2.ensures (passed (_ ∷ []) _ (omega arith) c.in_ok-within-3.ensures c.at_least.ensures)))
