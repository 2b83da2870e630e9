-- What is known of a call that no check turns down, and how lists of checks join. Assumes nothing.
use mathlib.Core.Path.{◌≡◌, refl, sym, ap, ◌∙◌}
use Prim.Native.Nat.{ℕ, ◌≤◌, ◌<◌, ◌+◌, ◌*◌}
use native.Mathlib.Omega.{arith}
use native.Mathlib.Nat.{le_trans, mul-le-mul}
use native.Mathlib.Decide.{ℕ_discrete}
use mathlib.Core.Logic.{◌≢◌}
use mathlib.Core.Bool.{Bool, true, false, cond, ◌||◌, true≢false}
use mathlib.Core.List.{List, [], ◌∷◌, ◌++◌}
use lib.Dec.{ltb}
use borrow.Author.Tests.{ltb-false, le-ltb}
use Rattle.settings.specs.declared.Parameters.{Parameters}
use Rattle.settings.specs.declared.Lengths.{Lengths}
use Rattle.refusals.proofs.Answered.{answered-yes, answered_no}
use Rattle.refusals.specs.Checks.{answered, flag, Bound, ◌≤?◌, Check, broken, refuses, first, Kept, Accepted, cost_checks, plain_checks, recorded_checks}

-- numbers above 0
abbrev pub Numbered : List Check → Type 0
Numbered [] = Unit {0}
Numbered (c ∷ cs) = (0 < c.number) × Numbered cs

pub neither : (t u : Bool) → (t || u) ≡ false → (t ≡ false) × (u ≡ false)
neither true u e = absurd (true≢false e)
neither false u e = (refl, e)

pub kept : (bounds : List Bound) → broken bounds ≡ false → Kept bounds
kept [] e = tt
kept (a ≤? b ∷ bounds) e = let p = neither (ltb b a) (broken bounds) e in (ltb-false _ _ p.0, kept bounds p.1)

-- something is so where its check is passed
pub flag-set : (b : Bool) → 1 ≤ flag b → b ≡ true
flag-set true h = refl
flag-set false h = absurd (omega arith)

-- a bound by itself
pub alone : (t : Bool) → t ≡ (t || false)
alone true = refl
alone false = refl

-- a check with a number above 0 that does not refuse leaves the rest to decide
passed : (b : Bool) (n r : ℕ) → 0 < n → cond b n r ≡ 0 → (b ≡ false) × (r ≡ 0)
passed true n r h e = absurd (omega arith)
passed false n r h e = (refl, e)

pub accepted : (cs : List Check) → Numbered cs → first cs ≡ 0 → Accepted cs
unfolding first
accepted [] h e = tt
accepted (c ∷ cs) h e =
    let p = passed (refuses c) c.number (first cs) h.0 e in (kept c.bounds p.0, accepted cs h.1 p.1)

unbroken : (bounds : List Bound) → Kept bounds → broken bounds ≡ false
unbroken [] k = refl
unbroken (a ≤? b ∷ bounds) k = λ i. le-ltb b a k.0 i || unbroken bounds k.1 i

pub accepts : (cs : List Check) → Accepted cs → first cs ≡ 0
unfolding first
accepts [] h = refl
accepts (c ∷ cs) h = ap (λ (b : Bool). cond b c.number (first cs)) (unbroken c.bounds h.0) ∙ accepts cs h.1

-- a check by itself
module _ (c : Check) (cs : List Check) where
  pub first_refused : refuses c ≡ true → first (c ∷ cs) ≡ c.number
  unfolding first
  first_refused e = ap (λ (b : Bool). cond b c.number (first cs)) e

  pub first_passed : refuses c ≡ false → first (c ∷ cs) ≡ first cs
  unfolding first
  first_passed e = ap (λ (b : Bool). cond b c.number (first cs)) e

-- no check, and a check before others, as `first_of` decides it
pub first_none : 0 ≡ first []
unfolding first
first_none = refl

pub first_of_is : (c : Check) (cs : List Check) {refused : Bool} {later r : ℕ} → refused ≡ refuses c → r ≡ cond refused c.number later → later ≡ first cs
    → r ≡ first (c ∷ cs)
unfolding first
first_of_is c cs e f g = f ∙ (λ i. cond (e i) c.number (g i))

-- the lists of the derivations
module _ (l : Lengths) (p : Parameters) (m : ℕ) where
  pub plain_accepted : first (plain_checks l p m) ≡ 0 → Accepted (plain_checks l p m)
  unfolding plain_checks cost_checks
  plain_accepted e = accepted (plain_checks l p m) (omega arith) e

  pub recorded_accepted : (v : ℕ) → first (recorded_checks l p m v) ≡ 0 → Accepted (plain_checks l p m)
  unfolding recorded_checks plain_checks cost_checks
  recorded_accepted v e = let h = accepted (recorded_checks l p m v) (omega arith) e in omega arith

-- ---- more checks: what the code returns where an earlier check refused, and what where none did

same_cond : (b : Bool) (n x y : ℕ) → (b ≡ false → x ≡ y) → cond b n x ≡ cond b n y
same_cond true n x y h = refl
same_cond false n x y h = h refl

first-append_refuse : (cs ds : List Check) → (first cs ≡ 0 → ⊥) → first (cs ++ ds) ≡ first cs
unfolding first
first-append_refuse [] ds h = absurd (h refl)
first-append_refuse (c ∷ cs) ds h =
    same_cond (refuses c) c.number (first (cs ++ ds)) (first cs)
    (λ e. first-append_refuse cs ds (λ z. h (ap (λ (b : Bool). cond b c.number (first cs)) e ∙ z)))

first-append_pass : (cs ds : List Check) → Numbered cs → first cs ≡ 0 → first (cs ++ ds) ≡ first ds
unfolding first
first-append_pass [] ds h e = refl
first-append_pass (c ∷ cs) ds h e =
    let p = passed (refuses c) c.number (first cs) h.0 e in
    ap (λ (b : Bool). cond b c.number (first (cs ++ ds))) p.0 ∙ first-append_pass cs ds h.1 p.1

-- where none of all refuses, none of the earlier ones does
pub first_before : (cs ds : List Check) → first (cs ++ ds) ≡ 0 → first cs ≡ 0
first_before cs ds e = go (ℕ_discrete (first cs) 0)
  where
    go : Dec (first cs ≡ 0) → first cs ≡ 0
    go (yes z) = z
    go (no h) = sym (first-append_refuse cs ds h) ∙ e

-- ---- which check gave a number

-- no check has this number
abbrev pub Without : ℕ → List Check → Type 0
Without n [] = Unit {0}
Without n (c ∷ cs) = (c.number ≢ n) × Without n cs

either : (b : Bool) (m n k : ℕ) → (m ≢ k) → (n ≡ k → ⊥) → cond b m n ≡ k → ⊥
either true m n k h later e = h e
either false m n k h later e = later e

pub first_other : (n : ℕ) (cs : List Check) → Without n cs → 0 < n → first cs ≡ n → ⊥
unfolding first
first_other n [] h p e = omega arith
first_other n (c ∷ cs) h p e = either (refuses c) c.number (first cs) n h.0 (first_other n cs h.1 p) e

refused_alone : (b : Bool) (n : ℕ) → 0 < n → cond b n 0 ≡ n → b ≡ true
refused_alone true n p e = refl
refused_alone false n p e = absurd (omega arith)

-- the last check, where no other has its number
pub first_last : (cs : List Check) (c : Check) → Numbered cs → Without c.number cs → 0 < c.number → first (cs ++ (c ∷ [])) ≡ c.number
    → (first cs ≡ 0) × (refuses c ≡ true)
unfolding first
first_last cs c numbered h p e = go (ℕ_discrete (first cs) 0)
  where
    go : Dec (first cs ≡ 0) → (first cs ≡ 0) × (refuses c ≡ true)
    go (yes z) = (z, refused_alone (refuses c) c.number p (sym (first-append_pass cs (c ∷ []) numbered z) ∙ e))
    go (no n) = absurd (first_other c.number cs h p (sym (first-append_refuse cs (c ∷ []) n) ∙ e))

module _ (cs ds : List Check) {number : ℕ} (e : number ≡ first cs) where
  pub more_refuse : (number ≡ 0 → ⊥) → number ≡ first (cs ++ ds)
  more_refuse h = e ∙ sym (first-append_refuse cs ds (λ z. h (e ∙ z)))

  pub more_pass : Numbered cs → number ≡ 0 → {r : ℕ} → r ≡ first ds → r ≡ first (cs ++ ds)
  more_pass h z f = f ∙ sym (first-append_pass cs ds h (sym e ∙ z))

-- the same, as `earlier_of` decides it
pub first-joined : (cs ds : List Check) → Numbered cs → {a b r : ℕ} → a ≡ first cs → b ≡ first ds → r ≡ answered a b a → r ≡ first (cs ++ ds)
first-joined cs ds h {a} {b} {r} ea eb er = go (ℕ_discrete a 0)
  where
    go : Dec (a ≡ 0) → r ≡ first (cs ++ ds)
    go (yes z) = more_pass cs ds ea h z (er ∙ sym (answered-yes b a z refl) ∙ eb)
    go (no n) = more_refuse cs ds (er ∙ sym (answered_no b a refl n refl) ∙ ea) (λ z. n (answered_no b a refl n refl ∙ sym er ∙ z))

-- ---- products within the limits

pub cells_most : (R C : ℕ) → R ≤ 16384 → C ≤ 256 → R * C ≤ 4194304
cells_most R C hR hC = le_trans (mul-le-mul hR hC) (omega arith)

pub visits_most : (R T : ℕ) → R ≤ 16384 → T ≤ 255 → R * T ≤ 4177920
visits_most R T hR hT = le_trans (mul-le-mul hR hT) (omega arith)

pub record_most : (R T C : ℕ) → R ≤ 16384 → T ≤ 255 → C ≤ 256 → R * T * (1 + C) ≤ 1073725440
record_most R T C hR hT hC =
    let visit : 1 + C ≤ 257 = omega arith in le_trans (mul-le-mul (visits_most R T hR hT) visit) (omega arith)
